-- What a step changed, as the code tells it: from two lengths before it, from the tops of both stacks and the pairs behind
-- it, and from whether all branches are taken behind it.
use Rattle.std.specs.Prelude.{ℕ, ◌-◌, Bool, List, [], ◌∷◌, ◌++◌, length, map, take, reverse, codes, decimal, ◌||◌, if◌then◌else◌}
use Rattle.hex.specs.Hex.{encode_lower}
use Rattle.def_script.specs.declared.Op.{Op}
use Rattle.def_script.specs.declared.Op.TheVariants as op
use Rattle.def_script.specs.Bytes.{Bytes}
use Rattle.def_script.specs.Item.{Item}
use Rattle.def_script.specs.Item as item
use Rattle.def_machine.specs.Machine.{is_branching}
use Rattle.def_machine.specs.Stacks.{Stack, Pairs}
use Rattle.def_trace.specs.Changes.{Change, pushed, opened, turned, closed, opcode_puts, pops, alt_changes, check_changes}
use Rattle.def_trace.specs.Trace.{Line, Event, stepped, skipped}
use Rattle.def_trace.specs.Written.{digits, instruction_text, line_end}
use Rattle.ms_interp.specs.declared.stepped.SteppedRun.{SteppedRun}
use Rattle.ms_interp.specs.Stepping.{main_of, alt_of, checks_of, live_of}
use Rattle.ms_trace.specs.declared.changes.Before.{Before}

abbrev pub brief_main : (puts before : ℕ) → (after : Stack) → List Change
brief_main puts before after = pops (before - (length after - puts)) ++ map pushed (reverse (take puts after))

-- the branch that was opened is taken where all are
abbrev pub brief_branch : Op → (live : Bool) → List Change
brief_branch op.If live = opened live ∷ []
brief_branch op.NotIf live = opened live ∷ []
brief_branch op.Else live = turned ∷ []
brief_branch op.EndIf live = closed ∷ []
brief_branch other live = []

abbrev pub brief : Op → (main_before checks_before : ℕ) → (main alt : Stack) → (live : Bool) → (checks : Pairs) → List Change
brief o main_before checks_before main alt live checks =
    brief_main (opcode_puts o main_before (length main)) main_before main ++ alt_changes o alt ++ brief_branch o live
    ++ check_changes checks_before checks

-- an element behind a word, and a pair
abbrev pub named_digits : (word element : Bytes) → Bytes
named_digits word element = word ++ digits element

abbrev pub check_word : Bytes × Bytes → Bytes
check_word pair = codes " check " ++ digits pair.0 ++ codes " " ++ digits pair.1

-- the line of an instruction that met no fault
abbrev pub brief_event : Item → Before → (main alt : Stack) → (live : Bool) → (checks : Pairs) → Event
brief_event (item.push bytes minimal) before main alt live checks = if before.live then stepped [] else skipped
brief_event (item.code o) before main alt live checks =
    if is_branching o || before.live then stepped (brief o before.main before.checks main alt live checks) else skipped
brief_event (item.fault fault) before main alt live checks = skipped

abbrev pub brief_line : (offset : ℕ) → Item → Before → (main alt : Stack) → (live : Bool) → (checks : Pairs) → Line
brief_line offset i before main alt live checks =
    record { placed = record { offset = offset; first = 0; item = i }; event = brief_event i before main alt live checks }

-- the same from the run behind the step
abbrev pub brief_of : Op → Before → (run : SteppedRun) → List Change
brief_of o before run = brief o before.main before.checks (main_of run) (alt_of run) (live_of run) (checks_of run)

abbrev pub line_behind : (offset : ℕ) → Item → Before → (run : SteppedRun) → Line
line_behind offset i before run = brief_line offset i before (main_of run) (alt_of run) (live_of run) (checks_of run)

abbrev pub before_of_run : (run : SteppedRun) → Before
before_of_run run = record { live = live_of run; main = length (main_of run); checks = length (checks_of run) }

-- the beginning of a line, up to what its instruction is called
abbrev pub head_text : (kind : Bytes) → (offset : ℕ) → Item → Bytes
head_text kind offset i = kind ++ decimal offset ++ codes " " ++ instruction_text i 0

-- and of one whose instruction can't be read
abbrev pub unread_text : (offset first : ℕ) → Bytes
unread_text offset first = codes "stop " ++ decimal offset ++ codes " " ++ (codes "byte " ++ encode_lower (first ∷ []))

-- the line of the list for such an instruction
abbrev pub listed_unread : (places : List ℕ) → (offset first : ℕ) → Bytes
listed_unread places offset first = codes "at " ++ decimal offset ++ codes " " ++ (codes "byte " ++ encode_lower (first ∷ [])) ++ line_end places
