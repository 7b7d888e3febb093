-- The characters of traces and of listings.
use Rattle.std.proofs.Common.{ℕ, zero, suc, ◌+◌, ◌-◌, ◌==◌, ◌<◌, Bool, true, false, List, [], ◌∷◌, ◌++◌, length, map, take, drop, reverse, Ok, Err, refl, if◌then◌else◌}
use Rattle.std.specs.Prelude.{⊤, codes, decimal}
use Rattle.hex.specs.Hex.{encode_lower}
use Rattle.def_script.specs.declared.Op.{Op}
use Rattle.def_script.specs.declared.Op.TheVariants as op
use Rattle.def_script.specs.Bytes.{Bytes, IsBytes}
use Rattle.def_script.specs.Item.{Item}
use Rattle.def_script.specs.Item as item
use Rattle.def_script.specs.Items.{ItemReading, first_item}
use Rattle.def_machine.specs.Faults.{OrFault}
use Rattle.def_machine.specs.Stacks.{Stack, Pairs}
use Rattle.def_machine.specs.Machine.{Given, State, step}
use Rattle.def_machine.specs.Run.{start}
use Rattle.def_trace.specs.Placed.{Placed, placed_by, placed_after, placed}
use Rattle.def_trace.specs.Seen.{seen}
use Rattle.def_trace.specs.Changes.{Change, popped, pushed, alt_pushed, alt_popped, opened, turned, closed, checked, opcode_puts, pops, main_changes, alt_changes, branch_changes, check_changes, changes}
use Rattle.def_trace.specs.Trace.{Event, Line, stepped, skipped, stopped, is_carried_out, line_of, then_lines, lines, trace}
use Rattle.def_trace.specs.Written.{digits, op_name, instruction_text, change_text, kind_word, changes_text, line_text, node_text, line_end, written}
use Rattle.def_trace.specs.Listing.{listed, listing}
use Rattle.def_lines.proofs.Lists.{Every, every_joined, every_mapped, every_taken, every_dropped, every_turned}
use Rattle.ms_line_laws.proofs.Scripts.{no_bytes, more_bytes}
use Rattle.ms_line_laws.proofs.Machine.{AreBytes, ArePairs, HasBytes, Gives, IsItem, IsItemRead, first_is_read, step_holds, start_holds}
use Rattle.ms_line_laws.proofs.Plainly.{AreReported, reported, each_reported, decimal_reported, hex_reported}

-- ---- instructions

digits_reported : (bytes : Bytes) → IsBytes bytes → AreReported (digits bytes)
digits_reported [] h = refl
digits_reported (byte ∷ bytes) h = hex_reported (byte ∷ bytes) h

op_reported : (o : Op) → AreReported (op_name o)
op_reported op.If = refl
op_reported op.NotIf = refl
op_reported op.Else = refl
op_reported op.EndIf = refl
op_reported op.Verify = refl
op_reported op.ToAltStack = refl
op_reported op.FromAltStack = refl
op_reported op.IfDup = refl
op_reported op.Dup = refl
op_reported op.Swap = refl
op_reported op.Size = refl
op_reported op.Equal = refl
op_reported op.EqualVerify = refl
op_reported op.ZeroNotEqual = refl
op_reported op.Add = refl
op_reported op.BoolAnd = refl
op_reported op.BoolOr = refl
op_reported op.Ripemd160 = refl
op_reported op.Sha256 = refl
op_reported op.Hash160 = refl
op_reported op.Hash256 = refl
op_reported op.CheckSig = refl
op_reported op.CheckSigVerify = refl
op_reported op.CheckMultiSig = refl
op_reported op.CheckMultiSigVerify = refl
op_reported op.CheckLockTimeVerify = refl
op_reported op.CheckSequenceVerify = refl

-- it was read from bytes
pub record IsPlaced (p : Placed) : Type 0 where
  pub first : p.first < 256
  pub item : IsItem p.item

instruction_reported : (i : Item) (first : ℕ) → first < 256 → IsItem i → AreReported (instruction_text i first)
instruction_reported (item.push bytes minimal) first low h = reported (codes "push ") (digits bytes) refl (digits_reported bytes h)
instruction_reported (item.code o) first low h = op_reported o
instruction_reported (item.fault fault) first low h =
    reported (codes "byte ") (encode_lower (first ∷ [])) refl (hex_reported (first ∷ []) (more_bytes first [] low no_bytes))

placed_by_are : (offset first : ℕ) (r : ItemReading) (next : ℕ → List Placed) → first < 256 → IsItemRead r → ((n : ℕ) → Every IsPlaced (next n))
    → Every IsPlaced (placed_by offset first r next)
placed_by_are offset first (Ok read) next low h on = (record { first = low; item = h }, on read.1)
placed_by_are offset first (Err fault) next low h on = (record { first = low; item = tt }, tt)

placed_after_are : (offset over : ℕ) (bytes : Bytes) → IsBytes bytes → Every IsPlaced (placed_after offset over bytes)
unfolding placed_after
placed_after_are offset over [] h = tt
placed_after_are offset zero (byte ∷ bytes) h =
    let rest : IsBytes bytes = λ i. h (suc i) in
    placed_by_are offset byte (first_item byte bytes) (λ taken. placed_after (offset + 1) taken bytes) (h 0) (first_is_read byte bytes rest)
    (λ taken. placed_after_are (offset + 1) taken bytes rest)
placed_after_are offset (suc over) (byte ∷ bytes) h = placed_after_are (offset + 1) over bytes (λ i. h (suc i))

-- ---- listings

end_reported : (places : List ℕ) → AreReported (line_end places)
end_reported [] = refl
end_reported (place ∷ places) =
    reported (node_text place) (10 ∷ []) (reported (codes " node ") (decimal place) refl (decimal_reported place)) refl

pub listing_reported : (places : List ℕ) (ps : List Placed) → Every IsPlaced ps → AreReported (listing places ps)
unfolding listing
listing_reported places [] h = refl
listing_reported places (p ∷ ps) h =
    let text = instruction_text p.item p.first in
    let it = h.0 in
    reported (listed places p) (listing (drop 1 places) ps)
    (reported (codes "at " ++ decimal p.offset ++ codes " " ++ text) (line_end places)
    (reported (codes "at " ++ decimal p.offset ++ codes " ") text
    (reported (codes "at " ++ decimal p.offset) (codes " ") (reported (codes "at ") (decimal p.offset) refl (decimal_reported p.offset)) refl)
    (instruction_reported p.item p.first it.first it.item)) (end_reported places))
    (listing_reported (drop 1 places) ps h.1)

pub placed_are : (script : Bytes) → IsBytes script → Every IsPlaced (placed script)
placed_are script h = placed_after_are 0 0 script h

-- ---- changes

abbrev IsChange : Change → Type 0
IsChange (popped count) = ⊤
IsChange (pushed element) = IsBytes element
IsChange (alt_pushed element) = IsBytes element
IsChange alt_popped = ⊤
IsChange (opened taken) = ⊤
IsChange turned = ⊤
IsChange closed = ⊤
IsChange (checked pair) = IsBytes pair.0 × IsBytes pair.1

change_reported : (c : Change) → IsChange c → AreReported (change_text c)
change_reported (popped count) h = reported (codes " pop ") (decimal count) refl (decimal_reported count)
change_reported (pushed element) h = reported (codes " push ") (digits element) refl (digits_reported element h)
change_reported (alt_pushed element) h = reported (codes " altpush ") (digits element) refl (digits_reported element h)
change_reported alt_popped h = refl
change_reported (opened true) h = refl
change_reported (opened false) h = refl
change_reported turned h = refl
change_reported closed h = refl
change_reported (checked pair) h =
    reported (codes " check " ++ digits pair.0 ++ codes " ") (digits pair.1)
    (reported (codes " check " ++ digits pair.0) (codes " ") (reported (codes " check ") (digits pair.0) refl (digits_reported pair.0 h.0)) refl)
    (digits_reported pair.1 h.1)

pops_are : (b : Bool) (count : ℕ) → Every IsChange (if b then [] else popped count ∷ [])
pops_are true count = tt
pops_are false count = (tt, tt)

main_are : (puts before : ℕ) (after : Stack) → AreBytes after → Every IsChange (main_changes puts before after)
main_are puts before after h =
    every_joined IsChange (pops (before + puts - length after)) (map pushed (reverse (take puts after)))
    (pops_are (before + puts - length after == 0) (before + puts - length after))
    (every_mapped IsChange pushed (reverse (take puts after)) (every_turned IsBytes (take puts after) (every_taken IsBytes puts after h)))

moved_are : (after : Stack) → AreBytes after → Every IsChange (map alt_pushed (take 1 after))
moved_are after h = every_mapped IsChange alt_pushed (take 1 after) (every_taken IsBytes 1 after h)

alt_are : (o : Op) (after : Stack) → AreBytes after → Every IsChange (alt_changes o after)
alt_are op.ToAltStack after h = moved_are after h
alt_are op.FromAltStack after h = (tt, tt)
alt_are other after h = tt

opened_are : (branches : List Bool) → Every IsChange (map opened branches)
opened_are [] = tt
opened_are (taken ∷ branches) = (tt, opened_are branches)

branches_are : (o : Op) (after : List Bool) → Every IsChange (branch_changes o after)
branches_are op.If after = opened_are (take 1 after)
branches_are op.NotIf after = opened_are (take 1 after)
branches_are op.Else after = (tt, tt)
branches_are op.EndIf after = (tt, tt)
branches_are other after = tt

checks_are : (before : ℕ) (after : Pairs) → ArePairs after → Every IsChange (check_changes before after)
checks_are before after h = every_mapped IsChange checked (drop before after) (every_dropped _ before after h)

changes_are : (i : Item) (s t : State) → HasBytes t → Every IsChange (changes i (seen s) (seen t))
unfolding changes
changes_are (item.push bytes minimal) s t h = tt
changes_are (item.code o) s t h =
    let main = main_changes (opcode_puts o (length s.main) (length t.main)) (length s.main) t.main in
    let alt = alt_changes o t.alt in
    let branches = branch_changes o t.branches in
    every_joined IsChange (main ++ alt ++ branches) (check_changes (length s.checks) t.checks)
    (every_joined IsChange (main ++ alt) branches
    (every_joined IsChange main alt (main_are (opcode_puts o (length s.main) (length t.main)) (length s.main) t.main h.main) (alt_are o t.alt h.alt))
    (branches_are o t.branches))
    (checks_are (length s.checks) t.checks h.checks)
changes_are (item.fault fault) s t h = tt

-- ---- lines

event_reported : (p : Placed) (e : Event) → IsPlaced p → AreReported (changes_text e) → AreReported (kind_word e) → AreReported (line_text (record { placed = p; event = e }))
unfolding line_text
event_reported p e h c k =
    let text = instruction_text p.item p.first in
    reported (kind_word e ++ decimal p.offset ++ codes " " ++ text) (changes_text e)
    (reported (kind_word e ++ decimal p.offset ++ codes " ") text
    (reported (kind_word e ++ decimal p.offset) (codes " ") (reported (kind_word e) (decimal p.offset) k (decimal_reported p.offset)) refl)
    (instruction_reported p.item p.first h.first h.item)) c

stepped_reported : (b : Bool) (p : Placed) (cs : List Change) → IsPlaced p → Every IsChange cs
    → AreReported (line_text (record { placed = p; event = if b then stepped cs else skipped }))
stepped_reported true p cs h c = event_reported p (stepped cs) h (each_reported change_text IsChange change_reported cs c) refl
stepped_reported false p cs h c = event_reported p skipped h refl refl

line_reported : (p : Placed) (s : State) (next : OrFault State) → IsPlaced p → Gives HasBytes next → AreReported (line_text (line_of p s next))
line_reported p s (Ok t) h n = stepped_reported (is_carried_out p.item s) p (changes p.item (seen s) (seen t)) h (changes_are p.item s t n)
line_reported p s (Err fault) h n = event_reported p stopped h refl refl

abbrev IsLine : Line → Type 0
IsLine l = AreReported (line_text l)

then_are : (r : OrFault State) (next : State → List Line) → Gives HasBytes r → ((s : State) → HasBytes s → Every IsLine (next s)) → Every IsLine (then_lines r next)
then_are (Ok s) next h on = on s h
then_are (Err fault) next h on = tt

lines_are : (given : Given) (ps : List Placed) (s : State) → Every IsPlaced ps → HasBytes s → Every IsLine (lines given ps s)
unfolding lines
lines_are given [] s p h = tt
lines_are given (i ∷ ps) s p h =
    let it = p.0 in
    let next = step_holds given i.item s it.item h in
    (line_reported i s (step given i.item s) p.0 next, then_are (step given i.item s) (λ t. lines given ps t) next (λ t k. lines_are given ps t p.1 k))

trace_are : (given : Given) (script : Bytes) (stack : List Bytes) → IsBytes script → Every IsBytes stack → Every IsLine (trace given script stack)
unfolding trace
trace_are given script stack s h =
    then_are (start script (reverse stack)) (λ t. lines given (placed script) t) (start_holds script (reverse stack) (every_turned IsBytes stack h))
    (λ t k. lines_are given (placed script) t (placed_are script s) k)

written_reported : (places : List ℕ) (ls : List Line) → Every IsLine ls → AreReported (written places ls)
unfolding written
written_reported places [] h = refl
written_reported places (l ∷ ls) h =
    reported (line_text l ++ line_end places) (written (drop 1 places) ls) (reported (line_text l) (line_end places) h.0 (end_reported places))
    (written_reported (drop 1 places) ls h.1)

pub trace_reported : (places : List ℕ) (given : Given) (script : Bytes) (stack : List Bytes) → IsBytes script → Every IsBytes stack
    → AreReported (written places (trace given script stack))
trace_reported places given script stack s h = written_reported places (trace given script stack) (trace_are given script stack s h)
