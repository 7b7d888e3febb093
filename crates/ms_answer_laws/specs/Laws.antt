-- What the definitions imply.
use Rattle.std.specs.Prelude.{◌≡◌, ◌⊎◌, ℕ, ◌+◌, ◌<◌, ◌≤◌, ⊤, List, [], ◌∷◌, ◌++◌, length, drop, All, IsUtf8, Option, IsSome, Result, Ok, Err, unwrap_or}
use Rattle.def_script.specs.Bytes.{Bytes}
use Rattle.def_script.specs.Instruction.{Instruction}
use Rattle.def_script.specs.Laws.{item_of}
use Rattle.def_script.specs.Spell.{spell_one}
use Rattle.def_tree.specs.Range.{IsWritable}
use Rattle.def_tree.specs.Tree.{Tree}
use Rattle.def_emit.specs.Emit.{emit, script_of}
use Rattle.def_trace.specs.Placed.{Placed, placed}
use Rattle.def_assets.specs.Assets.{Assets, AreAssets}
use Rattle.def_text.specs.Refusal.{TextReads}
use Rattle.def_types.specs.Typed.{IsTyped}
use Rattle.def_sane.specs.declared.Rules.{Rules}
use Rattle.def_sane.specs.Unfit.{IsValid, IsSane}
use Rattle.def_height.specs.Height.{IsHeight}
use Rattle.def_files.specs.declared.AssetFault.{AssetFault}
use Rattle.def_files.specs.RunFile.{RunFile, run_of}
use Rattle.def_audit.specs.declared.Step.{Step}
use Rattle.def_choice.specs.Cheapest.{cheapest}
use Rattle.def_choice.specs.Strict.{strict}
use Rattle.ms_audit_laws.specs.Walk.{trail_of}
use Rattle.def_answer.specs.declared.status.Status.{Status}
use Rattle.def_answer.specs.declared.status.Status.TheVariants as status
use Rattle.def_answer.specs.Words.{Command, audit, trace_text, decode, MOST_GENERATED, IsForm, HasNoForm}
use Rattle.def_answer.specs.Lines.{MOST_FILE}
use Rattle.def_answer.specs.Files.{file_too_long_line}
use Rattle.def_answer.specs.Generated.{generated_text, generated_tree, generated_assets}
use Rattle.def_answer.specs.TheHeight.{the_height}
use Rattle.def_answer.specs.Reply.{reply, satisfy_reply, given_by, run_reply, plan_reply, audit_reply, trace_reply, text_trace_reply}
use Rattle.def_answer.specs.Answer.{AreSteps, Answer}
use Rattle.def_answer.specs.Sources.{ReadsSource, IsOfSource, IsToFile}

-- ---- forms

-- words have at most one form, or none
abbrev pub OneForm : Type 0
OneForm = (words : List Bytes) (c d : Command) → IsForm words c → IsForm words d → c ≡ d

abbrev pub FormOrNone : Type 0
FormOrNone = (words : List Bytes) → ((c : Command) × IsForm words c) ⊎ HasNoForm words

-- ---- answers

-- words that are texts have exactly one answer
abbrev pub OneAnswer : Type 0
OneAnswer =
    (words : List Bytes) (source : Bytes) (s t : Status) (p q : Bytes) → All IsUtf8 words →
    Answer words source s p → Answer words source t q → (s ≡ t) × (p ≡ q)

abbrev pub SomeAnswer : Type 0
SomeAnswer =
    (words : List Bytes) (source : Bytes) → All IsUtf8 words → (s : Status) × (p : Bytes) × Answer words source s p

-- the statuses that answers have; the others come of faults and want of memory alone
abbrev pub IsAnswered : Status → Type 0
IsAnswered status.Done = ⊤
IsAnswered status.Usage = ⊤
IsAnswered status.TextRefused = ⊤
IsAnswered status.FileRefused = ⊤
IsAnswered status.NoSatisfaction = ⊤
IsAnswered status.ReadFault = ⊥
IsAnswered status.WriteFault = ⊥
IsAnswered status.Memory = ⊥
IsAnswered status.ScriptRefused = ⊤
IsAnswered status.NotAccepted = ⊤
IsAnswered status.NoReading = ⊤

abbrev pub AnswersHaveStatus : Type 0
AnswersHaveStatus =
    (words : List Bytes) (source : Bytes) (s : Status) (p : Bytes) → Answer words source s p → IsAnswered s

-- only `decode` is answered by that there is no reading
abbrev pub NoReadingIsOfDecode : Type 0
NoReadingIsOfDecode =
    (words : List Bytes) (source : Bytes) (p : Bytes) → Answer words source status.NoReading p →
    (digits : Bytes) × (keys : List Bytes) × IsForm words (decode digits keys)

-- only `audit` is answered by that a stack isn't accepted, and `trace` with a text by that a script isn't the text's
abbrev pub NotAcceptedIsOfWitness : Type 0
NotAcceptedIsOfWitness =
    (words : List Bytes) (source : Bytes) (p : Bytes) → Answer words source status.NotAccepted p →
    (text : Bytes) × (IsForm words (audit text) ⊎ IsForm words (trace_text text))

-- the steps that a walk over a tree and the stack of a run file finds
abbrev pub steps_found : Tree → RunFile → List Step
steps_found tree file = unwrap_or (trail_of tree (given_by file) file.stack) []

abbrev pub steps_in : Tree → Result RunFile AssetFault → List Step
steps_in tree (Ok file) = steps_found tree file
steps_in tree (Err fault) = []

abbrev pub walked : Tree → (source : Bytes) → List Step
walked tree source = steps_in tree (run_of source)

-- are those of the audit, for a valid tree that can be written
abbrev pub WalkedAreSteps : Type 0
WalkedAreSteps = (tree : Tree) (source : Bytes) → IsWritable tree → IsValid tree → AreSteps tree source (walked tree source)

-- ---- what needs the source

-- words that don't read the source have the same answer with every source
abbrev pub AnswerWithoutSource : Type 0
AnswerWithoutSource =
    (words : List Bytes) (source other : Bytes) (s : Status) (p : Bytes) → ¬ ReadsSource words →
    Answer words source s p → Answer words other s p

-- and its status tells nothing of the source
abbrev pub StatusWithoutSource : Type 0
StatusWithoutSource =
    (words : List Bytes) (source : Bytes) (s : Status) (p : Bytes) → ¬ ReadsSource words → Answer words source s p →
    ¬ IsOfSource s

-- words that read it are answered by what it holds: neither they nor their text are refused
abbrev pub StatusWithSource : Type 0
StatusWithSource =
    (words : List Bytes) (source : Bytes) (s : Status) (p : Bytes) → All IsUtf8 words → ReadsSource words →
    Answer words source s p → IsToFile s

-- a file that is too long is refused, whatever it says
abbrev pub LongAssetFile : Type 0
LongAssetFile =
    (rules : Rules) (choice : Tree → Assets → Option (List Bytes)) (source : Bytes) (tree : Tree) → MOST_FILE < length source →
    satisfy_reply rules choice source tree ≡ reply status.FileRefused file_too_long_line

abbrev pub LongRunFile : Type 0
LongRunFile =
    (source : Bytes) → MOST_FILE < length source → run_reply source ≡ reply status.FileRefused file_too_long_line

abbrev pub LongPlanFile : Type 0
LongPlanFile =
    (source : Bytes) (tree : Tree) → MOST_FILE < length source → plan_reply source tree ≡ reply status.FileRefused file_too_long_line

abbrev pub LongAuditFile : Type 0
LongAuditFile =
    (offsets : List ℕ) (steps : List Step) (source : Bytes) (tree : Tree) → MOST_FILE < length source →
    audit_reply offsets steps source tree ≡ reply status.FileRefused file_too_long_line

abbrev pub LongTraceFile : Type 0
LongTraceFile =
    (source : Bytes) → MOST_FILE < length source → trace_reply source ≡ reply status.FileRefused file_too_long_line

abbrev pub LongTextTraceFile : Type 0
LongTextTraceFile =
    (offsets : List ℕ) (source : Bytes) (tree : Tree) → MOST_FILE < length source →
    text_trace_reply offsets source tree ≡ reply status.FileRefused file_too_long_line

-- ---- the instructions that `asm` lists

-- the script, from a place on, is the shortest spellings of these instructions, one after the other; and each was placed where
-- its spelling begins
abbrev pub Stand : (script : Bytes) → (place : ℕ) → List Placed → List Instruction → Type 0
Stand script place [] [] = drop place script ≡ []
Stand script place (p ∷ ps) (i ∷ is) =
    (p.offset ≡ place) × (p.item ≡ item_of i) × ((rest : Bytes) × (drop place script ≡ spell_one i ++ rest))
    × Stand script (place + length (spell_one i)) ps is
Stand script place ps is = ⊥

-- so are those of the Script of a tree that can be written
abbrev pub InstructionsStand : Type 0
InstructionsStand = (tree : Tree) → IsWritable tree → Stand (script_of tree) 0 (placed (script_of tree)) (emit tree)

-- ---- what is generated

-- the generated text is read as the generated tree
abbrev pub GeneratedIsRead : Type 0
GeneratedIsRead =
    (n : ℕ) → 1 ≤ n → n ≤ MOST_GENERATED → (offsets : List ℕ) × TextReads (generated_text n) (generated_tree n) offsets

abbrev pub GeneratedIsSane : Type 0
GeneratedIsSane = (n : ℕ) → 1 ≤ n → n ≤ MOST_GENERATED → IsSane (generated_tree n)

abbrev pub GeneratedAreAssets : Type 0
GeneratedAreAssets = (n : ℕ) → n ≤ MOST_GENERATED → AreAssets (generated_assets n)

-- and with these assets the generated tree has both satisfactions
abbrev pub GeneratedIsSatisfied : Type 0
GeneratedIsSatisfied =
    (n : ℕ) → 1 ≤ n → n ≤ MOST_GENERATED →
    IsSome (cheapest (generated_tree n) (generated_assets n))
    × IsSome (strict (generated_tree n) (generated_assets n))

-- ---- the height that reports tell

-- of a tree with a correctness type it is the height
abbrev pub ItIsTheHeight : Type 0
ItIsTheHeight = (tree : Tree) → IsTyped tree → IsHeight tree (the_height tree)

-- and the tree has no other
abbrev pub ItIsTheOnlyHeight : Type 0
ItIsTheOnlyHeight = (tree : Tree) → IsTyped tree → (h : ℕ) → IsHeight tree h → h ≡ the_height tree
