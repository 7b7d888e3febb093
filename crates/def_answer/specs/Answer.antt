-- The program's answer: for each list of words and each content of the source a status and a report. The
-- words come first, then the text, the reasons against its tree, the file, and the satisfaction, the run, the plan, the
-- audit or the trace.
use Rattle.std.specs.Prelude.{◌≡◌, ◌⊎◌, ℕ, true, ⊤, List, [], map, Option, None, Some, unwrap_or, Ok}
use Rattle.std.specs.Result.{result_unwrap_or}
use Rattle.hex.specs.Hex.{decode_of}
use Rattle.def_script.specs.Bytes.{Bytes}
use Rattle.def_machine.specs.Stacks.{Pairs}
use Rattle.def_machine.specs.Run.{accepted, run}
use Rattle.def_tree.specs.Tree.{Key, Tree}
use Rattle.def_emit.specs.Emit.{script_of}
use Rattle.def_files.specs.RunFile.{RunFile, run_of}
use Rattle.def_sane.specs.declared.Rules.{Rules}
use Rattle.def_sane.specs.declared.Unfit.{Unfit}
use Rattle.def_sane.specs.Unfit.{first_unfit, first_unfit_valid, first_unfit_under, first_unfit_valid_under, IsValid}
use Rattle.def_audit.specs.declared.Step.{Step}
use Rattle.def_audit.specs.Derives.{Derives}
use Rattle.def_choice.specs.Cheapest.{cheapest}
use Rattle.def_choice.specs.Strict.{strict}
use Rattle.def_answer.specs.Satisfy.{chosen_by, reason_by}
use Rattle.def_decode.specs.Decoded.{IsReading, IsDecoded}
use Rattle.def_answer.specs.declared.status.Status.{Status}
use Rattle.def_answer.specs.declared.status.Status.TheVariants as status
use Rattle.def_answer.specs.Words.{Command, script, asm, outline, check, satisfy, gen, policy, plan, audit, trace, trace_text, decode, IsForm, HasNoForm}
use Rattle.def_answer.specs.Words as words
use Rattle.def_answer.specs.Generated.{generated_tree, generated_assets}
use Rattle.def_answer.specs.Reading.{Reading, HasReading}
use Rattle.def_answer.specs.Reading as reading
use Rattle.def_answer.specs.Script.{script_report}
use Rattle.def_answer.specs.Asm.{asm_report}
use Rattle.def_answer.specs.Outline.{outline_report, unfit_report}
use Rattle.def_answer.specs.Check.{check_report}
use Rattle.def_answer.specs.Gen.{gen_report}
use Rattle.def_answer.specs.Policy.{policy_report}
use Rattle.def_answer.specs.Decode.{decode_report, no_reading_line}
use Rattle.def_answer.specs.Reply.{Reply, reply, usage_reply, text_reply, satisfy_reply, given_by, run_reply, plan_reply, audit_reply, trace_reply, text_trace_reply}

-- the generated tree can always be satisfied
unfoldable pub gen_reply : (n : ℕ) → Reply
gen_reply n =
    reply status.Done (gen_report n (unwrap_or (strict (generated_tree n) (generated_assets n)) [])
    (unwrap_or (cheapest (generated_tree n) (generated_assets n)) []))

abbrev pub script_reply : Tree → Reply
script_reply tree = reply status.Done (script_report tree)

abbrev pub asm_reply : (offsets : List ℕ) → Tree → Reply
asm_reply offsets tree = reply status.Done (asm_report offsets tree)

-- of a tree that isn't sane the nodes too, and then the first reason
abbrev pub outlined_reply : (offsets : List ℕ) → Tree → Option Unfit → Reply
outlined_reply offsets tree None = reply status.Done (outline_report offsets tree)
outlined_reply offsets tree (Some unfit) = reply status.TextRefused (unfit_report offsets tree unfit)

abbrev pub tree_reply : Rules → (offsets : List ℕ) → Tree → Reply
tree_reply rules offsets tree = outlined_reply offsets tree (first_unfit_under rules tree)

-- no reason is asked for
abbrev pub no_reason : Tree → Option Unfit
no_reason tree = None

abbrev pub check_reply : Rules → Tree → Reply
check_reply rules tree = reply status.Done (check_report rules tree)

abbrev pub policy_reply : Tree → Reply
policy_reply tree = reply status.Done (policy_report tree)

-- the bytes that digits spell
abbrev pub bytes_of : (digits : Bytes) → Bytes
bytes_of digits = result_unwrap_or (decode_of digits) []

abbrev pub decode_reply : Tree → Reply
decode_reply tree = reply status.Done (decode_report tree)

abbrev pub no_reading_reply : Reply
no_reading_reply = reply status.NoReading no_reading_line

-- the reply to a Script: the tree that it is decoded to, or that it can't be read
abbrev pub RepliesToScript : (keys : List Key) → (bytes : Bytes) → Reply → Type 0
RepliesToScript keys bytes r =
    ((tree : Tree) × IsDecoded keys bytes tree × (r ≡ decode_reply tree))
    ⊎ (((tree : Tree) → ¬ IsReading keys bytes tree) × (r ≡ no_reading_reply))

-- the reply to a text, by its reading
abbrev pub RepliesToText : (text : Bytes) → (first_reason : Tree → Option Unfit) → (next : Tree → Reply) → Reply →
    Type 0
RepliesToText text first_reason next r =
    (reading : Reading) × HasReading text reading × (r ≡ text_reply first_reason next reading)

-- where the stack of a run file is accepted on the tree's Script, these are the steps by which it satisfies the tree
abbrev pub AreSteps : Tree → (source : Bytes) → List Step → Type 0
AreSteps tree source steps =
    (file : RunFile) (ops peak : ℕ) (checks : Pairs) → run_of source ≡ Ok file →
    run (given_by file) (script_of tree) file.stack ≡ accepted ops peak checks →
    Derives tree (given_by file) true steps file.stack

-- so they are for a text that is read as a valid tree
abbrev pub HasSteps : Reading → (source : Bytes) → List Step → Type 0
HasSteps (reading.read tree offsets) source steps = IsValid tree → AreSteps tree source steps
HasSteps (reading.refused fault) source steps = ⊤

-- the places of the nodes of a text
abbrev pub offsets_of : Reading → List ℕ
offsets_of (reading.read tree offsets) = offsets
offsets_of (reading.refused fault) = []

-- the reply to a text, by its reading and the places of its nodes
abbrev pub RepliesWithPlaces : (text : Bytes) → (first_reason : Tree → Option Unfit) →
    (next : (offsets : List ℕ) → Tree → Reply) → Reply → Type 0
RepliesWithPlaces text first_reason next r =
    (found : Reading) × HasReading text found × (r ≡ text_reply first_reason (next (offsets_of found)) found)

-- the reply to a text and a run file, with such steps
abbrev pub RepliesToAudit : (text source : Bytes) → Reply → Type 0
RepliesToAudit text source r =
    (found : Reading) × (steps : List Step) × HasReading text found × HasSteps found source steps
    × (r ≡ text_reply first_unfit_valid (audit_reply (offsets_of found) steps source) found)

-- the reply to a text and a run file whose script is that of the text
abbrev pub RepliesToTrace : (text source : Bytes) → Reply → Type 0
RepliesToTrace text source r = RepliesWithPlaces text first_unfit_valid (λ offsets. text_trace_reply offsets source) r

-- the reply to a command
abbrev pub Replies : Command → (source : Bytes) → Reply → Type 0
Replies (script rules text) source r = RepliesToText text (first_unfit_valid_under rules) script_reply r
Replies (asm rules text) source r = RepliesWithPlaces text (first_unfit_valid_under rules) asm_reply r
Replies (outline rules text) source r = RepliesWithPlaces text no_reason (tree_reply rules) r
Replies (check rules text) source r = RepliesToText text (first_unfit_under rules) (check_reply rules) r
Replies (satisfy choice rules text) source r = RepliesToText text (reason_by choice rules) (satisfy_reply rules (chosen_by choice) source) r
Replies words.run source r = r ≡ run_reply source
Replies (gen n) source r = r ≡ gen_reply n
Replies (policy text) source r = RepliesToText text first_unfit policy_reply r
Replies (plan text) source r = RepliesToText text first_unfit (plan_reply source) r
Replies (audit text) source r = RepliesToAudit text source r
Replies trace source r = r ≡ trace_reply source
Replies (trace_text text) source r = RepliesToTrace text source r
Replies (decode digits keys) source r = RepliesToScript (map bytes_of keys) (bytes_of digits) r

-- the reply to words: to their command, or where they have no form
abbrev pub RepliesToWords : (words : List Bytes) → (source : Bytes) → Reply → Type 0
RepliesToWords words source r =
    ((command : Command) × IsForm words command × Replies command source r) ⊎ (HasNoForm words × (r ≡ usage_reply))

-- the words and the source have this answer
pub record Answer (words : List Bytes) (source : Bytes) (status : Status) (report : Bytes) : Type 0 where
  pub replies : RepliesToWords words source (reply status report)
