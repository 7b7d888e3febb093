-- What the program replies to a text, a file, a run, a plan, an audit and a trace: a status and a report.
use Rattle.std.specs.Prelude.{ℕ, nat_lt, List, [], length, codes, if◌then◌else◌, Option, Some, None, Result, Ok, Err}
use Rattle.std.specs.Str.{bytes_eq}
use Rattle.def_script.specs.Bytes.{Bytes}
use Rattle.def_machine.specs.Stacks.{member}
use Rattle.def_machine.specs.Machine.{Given}
use Rattle.def_machine.specs.Run.{Outcome, accepted, refused, run}
use Rattle.def_tree.specs.Tree.{Tree}
use Rattle.def_emit.specs.Emit.{script_of}
use Rattle.def_assets.specs.Assets.{Assets}
use Rattle.def_sane.specs.declared.Rules.{Rules}
use Rattle.def_sane.specs.declared.Unfit.{Unfit}
use Rattle.def_files.specs.AssetFile.{assets_of}
use Rattle.def_files.specs.RunFile.{RunFile, run_of}
use Rattle.def_audit.specs.declared.Step.{Step}
use Rattle.def_trace.specs.Writers.{places_of}
use Rattle.def_plan.specs.Plan.{Plan, plan_of}
use Rattle.def_plan.specs.PlanFile.{plan_file_of}
use Rattle.def_answer.specs.declared.status.Status.{Status}
use Rattle.def_answer.specs.declared.status.Status.TheVariants as status
use Rattle.def_answer.specs.Lines.{line, text_line, unfit_line, MOST_FILE}
use Rattle.def_answer.specs.Files.{file_too_long_line, file_line}
use Rattle.def_answer.specs.Reading.{Reading}
use Rattle.def_answer.specs.Reading as reading
use Rattle.def_answer.specs.Satisfy.{satisfy_report}
use Rattle.def_answer.specs.Run.{run_report}
use Rattle.def_answer.specs.Plan.{plan_file_line, plan_report}
use Rattle.def_answer.specs.Audit.{wrong_script_line, not_accepted_line, audit_report}
use Rattle.def_answer.specs.Trace.{trace_report}

pub record Reply : Type 0 where
  pub status : Status
  pub report : Bytes

abbrev pub reply : Status → (report : Bytes) → Reply
reply status report = record { status = status; report = report }

abbrev pub usage_line : Bytes
usage_line = line (codes "refused usage")

abbrev pub usage_reply : Reply
usage_reply = reply status.Usage usage_line

-- ---- texts

-- the reason against a tree, or else what comes next
abbrev pub unless_unfit : Option Unfit → (offsets : List ℕ) → Reply → Reply
unless_unfit None offsets next = next
unless_unfit (Some unfit) offsets next = reply status.TextRefused (unfit_line offsets unfit)

-- the refusal of a text, the first reason against its tree, or else what comes next
abbrev pub text_reply : (first_reason : Tree → Option Unfit) → (next : Tree → Reply) → Reading → Reply
text_reply first_reason next (reading.read tree offsets) = unless_unfit (first_reason tree) offsets (next tree)
text_reply first_reason next (reading.refused fault) = reply status.TextRefused (text_line fault)

-- ---- files

-- the refusal, whose line this is, or else what comes next
abbrev pub with_file : {A E : Type 0} → (line : E → Bytes) → (next : A → Reply) → Result A E → Reply
with_file line next (Ok file) = next file
with_file line next (Err fault) = reply status.FileRefused (line fault)

-- the refusal of a file, or else what comes next
abbrev pub file_reply : {A E : Type 0} → (line : E → Bytes) → (file_of : Bytes → Result A E) → (next : A → Reply) →
    (source : Bytes) → Reply
file_reply line file_of next source =
    if nat_lt MOST_FILE (length source) then reply status.FileRefused file_too_long_line
    else with_file line next (file_of source)

-- ---- satisfactions and runs

abbrev pub no_satisfaction_line : Bytes
no_satisfaction_line = line (codes "no satisfaction")

-- the stack that was chosen, if there is one
abbrev pub chosen_reply : Rules → Tree → Assets → Option (List Bytes) → Reply
chosen_reply rules tree assets None = reply status.NoSatisfaction no_satisfaction_line
chosen_reply rules tree assets (Some stack) = reply status.Done (satisfy_report rules tree assets stack)

abbrev pub satisfy_reply : Rules → (choice : Tree → Assets → Option (List Bytes)) → (source : Bytes) → Tree → Reply
satisfy_reply rules choice source tree =
    file_reply file_line assets_of (λ assets. chosen_reply rules tree assets (choice tree assets)) source

abbrev pub outcome_reply : Outcome → Reply
outcome_reply (accepted ops peak checks) = reply status.Done (run_report (accepted ops peak checks))
outcome_reply (refused fault place) = reply status.ScriptRefused (run_report (refused fault place))

-- under the locks and the good pairs of a run file
abbrev pub given_by : RunFile → Given
given_by file = record { checker = member file.pairs; locks = file.locks }

abbrev pub run_reply : (source : Bytes) → Reply
run_reply source = file_reply file_line run_of (λ file. outcome_reply (run (given_by file) file.script file.stack)) source

-- ---- audits

-- the outcome of the run of a stack on a tree's Script, whose nodes have these offsets, with the steps by which the
-- stack satisfies the tree where it is accepted
abbrev pub audited_reply : (offsets : List ℕ) → List Step → Outcome → Reply
audited_reply offsets steps (accepted ops peak checks) = reply status.Done (audit_report offsets steps ops peak)
audited_reply offsets steps (refused fault place) = reply status.NotAccepted (not_accepted_line fault place)

-- the run of a file whose script is the tree's
abbrev pub witness_reply : (offsets : List ℕ) → List Step → Tree → RunFile → Reply
witness_reply offsets steps tree file =
    if bytes_eq file.script (script_of tree) then audited_reply offsets steps (run (given_by file) file.script file.stack)
    else reply status.NotAccepted wrong_script_line

abbrev pub audit_reply : (offsets : List ℕ) → List Step → (source : Bytes) → Tree → Reply
audit_reply offsets steps source tree = file_reply file_line run_of (witness_reply offsets steps tree) source

-- ---- traces

abbrev pub outcome_status : Outcome → Status
outcome_status (accepted ops peak checks) = status.Done
outcome_status (refused fault place) = status.ScriptRefused

-- the trace of the run of a file, with these places
abbrev pub traced_reply : (places : List ℕ) → RunFile → Reply
traced_reply places file =
    reply (outcome_status (run (given_by file) file.script file.stack)) (trace_report places (given_by file) file.script file.stack)

abbrev pub trace_reply : (source : Bytes) → Reply
trace_reply source = file_reply file_line run_of (traced_reply []) source

-- the trace of the run of a file whose script is that of a tree, whose nodes have these offsets
abbrev pub text_traced_reply : (offsets : List ℕ) → Tree → RunFile → Reply
text_traced_reply offsets tree file =
    if bytes_eq file.script (script_of tree) then traced_reply (places_of offsets tree) file
    else reply status.NotAccepted wrong_script_line

abbrev pub text_trace_reply : (offsets : List ℕ) → (source : Bytes) → Tree → Reply
text_trace_reply offsets source tree = file_reply file_line run_of (text_traced_reply offsets tree) source

-- ---- plans

-- the plan, if there is one
abbrev pub planned_reply : Option Plan → Reply
planned_reply None = reply status.NoSatisfaction no_satisfaction_line
planned_reply (Some plan) = reply status.Done (plan_report plan)

abbrev pub plan_reply : (source : Bytes) → Tree → Reply
plan_reply source tree = file_reply plan_file_line plan_file_of (λ file. planned_reply (plan_of tree file.assets file.table)) source
