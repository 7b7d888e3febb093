-- What an audit of a stack tells, as plain numbers.
use Rattle.std.specs.Prelude.{ℕ, not, Bool, false, if◌then◌else◌, List, [], map, Result, slice_index}
use Rattle.std.specs.List.{list_any}
use Rattle.std.specs.Str.{bytes_eq}
use Rattle.def_machine.specs.declared.Locks.{Locks}
use Rattle.def_machine.specs.Run.{Outcome, accepted, refused}
use Rattle.def_tree.specs.Tree.{Tree}
use Rattle.def_emit.specs.Emit.{script_of}
use Rattle.def_sane.specs.Unfit.{first_unfit_valid}
use Rattle.def_files.specs.declared.AssetFault.{AssetFault}
use Rattle.def_files.specs.RunFile.{RunFile}
use Rattle.def_audit.specs.declared.Step.{Step}
use Rattle.ms_answer_laws.specs.Laws.{steps_found}
use Rattle.def_answer.specs.Reading.{Reading, read, refused as not_read}
use Rattle.ms_replies.specs.Runs.{outcome_for}
use Rattle.ms_arrays.specs.ArrayRun.{RunArrays, run_of_arrays}
use Rattle.ms_calls.specs.declared.outcome.RunOutcome.{RunOutcome}
use Rattle.ms_calls.specs.declared.outcome.PlacedStep.{PlacedStep}
use Rattle.ms_calls.specs.Ran.{counted, faulty, numbers_of, code_without}
use Rattle.ms_calls.specs.Reasons.{code_of_fault, code_of_file}
use Rattle.ms_calls.specs.TextReply.{TextReply, told, text_refused, file_refused, no_satisfaction, value_after, unless_unfit, with_file}

pub record Audited : Type 0 where
  pub outcome : RunOutcome
  -- each step is by a canonical row
  pub canonical : Bool
  -- those of a stack that is accepted, in order
  pub steps : List PlacedStep

-- a step, at the offset of its node
abbrev pub placed : (offsets : List ℕ) → Step → PlacedStep
placed offsets step = record { place = slice_index offsets step.node; sat = step.sat; extra = step.extra }

-- a stack that isn't accepted has no steps
abbrev pub not_accepted : RunOutcome → Audited
not_accepted outcome = record { outcome = outcome; canonical = false; steps = [] }

-- what the run of a stack on a tree's Script comes to, with the steps by which it satisfies the tree where it is accepted
abbrev pub audited : (offsets : List ℕ) → List Step → Outcome → Audited
audited offsets steps (accepted ops peak checks) = record {
  outcome = counted ops peak;
  canonical = not (list_any (λ step. step.extra) steps);
  steps = map (placed offsets) steps;
}
audited offsets steps (refused fault place) = not_accepted (numbers_of (refused fault place))

-- the number of the fault that the script isn't that of the text: the next one after those of runs
abbrev pub WRONG_SCRIPT : ℕ
WRONG_SCRIPT = 23

-- of a stack whose script is the tree's
abbrev pub stack_audited : (offsets : List ℕ) → Tree → RunFile → Audited
stack_audited offsets tree file = audited offsets (steps_found tree file) (outcome_for tree file)

-- of a file, whose script has to be the tree's
abbrev pub audited_file : (offsets : List ℕ) → Tree → RunFile → Audited
audited_file offsets tree file =
    if bytes_eq file.script (script_of tree) then stack_audited offsets tree file
    else not_accepted (faulty WRONG_SCRIPT 0)

abbrev pub audited_given : (offsets : List ℕ) → (held : Result RunFile AssetFault) → Tree → TextReply Audited
audited_given offsets held tree = with_file code_of_file (λ file. told (audited_file offsets tree file)) held

-- of a text that is valid by the limits of policy
abbrev pub audit_given : (held : Result RunFile AssetFault) → Reading → TextReply Audited
audit_given held (read tree offsets) = unless_unfit (first_unfit_valid tree) offsets (audited_given offsets held tree)
audit_given held (not_read fault) = text_refused (code_of_fault fault)

-- by the values of the locks and arrays
abbrev pub audit_by : Locks → RunArrays → Reading → TextReply Audited
audit_by locks arrays = audit_given (run_of_arrays locks arrays)

-- ---- what stands after the call

abbrev pub audit_code : TextReply Audited → ℕ
audit_code (told found) = code_without 9 found.outcome.fault
audit_code (text_refused reason) = 2
audit_code (file_refused reason) = 3
audit_code no_satisfaction = 4

-- the outcome, whether all rows are canonical, and the steps
abbrev pub audited_outcome : TextReply Audited → TextReply RunOutcome
audited_outcome (told found) = told found.outcome
audited_outcome (text_refused reason) = text_refused reason
audited_outcome (file_refused reason) = file_refused reason
audited_outcome no_satisfaction = no_satisfaction

abbrev pub audited_canonical : TextReply Audited → TextReply Bool
audited_canonical (told found) = told found.canonical
audited_canonical (text_refused reason) = text_refused reason
audited_canonical (file_refused reason) = file_refused reason
audited_canonical no_satisfaction = no_satisfaction

abbrev pub audited_steps : TextReply Audited → TextReply (List PlacedStep)
audited_steps (told found) = told found.steps
audited_steps (text_refused reason) = text_refused reason
audited_steps (file_refused reason) = file_refused reason
audited_steps no_satisfaction = no_satisfaction

-- whether all rows are canonical, in place of what stood there before
abbrev pub canonical_after : (before : Bool) → TextReply Audited → Bool
canonical_after before given = value_after before (audited_canonical given)
