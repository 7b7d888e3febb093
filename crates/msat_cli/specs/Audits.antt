-- What a call of `msat` for `audit TEXT` shows.
use Rattle.std.specs.Prelude.{◌≡◌, ◌≢◌, ◌⊎◌, ℕ, ◌≤◌, ◌++◌, true, List, length, flat_map, codes, decimal, Some, Ok}
use Rattle.std.specs.Io.KnownBytes.{Appends}
use Rattle.def_script.specs.Bytes.{Bytes}
use Rattle.def_machine.specs.declared.ScriptFault.{ScriptFault}
use Rattle.def_machine.specs.Stacks.{Pairs}
use Rattle.def_machine.specs.Run.{Outcome, accepted, refused, run}
use Rattle.def_tree.specs.Tree.{Tree}
use Rattle.def_emit.specs.Emit.{script_of}
use Rattle.def_text.specs.Refusal.{TextReads}
use Rattle.def_sane.specs.Unfit.{IsValid}
use Rattle.def_files.specs.RunFile.{RunFile, run_of}
use Rattle.def_audit.specs.declared.Step.{Step}
use Rattle.def_audit.specs.Derives.{Derives}
use Rattle.def_answer.specs.declared.status.Status.TheVariants as status
use Rattle.def_answer.specs.Lines.{line, MOST_FILE}
use Rattle.def_answer.specs.Run.{script_fault_name}
use Rattle.def_answer.specs.Audit.{step_line, canonical_line}
use Rattle.def_answer.specs.Reply.{given_by}
use Rattle.def_answer.specs.Words.{audit, trace_text, IsForm}
use Rattle.ms_io.specs.Sides.{Side}
use Rattle.msat_cli.specs.Calls.{Call, EndsAs}

-- the words ask for the audit of a text, which is read as this tree, a valid one, with these places of its nodes; and the
-- source tells a run file, which is read as this one
pub record AsksAudit (call : Call) (tree : Tree) (offsets : List ℕ) (file : RunFile) : Type 0 where
  pub text : Bytes
  pub form : IsForm call.words (audit text)
  pub reads : TextReads text tree offsets
  pub valid : IsValid tree
  pub bytes : Bytes
  pub told : call.source.old ≡ Some bytes
  pub short : length bytes ≤ MOST_FILE
  pub given : run_of bytes ≡ Ok file

-- the file has the tree's Script, whose run on its stack has this outcome
pub record RunsTo (tree : Tree) (file : RunFile) (outcome : Outcome) : Type 0 where
  pub script : file.script ≡ script_of tree
  pub run : run (given_by file) (script_of tree) file.stack ≡ outcome

-- what the sink got of a stack that is accepted: the counts of the run, the steps by which the stack satisfies the tree,
-- by no others, and whether all are by canonical rows
pub record PrintsSteps (sink : Side) (tree : Tree) (offsets : List ℕ) (file : RunFile) : Type 0 where
  pub ops : ℕ
  pub peak : ℕ
  pub checks : Pairs
  pub runs : RunsTo tree file (accepted ops peak checks)
  pub steps : List Step
  pub derives : Derives tree (given_by file) true steps file.stack
  pub unique : (others : List Step) → Derives tree (given_by file) true others file.stack → others ≡ steps
  pub written : Appends sink.old sink.new (
      line (codes "accepted ops " ++ decimal ops ++ codes " peak " ++ decimal peak)
      ++ flat_map (step_line offsets) steps ++ canonical_line steps)

-- of another one: that the file has another script
pub record PrintsWrongScript (sink : Side) (tree : Tree) (file : RunFile) : Type 0 where
  pub other : file.script ≢ script_of tree
  pub written : Appends sink.old sink.new (line (codes "not accepted WrongScript"))

-- or the fault of the run, and its place
pub record PrintsFault (sink : Side) (tree : Tree) (file : RunFile) : Type 0 where
  pub fault : ScriptFault
  pub place : ℕ
  pub runs : RunsTo tree file (refused fault place)
  pub written : Appends sink.old sink.new (line (codes "not accepted " ++ script_fault_name fault ++ codes " at " ++ decimal place))

-- faults and want of memory aside, the call is done exactly where the file has the tree's Script and its run is accepted, and
-- ends with the other status exactly where it has another script or its run is refused
pub record Audited (call : Call) (tree : Tree) (offsets : List ℕ) (file : RunFile) : Type 0 where
  pub where_accepted : (ops peak : ℕ) (checks : Pairs) → RunsTo tree file (accepted ops peak checks) → EndsAs status.Done call
  pub where_refused : (fault : ScriptFault) (place : ℕ) → RunsTo tree file (refused fault place) → EndsAs status.NotAccepted call
  pub where_other : file.script ≢ script_of tree → EndsAs status.NotAccepted call
  pub done : call.status ≡ status.Done → PrintsSteps call.sink tree offsets file
  pub not_accepted : call.status ≡ status.NotAccepted → PrintsWrongScript call.sink tree file ⊎ PrintsFault call.sink tree file

-- words that ask for an audit do so; and no others end with that status, but `trace TEXT` where the script isn't the text's
pub record ShowsAudit (call : Call) : Type 0 where
  pub audits : (tree : Tree) (offsets : List ℕ) (file : RunFile) → AsksAudit call tree offsets file → Audited call tree offsets file
  pub asked : call.status ≡ status.NotAccepted →
      (text : Bytes) × (IsForm call.words (audit text) ⊎ IsForm call.words (trace_text text))
