-- What a call of `msat` for `trace` or `trace TEXT` shows.
use Rattle.std.specs.Prelude.{◌≡◌, ◌≢◌, ◌⊎◌, ℕ, ◌≤◌, ◌++◌, List, [], ◌∷◌, length, flat_map, codes, decimal, Some, Ok}
use Rattle.std.specs.Io.KnownBytes.{Appends}
use Rattle.def_script.specs.Bytes.{Bytes}
use Rattle.def_machine.specs.declared.ScriptFault.{ScriptFault}
use Rattle.def_machine.specs.Stacks.{Pairs}
use Rattle.def_machine.specs.Run.{Outcome, accepted, refused, run}
use Rattle.def_tree.specs.Tree.{Tree}
use Rattle.def_emit.specs.Emit.{script_of}
use Rattle.def_text.specs.Refusal.{TextReads}
use Rattle.def_sane.specs.Unfit.{IsValid}
use Rattle.def_files.specs.RunFile.{RunFile, run_of}
use Rattle.def_trace.specs.Seen.{at_first}
use Rattle.def_trace.specs.Trace.{Line, trace as trace_of}
use Rattle.def_trace.specs.Reader.{read_lines}
use Rattle.def_trace.specs.Written.{written as lines_text}
use Rattle.def_trace.specs.Writers.{places_of}
use Rattle.def_answer.specs.declared.status.Status.{Status}
use Rattle.def_answer.specs.declared.status.Status.TheVariants as status
use Rattle.def_answer.specs.Answer.{Answer}
use Rattle.def_answer.specs.Lines.{line, MOST_FILE}
use Rattle.def_answer.specs.Run.{script_fault_name, check_line}
use Rattle.def_answer.specs.Reply.{given_by}
use Rattle.def_answer.specs.Words.{trace, trace_text, IsForm}
use Rattle.ms_io.specs.Sides.{Side}
use Rattle.msat_cli.specs.Calls.{Call, EndsAs}

-- the source tells a run file, which is read as this one
pub record TellsFile (source : Side) (file : RunFile) : Type 0 where
  pub bytes : Bytes
  pub told : source.old ≡ Some bytes
  pub short : length bytes ≤ MOST_FILE
  pub given : run_of bytes ≡ Ok file

-- the words ask for the trace of the run of a text's Script; the text is read as this tree, a valid one, with these places
-- of its nodes
pub record AsksTextTrace (call : Call) (tree : Tree) (offsets : List ℕ) : Type 0 where
  pub text : Bytes
  pub form : IsForm call.words (trace_text text)
  pub reads : TextReads text tree offsets
  pub valid : IsValid tree

-- the run of a file's script on its stack, and its trace: a line for each instruction that the run reached, in order, each
-- told by the machine before it and by what its step gives
abbrev pub outcome_of : RunFile → Outcome
outcome_of file = run (given_by file) file.script file.stack

abbrev pub lines_of : RunFile → List Line
lines_of file = trace_of (given_by file) file.script file.stack

-- what the sink got of an accepted run: the lines, with these places, and its counts
pub record PrintsAccepted (sink : Side) (places : List ℕ) (file : RunFile) : Type 0 where
  pub ops : ℕ
  pub peak : ℕ
  pub checks : Pairs
  pub runs : outcome_of file ≡ accepted ops peak checks
  pub written : Appends sink.old sink.new (
      lines_text places (lines_of file) ++ line (codes "accepted ops " ++ decimal ops ++ codes " peak " ++ decimal peak))

-- of a refused one: the lines up to the fault, the fault, and its place
pub record PrintsRefused (sink : Side) (places : List ℕ) (file : RunFile) : Type 0 where
  pub fault : ScriptFault
  pub place : ℕ
  pub runs : outcome_of file ≡ refused fault place
  pub written : Appends sink.old sink.new (
      lines_text places (lines_of file)
      ++ line (codes "refused script " ++ script_fault_name fault ++ codes " at " ++ decimal place))

-- faults and want of memory aside, the call is done exactly where the run is accepted, and ends with the other status
-- exactly where it is refused
pub record Traced (call : Call) (places : List ℕ) (file : RunFile) : Type 0 where
  pub where_accepted : (ops peak : ℕ) (checks : Pairs) → outcome_of file ≡ accepted ops peak checks → EndsAs status.Done call
  pub where_refused : (fault : ScriptFault) (place : ℕ) → outcome_of file ≡ refused fault place → EndsAs status.ScriptRefused call
  pub done : call.status ≡ status.Done → PrintsAccepted call.sink places file
  pub script_refused : call.status ≡ status.ScriptRefused → PrintsRefused call.sink places file

-- `trace` over a run file does so, without places
abbrev pub ShowsTrace : Call → Type 0
ShowsTrace call = (file : RunFile) → IsForm call.words trace → TellsFile call.source file → Traced call [] file

-- what was written ends with the first line of the report that `run` answers over the same source, with the same status. The
-- further lines of that report are those of the pairs which a reader of the trace finds in its changes, where it was accepted
pub record EndsAsRun (call : Call) (file : RunFile) (bytes : Bytes) : Type 0 where
  pub last : Bytes
  pub checks : Pairs
  pub answer : Answer (codes "run" ∷ []) bytes call.status (last ++ flat_map check_line checks)
  pub written : Appends call.sink.old call.sink.new (lines_text [] (lines_of file) ++ last)
  pub told : call.status ≡ status.Done → checks ≡ (read_lines (at_first file.stack) (lines_of file)).checks
  pub untold : call.status ≡ status.ScriptRefused → checks ≡ []

-- what `run` answers over the same source ends `trace` with the same status, faults and want of memory aside, and tells the
-- last line
pub record ShowsRun (call : Call) : Type 0 where
  pub ends : (bytes : Bytes) (s : Status) (report : Bytes) → IsForm call.words trace → call.source.old ≡ Some bytes →
      Answer (codes "run" ∷ []) bytes s report → EndsAs s call
  pub last : (file : RunFile) → IsForm call.words trace → (tells : TellsFile call.source file) →
      (call.status ≡ status.Done) ⊎ (call.status ≡ status.ScriptRefused) → EndsAsRun call file tells.bytes

-- `trace TEXT` does so for a valid text and a file that has its Script, with the place of the node that wrote each
-- instruction behind its line; and where the file has another script, that is told
pub record TracedText (call : Call) (tree : Tree) (offsets : List ℕ) (file : RunFile) : Type 0 where
  pub traced : file.script ≡ script_of tree → Traced call (places_of offsets tree) file
  pub where_other : file.script ≢ script_of tree → EndsAs status.NotAccepted call
  pub other : call.status ≡ status.NotAccepted →
      (file.script ≢ script_of tree) × Appends call.sink.old call.sink.new (line (codes "not accepted WrongScript"))

abbrev pub ShowsNodes : Call → Type 0
ShowsNodes call =
    (tree : Tree) (offsets : List ℕ) (file : RunFile) → AsksTextTrace call tree offsets → TellsFile call.source file →
    TracedText call tree offsets file
