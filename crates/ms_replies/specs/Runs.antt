-- What a run file gives.
use Rattle.std.specs.Prelude.{◌≡◌, ◌++◌, Result, Ok, Err}
use Rattle.def_script.specs.Bytes.{Bytes}
use Rattle.def_machine.specs.Run.{Outcome, run}
use Rattle.def_tree.specs.Tree.{Tree}
use Rattle.def_emit.specs.Emit.{script_of}
use Rattle.def_files.specs.RunFile.{RunFile}
use Rattle.def_answer.specs.declared.status.Status.{Status}
use Rattle.def_answer.specs.declared.status.Status.TheVariants as status
use Rattle.def_answer.specs.Reply.{given_by}
use Rattle.def_answer.specs.Run.{accepted_line, script_refused_line}
use Rattle.ms_interp.specs.declared.report.RunReport.{RunReport}
use Rattle.ms_interp.specs.declared.report.RunStop.{RunStop}
use Rattle.ms_interp.specs.declared.report.RunStop.TheVariants.{Refused, Memory}
use Rattle.ms_assets.specs.declared.run_file.RunFile.{RunFile as ReadFile}

-- one that was read, as the definition's
abbrev pub file_seen : ReadFile → RunFile
file_seen file = record { script = file.script; stack = file.stack; locks = file.locks; pairs = file.pairs }

-- what its script's run came to, and that of the Script of a tree on its stack
abbrev pub outcome_of : RunFile → Outcome
outcome_of file = run (given_by file) file.script file.stack

abbrev pub outcome_for : Tree → RunFile → Outcome
outcome_for tree file = run (given_by file) (script_of tree) file.stack

-- the line of what a run came to was added to a report, and this is its status
abbrev pub TellsLast : Result RunReport RunStop → (before after : Bytes) → Status → Type 0
TellsLast (Ok report) before after s = (s ≡ status.Done) × (after ≡ before ++ accepted_line report.ops report.peak)
TellsLast (Err (Refused fault place)) before after s = (s ≡ status.ScriptRefused) × (after ≡ before ++ script_refused_line fault place)
TellsLast (Err Memory) before after s = ⊥
