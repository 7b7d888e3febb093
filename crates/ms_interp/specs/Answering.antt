-- What a run answers.
use Rattle.std.specs.Prelude.{◌≡◌, ◌≤◌, ℕ, max, length, Result, Ok, Err}
use Rattle.def_script.specs.Limits.{MAX_OPS_PER_SCRIPT, MAX_STACK_SIZE}
use Rattle.def_machine.specs.declared.Locks.{Locks}
use Rattle.def_machine.specs.Stacks.{Checker}
use Rattle.def_machine.specs.Machine.{Given}
use Rattle.def_machine.specs.Run.{Outcome, accepted, refused}
use Rattle.ms_interp.specs.declared.report.RunReport.{RunReport}
use Rattle.ms_interp.specs.declared.report.RunStop.{RunStop}
use Rattle.ms_interp.specs.declared.report.RunStop.TheVariants.{Refused, Memory}

-- what a run is given
abbrev pub given_by : Checker → Locks → Given
given_by checker locks = record { checker = checker; locks = locks }

-- a report is that of an accepted run, and a refusal has its fault and place; only want of memory
-- may come in their place
abbrev pub Answers : Result RunReport RunStop → Outcome → Type 0
Answers (Ok report) outcome = outcome ≡ accepted report.ops report.peak report.checks
Answers (Err (Refused fault place)) outcome = outcome ≡ refused fault place
Answers (Err Memory) outcome = Unit {0}

-- a report has at most as many checks as opcodes, at most MAX_OPS_PER_SCRIPT opcodes, and a peak of at most
-- the greater of MAX_STACK_SIZE and the number of elements given
abbrev pub IsSmallReport : (given : ℕ) → RunReport → Type 0
IsSmallReport given report = (length report.checks ≤ report.ops) × (report.ops ≤ MAX_OPS_PER_SCRIPT) × (report.peak ≤ max MAX_STACK_SIZE given)
