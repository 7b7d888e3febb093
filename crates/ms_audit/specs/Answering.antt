-- What the calls answer.
use Rattle.std.specs.Prelude.{◌≡◌, ◌⊎◌, List, Result, Ok, Err}
use Rattle.def_script.specs.Bytes.{Bytes}
use Rattle.def_machine.specs.Stacks.{Pairs}
use Rattle.def_machine.specs.Machine.{Given}
use Rattle.def_machine.specs.Run.{Outcome, accepted, refused}
use Rattle.def_tree.specs.Tree.{Tree}
use Rattle.def_choice.specs.NonMalleable.{IsAccepted}
use Rattle.def_promises.specs.Limited.{StopsAtLimit}
use Rattle.ms_interp.specs.declared.report.RunStop.{RunStop}
use Rattle.ms_interp.specs.declared.report.RunStop.TheVariants as run_stop
use Rattle.ms_audit.specs.declared.answer.Audit.{Audit}
use Rattle.ms_audit.specs.declared.answer.AuditStop.{AuditStop}
use Rattle.ms_audit.specs.declared.answer.AuditStop.TheVariants as stop

-- the stop of an audit for each stop of a run
abbrev pub stop_of_run : RunStop → AuditStop
stop_of_run (run_stop.Refused why place) = stop.Refused why place
stop_of_run run_stop.Memory = stop.Memory

-- a report is that of an accepted run, and a refusal has its fault and place; only want of memory may come in their
-- place
abbrev pub Audits : Result Audit AuditStop → Outcome → Type 0
Audits (Ok audit) outcome = outcome ≡ accepted audit.report.ops audit.report.peak audit.report.checks
Audits (Err (stop.Refused why place)) outcome = outcome ≡ refused why place
Audits (Err stop.Memory) outcome = Unit {0}

-- the stack is accepted, or its run stops at one of the interpreter's own limits
abbrev pub IsAcceptedUnlessLimited : Tree → Given → (stack : List Bytes) → Type 0
IsAcceptedUnlessLimited tree given stack = ((checks : Pairs) × IsAccepted tree given stack checks) ⊎ StopsAtLimit tree given stack
