-- The machine at the start of a run.
use Rattle.std.specs.Prelude.{◌≡◌, Result, Ok, Err}
use Rattle.def_machine.specs.Faults.{OrFault}
use Rattle.def_machine.specs.Machine.{State}
use Rattle.ms_interp.specs.declared.machine.Machine.{Machine}
use Rattle.ms_interp.specs.declared.report.RunStop.{RunStop}
use Rattle.ms_interp.specs.declared.report.RunStop.TheVariants.{Refused, Memory}
use Rattle.ms_interp.specs.Scaffolding.Compact.{machine_of}

-- the machine is at the state that a run starts with, or the run is refused before its first instruction
abbrev pub Starts : Result Machine RunStop → OrFault State → Type 0
Starts (Ok m) expected = (s : State) × (m ≡ machine_of s) × (expected ≡ Ok s)
Starts (Err (Refused fault place)) expected = (expected ≡ Err fault) × (place ≡ 0)
Starts (Err Memory) expected = Unit {0}
