-- A run that is taken instruction by instruction.
use Rattle.std.specs.Prelude.{◌≡◌, ℕ, Bool, Result, Ok, Err}
use Rattle.def_machine.specs.Faults.{OrFault}
use Rattle.def_machine.specs.Stacks.{Stack, Pairs}
use Rattle.def_machine.specs.Machine.{State}
use Rattle.ms_interp.specs.declared.report.RunStop.{RunStop}
use Rattle.ms_interp.specs.declared.report.RunStop.TheVariants.{Refused, Memory}
use Rattle.ms_interp.specs.declared.stepped.SteppedRun.{SteppedRun}
use Rattle.ms_interp.specs.Scaffolding.Branches.{all_taken}
use Rattle.ms_interp.specs.Scaffolding.Compact.{machine_of}

-- the run is at this state of the machine. It keeps less of the open branches than the state does, and as much as the
-- machine asks of them
abbrev pub IsAt : SteppedRun → State → Type 0
IsAt run s = run.machine ≡ machine_of s

-- both stacks of the run, the top first, the pairs that were found good, whether all open branches are taken, and how
-- many are open
abbrev pub main_of : SteppedRun → Stack
main_of run = run.machine.main

abbrev pub alt_of : SteppedRun → Stack
alt_of run = run.machine.alt

abbrev pub checks_of : SteppedRun → Pairs
checks_of run = run.machine.checks

abbrev pub live_of : SteppedRun → Bool
live_of run = all_taken run.machine.branches

abbrev pub open_of : SteppedRun → ℕ
open_of run = run.machine.branches.depth

-- the run is at the state that a run starts with, or it is refused before its first instruction; only want of memory may
-- come in their place
abbrev pub StartsAs : Result SteppedRun RunStop → OrFault State → Type 0
StartsAs (Ok run) expected = (s : State) × IsAt run s × (expected ≡ Ok s)
StartsAs (Err (Refused fault place)) expected = (expected ≡ Err fault) × (place ≡ 0)
StartsAs (Err Memory) expected = Unit {0}

-- the run is at the state that a step gives, or it is refused at the place with its fault; only want of memory may come
-- in their place
abbrev pub StepsAs : {X : Type 0} → Result X RunStop → SteppedRun → (place : ℕ) → OrFault State → Type 0
StepsAs (Ok x) run place expected = (s : State) × IsAt run s × (expected ≡ Ok s)
StepsAs (Err (Refused fault at)) run place expected = (expected ≡ Err fault) × (at ≡ place)
StepsAs (Err Memory) run place expected = Unit {0}
