-- A run that is at a state of the machine takes the steps of it.
use Rattle.std.proofs.Common.{◌≡◌, ℕ, Result, Ok, Err, refl, sym, ◌∙◌, ap, subst}
use Rattle.def_script.specs.Item.{Item}
use Rattle.def_machine.specs.declared.ScriptFault.{ScriptFault}
use Rattle.def_machine.specs.Faults.{OrFault}
use Rattle.def_machine.specs.Machine.{Given, State, is_live, step as the_step}
use Rattle.def_machine.specs.Run.{Outcome, ended as the_ended}
use Rattle.ms_interp.specs.declared.machine.Machine.{Machine}
use Rattle.ms_interp.specs.declared.report.RunReport.{RunReport}
use Rattle.ms_interp.specs.declared.report.RunStop.{RunStop}
use Rattle.ms_interp.specs.declared.report.RunStop.TheVariants as run_kind
use Rattle.ms_interp.specs.declared.stepped.SteppedRun.{SteppedRun}
use Rattle.ms_interp.specs.declared.stop.Stop.{Stop}
use Rattle.ms_interp.specs.declared.stop.Stop.TheVariants as stop_kind
use Rattle.ms_interp.specs.Answering.{Answers}
use Rattle.ms_interp.specs.Stepping.{StartsAs, StepsAs}
use Rattle.ms_interp.specs.Scaffolding.Starting.{Starts}
use Rattle.ms_interp.specs.Scaffolding.Stops.{StopsAs, run_stop}
use Rattle.ms_interp.specs.Scaffolding.Branches.{all_taken}
use Rattle.ms_interp.specs.Scaffolding.Compact.{machine_of, step, ended}
use Rattle.ms_interp.proofs.Refines.{seen, live_is, step_is, ended_is}

-- what is seen of a state or of a fault tells which it was
state_of : (r : OrFault State) (m : Machine) → seen r ≡ Ok m → (s : State) × (m ≡ machine_of s) × (r ≡ Ok s)
state_of (Ok s) m is = (s, cc, refl)
state_of (Err e) m is = absurd cc

fault_of : (r : OrFault State) (e : ScriptFault) → seen r ≡ Err e → r ≡ Err e
fault_of (Ok s) e is = absurd cc
fault_of (Err f) e is = cc

pub steps_as : (given : Given) (i : Item) (m n : Machine) (s : State) → step given i m ≡ Ok n → m ≡ machine_of s
    → (t : State) × (n ≡ machine_of t) × (the_step given i s ≡ Ok t)
steps_as given i m n s leaves at =
    state_of (the_step given i s) n (sym (step_is given i s) ∙ ap (λ (k : Machine). step given i k) (sym at) ∙ leaves)

pub stops_as : (X : Type 0) (given : Given) (i : Item) (stop : Stop) (m : Machine) (after : SteppedRun) (place : ℕ) (s : State)
    → StopsAs stop (step given i m) → m ≡ machine_of s → StepsAs {X = X} (Err (run_stop stop place)) after place (the_step given i s)
stops_as X given i (stop_kind.Fault e) m after place s why at =
    (fault_of (the_step given i s) e (sym (step_is given i s) ∙ ap (λ (k : Machine). step given i k) (sym at) ∙ why), refl)
stops_as X given i stop_kind.Memory m after place s why at = tt

pub starts_as : (stop : RunStop) (expected : OrFault State) → Starts (Err stop) expected → StartsAs (Err stop) expected
starts_as (run_kind.Refused e place) expected h = h
starts_as run_kind.Memory expected h = tt

pub ends_as : (result : Result RunReport RunStop) (place : ℕ) (m : Machine) (s : State) → Answers result (ended place m) → m ≡ machine_of s
    → Answers result (the_ended place s)
ends_as result place m s answers at =
    let P : Outcome → Type 0 = λ o. Answers result o in
    subst P (ap (λ (n : Machine). ended place n) at ∙ ended_is place s) answers

pub live_at : (m : Machine) (s : State) → m ≡ machine_of s → all_taken m.branches ≡ is_live s
live_at m s at = ap (λ (n : Machine). all_taken n.branches) at ∙ live_is s.branches
