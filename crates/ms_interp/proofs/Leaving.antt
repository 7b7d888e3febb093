-- What a call on parts of the machine leaves of the whole.
use Rattle.std.proofs.Common.{ℕ, Result, Ok, Err, refl}
use Rattle.def_machine.specs.Faults.{OrFault}
use Rattle.def_machine.specs.Stacks.{Stack, Pairs}
use Rattle.ms_interp.specs.declared.machine.Machine.{Machine}
use Rattle.ms_interp.specs.declared.stop.Stop.{Stop}
use Rattle.ms_interp.specs.declared.stop.Stop.TheVariants.{Fault, Memory}
use Rattle.ms_interp.specs.Scaffolding.Stops.{Leaves}
use Rattle.ms_interp.specs.Scaffolding.Compact.{on_main, on_both, on_checks, on_multi}

pub on_main_leaves : {X : Type 0} (f : Stack → OrFault Stack) (m : Machine) (result : Result X Stop) (main : Stack)
    → Leaves result main (f m.main) → Leaves result (record m { main = main }) (on_main f m)
on_main_leaves f m (Ok x) main h = rw h refl
on_main_leaves f m (Err (Fault e)) main h = rw h refl
on_main_leaves f m (Err Memory) main h = tt

pub on_both_leaves : {X : Type 0} (f : Stack → Stack → OrFault (Stack × Stack)) (m : Machine) (result : Result X Stop) (main alt : Stack)
    → Leaves result (main, alt) (f m.main m.alt) → Leaves result (record m { main = main; alt = alt }) (on_both f m)
on_both_leaves f m (Ok x) main alt h = rw h refl
on_both_leaves f m (Err (Fault e)) main alt h = rw h refl
on_both_leaves f m (Err Memory) main alt h = tt

pub on_checks_leaves : {X : Type 0} (f : Stack → Pairs → OrFault (Stack × Pairs)) (m : Machine) (result : Result X Stop) (main : Stack) (checks : Pairs)
    → Leaves result (main, checks) (f m.main m.checks) → Leaves result (record m { main = main; checks = checks }) (on_checks f m)
on_checks_leaves f m (Ok x) main checks h = rw h refl
on_checks_leaves f m (Err (Fault e)) main checks h = rw h refl
on_checks_leaves f m (Err Memory) main checks h = tt

pub on_multi_leaves : {X : Type 0} (f : Stack → ℕ → Pairs → OrFault (Stack × ℕ × Pairs)) (m : Machine) (result : Result X Stop) (main : Stack) (ops : ℕ) (checks : Pairs)
    → Leaves result (main, ops, checks) (f m.main m.ops m.checks) → Leaves result (record m { main = main; ops = ops; checks = checks }) (on_multi f m)
on_multi_leaves f m (Ok x) main ops checks h = rw h refl
on_multi_leaves f m (Err (Fault e)) main ops checks h = rw h refl
on_multi_leaves f m (Err Memory) main ops checks h = tt

pub ruleset leaving = (on_main_leaves, on_both_leaves, on_checks_leaves, on_multi_leaves)
