-- Runs of joined and of spelled instructions.
use Rattle.std.proofs.Common.{◌≡◌, ℕ, ◌+◌, [], ◌∷◌, Ok, Err, refl, ap}
use Rattle.std.specs.Prelude.{reverse}
use Rattle.def_script.specs.Spell.{spell}
use Rattle.def_script.proofs.Reading.{items-spell}
use Rattle.def_machine.specs.Machine.{State, step}
use Rattle.def_machine.specs.Faults.{OrFault}
use Rattle.def_machine.specs.Run.{Outcome, leads, start, steps, ended, run}
use Rattle.def_machine.specs.Laws.{JoinedSteps, SpelledRun}

-- what leads on alike ends alike
pub leads-same : (r : OrFault State) (place : ℕ) (f g : State → Outcome) → ((s : State) → f s ≡ g s) → leads r place f ≡ leads r place g
leads-same (Ok s) place f g same = same s
leads-same (Err e) place f g same = refl

pub joined_steps : JoinedSteps
unfolding steps
joined_steps given [] back place s next = refl
joined_steps given (item ∷ front) back place s next =
    leads-same (step given item s) place _ _ (λ t. joined_steps given front back (place + 1) t next)

pub spelled_run : SpelledRun
unfolding run
spelled_run given script stack can =
    leads-same (start (spell script) (reverse stack)) 0 _ _ (λ s. ap (λ read. steps given read 0 s ended) (items-spell script can))
