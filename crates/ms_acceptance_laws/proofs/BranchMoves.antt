-- Parts of a run that do an effect to the main stack, and take the branches from some to others.
use Rattle.std.proofs.Common.{◌≡◌, ℕ, ◌+◌, Bool, List, [], ◌∷◌, ◌++◌, Ok, Err, refl, sym, ◌∙◌, ap, append_assoc, append-nil, add-zero, arith}
use Rattle.def_script.specs.Instruction.{Instruction}
use Rattle.def_machine.specs.Faults.{OrFault, ◌>>=◌}
use Rattle.def_machine.specs.Stacks.{Stack, Pairs}
use Rattle.def_machine.specs.Machine.{Given, State, on_main}
use Rattle.ms_acceptance_laws.proofs.StackEffects.{Left, Effect, behind, on_left, both, silent, plain, left as leaves}
use Rattle.ms_acceptance_laws.proofs.UnlimitedMachine.{reached, free_step, free_steps}
use Rattle.ms_row_laws.proofs.RunLog.{quiet, quiet_left, quiet_right}
use Rattle.ms_row_laws.proofs.Outcomes.{sure, bind_same, bind_assoc, bind_ok}

pub free_steps-append : (given : Given) (front back : List Instruction) (s : State) → free_steps given (front ++ back) s ≡ (free_steps given front s >>= free_steps given back)
free_steps-append given [] back s = refl
free_steps-append given (i ∷ front) back s =
    bind_same (free_step given i s) _ _ (free_steps-append given front back)
    ∙ sym (bind_assoc (free_step given i s) (free_steps given front) (free_steps given back))

abbrev pub Step : Type 0
Step = State → OrFault State

-- a state with other branches
abbrev pub at : State → List Bool → State
at s branches = record s { branches = branches }

-- a step does the effect, counts so many opcodes, and takes the branches from some to others
pub record Moves (step : Step) (f : Effect) (n : ℕ) (from to : List Bool) : Type 0 where
  pub moves : (s : State) → step (at s from) ≡ (f s.main >>= λ left. Ok (at (reached s n left) to))

-- the logs come one after the other
reached_twice : (s : State) (n m : ℕ) (left next : Left) (branches : List Bool) →
    at (reached (reached s n left) m next) branches ≡ at (reached s (n + m) (behind left.log next)) branches
reached_twice s n m left next branches =
    go (s.ops + n + left.log.keys + m + next.log.keys) (s.ops + (n + m) + (left.log.keys + next.log.keys)) (omega arith)
    (s.checks ++ left.log.checks ++ next.log.checks) (s.checks ++ (left.log.checks ++ next.log.checks)) (append_assoc s.checks left.log.checks next.log.checks)
  where
    go : (a b : ℕ) → a ≡ b → (p q : Pairs) → p ≡ q → record s { main = next.main; branches = branches; ops = a; checks = p } ≡ record s { main = next.main; branches = branches; ops = b; checks = q }
    go a b e p q i = rw (e, i) refl

pub then_moves : (step next : Step) (f g : Effect) (n m : ℕ) (from mid to : List Bool) →
    Moves step f n from mid → Moves next g m mid to → Moves (λ s. step s >>= next) (both f g) (n + m) from to
then_moves step next f g n m from mid to x y = record { moves = λ s. ap (λ (r : OrFault State). r >>= next) (x.moves s) ∙ go s (f s.main) }
  where
    go : (s : State) (r : OrFault Left) →
        ((r >>= λ left. Ok (at (reached s n left) mid)) >>= next) ≡ ((r >>= on_left g) >>= λ left. Ok (at (reached s (n + m) left) to))
    go s (Ok left) =
        y.moves (reached s n left) ∙ bind_same (g left.main) _ _ (λ end. ap (λ (t : State). Ok t) (reached_twice s n m left end to))
        ∙ sym (bind_assoc (g left.main) (λ end. Ok (behind left.log end)) (λ end. Ok (at (reached s (n + m) end) to)))
    go s (Err e) = refl

-- the same effect, the same number and the same step
pub moves_as : (step next : Step) (f g : Effect) (n m : ℕ) (from to : List Bool) →
    ((s : State) → next s ≡ step s) → ((main : Stack) → f main ≡ g main) → n ≡ m → Moves step f n from to → Moves next g m from to
moves_as step next f g n m from to same_step same count x = record {
  moves = λ s. same_step (at s from) ∙ x.moves s ∙ rw (same s.main, count) refl;
}

-- silence before or after an effect
pub silent_both : (f : Effect) (main : Stack) → both silent f main ≡ f main
silent_both f main = bind_same (f main) _ (λ left. Ok left) (λ left. ap (λ (l : Left). Ok l) (ap (leaves left.main) (quiet_left left.log))) ∙ bind_ok (f main)

pub both_silent : (f : Effect) (main : Stack) → both f silent main ≡ f main
both_silent f main = bind_same (f main) _ (λ left. Ok left) (λ left. ap (λ (l : Left). Ok l) (ap (leaves left.main) (quiet_right left.log))) ∙ bind_ok (f main)

-- with nothing to log
quietly_reached : (s : State) (n : ℕ) (main : Stack) (to : List Bool) → sure (at (record s { main = main; ops = s.ops + n }) to) ≡ Ok (at (reached s n (record { main = main; log = quiet })) to)
quietly_reached s n main to = rw (add-zero (s.ops + n), append-nil s.checks) refl

-- an effect on the main stack with nothing to log
pub plain_moves : (f : Stack → OrFault Stack) (n : ℕ) (branches : List Bool) →
    (step : Step) → ((s : State) → step (at s branches) ≡ on_main f (at (record s { ops = s.ops + n }) branches)) → Moves step (plain f) n branches branches
plain_moves f n branches step is = record {
  moves = λ s. is s ∙ bind_same (f s.main) _ _ (λ main. quietly_reached s n main branches) ∙ sym (bind_assoc (f s.main) silent (λ left. Ok (at (reached s n left) branches)));
}

-- an effect that can't fail, with nothing to log
pub main_moves : (h : Stack → Stack) (n : ℕ) (from to : List Bool) (step : Step) →
    ((s : State) → step (at s from) ≡ Ok (at (record s { main = h s.main; ops = s.ops + n }) to)) → Moves step (λ main. silent (h main)) n from to
main_moves h n from to step is = record { moves = λ s. is s ∙ quietly_reached s n (h s.main) to }

-- opcodes that leave the main stack as it is
pub silent_moves : (n : ℕ) (from to : List Bool) (step : Step) → ((s : State) → step (at s from) ≡ Ok (at (record s { ops = s.ops + n }) to)) → Moves step silent n from to
silent_moves n from to step is = main_moves (λ main. main) n from to step is
