-- VERIFY behind a Script, where the last opcode may do it too.
use Rattle.std.proofs.Common.{◌≡◌, ℕ, ◌+◌, Bool, true, false, List, [], ◌∷◌, Option, Some, None, Ok, Err, refl, sym, ◌∙◌, ap, inl, inr, add-zero, arith}
use Rattle.std.proofs.lemmas.Bool.{cases_Bool}
use Rattle.def_script.specs.declared.Op.{Op}
use Rattle.def_script.specs.declared.Op.TheVariants as op
use Rattle.def_script.specs.Instruction.{Instruction, push, code, opcode_count}
use Rattle.def_script.specs.Verify.{verify_form, verified, verified_last, verified_op}
use Rattle.def_machine.specs.Faults.{OrFault, ◌>>=◌}
use Rattle.def_machine.specs.Effects.{equal, check_sig, verify}
use Rattle.def_machine.specs.Machine.{Given, State, act, on_main, only_if, is_live}
use Rattle.ms_acceptance_laws.proofs.StackEffects.{Effect, both, plain, silent}
use Rattle.ms_acceptance_laws.proofs.TreeEffects.{checks_multi_sig}
use Rattle.ms_acceptance_laws.proofs.UnlimitedMachine.{free_step, free_steps, one_more, reached}
use Rattle.ms_acceptance_laws.proofs.BranchMoves.{Step, Moves, moves_as, then_moves, plain_moves, silent_moves}
use Rattle.ms_acceptance_laws.proofs.InstructionEffects.{Does, all_taken}
use Rattle.ms_row_laws.proofs.Outcomes.{bind_same, bind_assoc, bind_ok}

-- whether the last opcode does VERIFY too
abbrev pub is_fused : Option Op → Bool
is_fused (Some form) = true
is_fused None = false

abbrev pub fuses_last : Instruction → Bool
fuses_last (push bytes) = false
fuses_last (code last) = is_fused (verify_form last)

abbrev pub fuses : List Instruction → Bool
fuses [] = false
fuses (last ∷ []) = fuses_last last
fuses (first ∷ second ∷ rest) = fuses (second ∷ rest)

-- how many opcodes more there are
abbrev added : Bool → ℕ
added true = 0
added false = 1

-- VERIFY by itself, or by the last opcode
abbrev pub closing : Given → Bool → Step
closing given true s = only_if (is_live s) (on_main verify) s
closing given false s = free_step given (code op.Verify) s

unfused : (given : Given) (i : Instruction) (s : State) → free_steps given (i ∷ code op.Verify ∷ []) s ≡ (free_steps given (i ∷ []) s >>= closing given false)
unfused given i s =
    bind_same (free_step given i s) _ _ (λ t. bind_ok (free_step given (code op.Verify) t))
    ∙ sym (ap (λ (r : OrFault State). r >>= closing given false) (bind_ok (free_step given i s)))

-- a state whose branches are all taken, or a fault
after_live : {A : Type 0} (given : Given) (r : OrFault A) (h : A → State) → ((a : A) → is_live (h a) ≡ true) →
    (((r >>= λ a. Ok (h a)) >>= on_main verify) >>= λ t. Ok t) ≡ (((r >>= λ a. Ok (h a)) >>= λ t. Ok t) >>= closing given true)
after_live given (Ok a) h live = rw (live a) (bind_ok (on_main verify (h a)))
after_live given (Err e) h live = refl

last_closes : (given : Given) (i : Instruction) (s : State) → free_steps given (verified_last i) s ≡ (free_steps given (i ∷ []) s >>= closing given (fuses_last i))
unfolding act
last_closes given (push bytes) s = unfused given (push bytes) s
last_closes given (code op.Equal) s =
    elim (cases_Bool (is_live s)) [
      | inl live ↦ rw live (after_live given (equal s.main) (λ main. record (one_more s) { main = main }) (λ main. live))
      | inr dead ↦ rw (dead, dead) refl
    ]
last_closes given (code op.CheckSig) s =
    elim (cases_Bool (is_live s)) [
      | inl live ↦ rw live (after_live given (check_sig given.checker s.main s.checks) (λ left. record (one_more s) { main = left.0; checks = left.1 }) (λ left. live))
      | inr dead ↦ rw (dead, dead) refl
    ]
last_closes given (code op.CheckMultiSig) s =
    elim (cases_Bool (is_live s)) [
      | inl live ↦ rw live (after_live given (checks_multi_sig given.checker s.main) (λ left. reached (one_more s) 0 left) (λ left. live))
      | inr dead ↦ rw (dead, dead) refl
    ]
last_closes given (code other) s = unfused given (code other) s

pub closes : (given : Given) (c : List Instruction) (s : State) → free_steps given (verified c) s ≡ (free_steps given c s >>= closing given (fuses c))
closes given [] s = bind_ok (free_step given (code op.Verify) s)
closes given (last ∷ []) s = last_closes given last s
closes given (first ∷ second ∷ rest) s =
    bind_same (free_step given first s) _ _ (closes given (second ∷ rest))
    ∙ sym (bind_assoc (free_step given first s) (free_steps given (second ∷ rest)) (closing given (fuses (second ∷ rest))))

last_count : (last : Op) (form : Option Op) → opcode_count (verified_op last form) ≡ 1 + added (is_fused form)
last_count last (Some form) = refl
last_count last None = refl

-- a fused opcode counts once
opcode_count-verified : (c : List Instruction) → opcode_count (verified c) ≡ opcode_count c + added (fuses c)
opcode_count-verified [] = refl
opcode_count-verified (push bytes ∷ []) = refl
opcode_count-verified (code last ∷ []) = last_count last (verify_form last)
opcode_count-verified (push bytes ∷ second ∷ rest) = opcode_count-verified (second ∷ rest)
opcode_count-verified (code last ∷ second ∷ rest) = omega (arith, opcode_count-verified (second ∷ rest))

closing_moves : (given : Given) (fused : Bool) (branches : List Bool) → all_taken branches ≡ true → Moves (closing given fused) (plain verify) (added fused) branches branches
unfolding act
closing_moves given true branches live = plain_moves verify 0 branches (closing given true) (λ s. rw (live, add-zero s.ops) refl)
closing_moves given false branches live = plain_moves verify 1 branches (closing given false) (λ s. rw live refl)

closing_skips : (given : Given) (fused : Bool) (branches : List Bool) → all_taken branches ≡ false → Moves (closing given fused) silent (added fused) branches branches
closing_skips given true branches dead = silent_moves 0 branches branches (closing given true) (λ s. rw (dead, add-zero s.ops) refl)
closing_skips given false branches dead = silent_moves 1 branches branches (closing given false) (λ s. rw dead refl)

pub verified_does : (given : Given) (c : List Instruction) (f : Effect) → Does given c f → Does given (verified c) (both f (plain verify))
verified_does given c f x = record {
  goes = λ branches live.
      moves_as _ _ _ _ _ _ branches branches (closes given c) (λ main. refl) (sym (opcode_count-verified c))
      (then_moves (free_steps given c) (closing given (fuses c)) f (plain verify) _ _ branches branches branches (x.goes branches live) (closing_moves given (fuses c) branches live));
  skips = λ branches dead.
      moves_as _ _ _ silent _ _ branches branches (closes given c) (λ main. refl) (sym (opcode_count-verified c))
      (then_moves (free_steps given c) (closing given (fuses c)) silent silent _ _ branches branches branches (x.skips branches dead) (closing_skips given (fuses c) branches dead));
}
