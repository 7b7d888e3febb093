-- The machine without limits never looks at the peak.
use Rattle.std.proofs.Common.{◌≡◌, ℕ, ◌||◌, Bool, true, false, List, [], ◌∷◌, not, if◌then◌else◌, Ok, Err, refl, sym, ◌∙◌, ap}
use Rattle.def_script.specs.declared.Op.{Op}
use Rattle.def_script.specs.declared.Op.TheVariants as op
use Rattle.def_script.specs.Instruction.{Instruction, push, code}
use Rattle.def_machine.specs.Faults.{OrFault, ◌>>=◌}
use Rattle.def_machine.specs.Stacks.{Stack}
use Rattle.def_machine.specs.Effects.{verify, condition, equal, check_sig}
use Rattle.def_machine.specs.Machine.{Given, State, on_main, on_checks, opened, open_branch, act, only_if, is_branching, is_live}
use Rattle.ms_acceptance_laws.proofs.TreeEffects.{checks_multi_sig}
use Rattle.ms_acceptance_laws.proofs.UnlimitedMachine.{affect, free_act, free_step, free_steps, one_more}
use Rattle.ms_row_laws.proofs.Outcomes.{bind_same, bind_assoc}

abbrev pub peaked : ℕ → State → State
peaked p s = record s { peak = p }

abbrev pub with_peak : ℕ → OrFault State → OrFault State
with_peak p r = r >>= λ s. Ok (peaked p s)

module _ (p : ℕ) where
  after : {A : Type 0} (r : OrFault A) (h : A → State) → (r >>= λ a. Ok (peaked p (h a))) ≡ with_peak p (r >>= λ a. Ok (h a))
  after r h = sym (bind_assoc r (λ a. Ok (h a)) (λ s. Ok (peaked p s)))

  main : (f : Stack → OrFault Stack) (s : State) → on_main f (peaked p s) ≡ with_peak p (on_main f s)
  main f s = after (f s.main) (λ main. record s { main = main })

  verified : (r q : OrFault State) → q ≡ with_peak p r → (q >>= on_main verify) ≡ with_peak p (r >>= on_main verify)
  verified (Ok s) q e = rw e (main verify s)
  verified (Err e) q i = rw i refl

  opens : (live wanted : Bool) (s : State) → opened live wanted (peaked p s) ≡ with_peak p (opened live wanted s)
  opens true wanted s = after (condition s.main) (λ top. record s { main = top.1; branches = (if wanted then top.0 else not top.0) ∷ s.branches })
  opens false wanted s = refl

  act_peak : (given : Given) (op : Op) (s : State) → free_act given op (peaked p s) ≡ with_peak p (free_act given op s)
  unfolding act open_branch
  act_peak given op.If s = opens (is_live s) true s
  act_peak given op.NotIf s = opens (is_live s) false s
  act_peak given op.EqualVerify s = verified (on_main equal s) _ (main equal s)
  act_peak given op.CheckSigVerify s = verified (on_checks (check_sig given.checker) s) _ (after _ _)
  act_peak given op.CheckMultiSigVerify s = verified (affect (checks_multi_sig given.checker) s) _ (after _ _)
  act_peak given other s = after _ _

  only_peak : (live : Bool) (f : State → OrFault State) (s : State) → f (peaked p s) ≡ with_peak p (f s) → only_if live f (peaked p s) ≡ with_peak p (only_if live f s)
  only_peak true f s same = same
  only_peak false f s same = refl

  pub step_peak : (given : Given) (i : Instruction) (s : State) → free_step given i (peaked p s) ≡ with_peak p (free_step given i s)
  step_peak given (push bytes) s = only_peak (is_live s) _ s refl
  step_peak given (code op) s = only_peak (is_branching op || is_live s) (free_act given op) (one_more s) (act_peak given op (one_more s))

  pub steps_peak : (given : Given) (is : List Instruction) (s : State) → free_steps given is (peaked p s) ≡ with_peak p (free_steps given is s)
  steps_peak given [] s = refl
  steps_peak given (i ∷ is) s =
      ap (λ (r : OrFault State). r >>= free_steps given is) (step_peak given i s)
      ∙ bind_assoc (free_step given i s) (λ t. Ok (peaked p t)) (free_steps given is)
      ∙ bind_same (free_step given i s) _ _ (steps_peak given is)
      ∙ sym (bind_assoc (free_step given i s) (free_steps given is) (λ t. Ok (peaked p t)))
