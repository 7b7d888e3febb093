-- CHECKSIG, CHECKMULTISIG and EQUALVERIFY on the machine without limits.
use Rattle.std.proofs.Common.{◌≡◌, ◌++◌, not, Bool, true, false, [], ◌∷◌, Ok, Err, refl, append-nil, add-zero, List, if◌then◌else◌}
use Rattle.def_script.specs.declared.Op.TheVariants as op
use Rattle.def_script.specs.Instruction.{code}
use Rattle.def_machine.specs.declared.ScriptFault.TheVariants as fault
use Rattle.def_machine.specs.Faults.{OrFault, ◌>>=◌}
use Rattle.def_machine.specs.Stacks.{Stack, Pairs, Checker, is_empty, bool_bytes}
use Rattle.def_script.specs.Key.{is_key}
use Rattle.def_machine.specs.Effects.{check_sig, equal, verify}
use Rattle.def_machine.specs.Machine.{Given, State, act, on_main}
use Rattle.ms_acceptance_laws.proofs.StackEffects.{both, plain}
use Rattle.ms_acceptance_laws.proofs.TreeEffects.{checks_sig, with_checks, checks_multi_sig}
use Rattle.ms_acceptance_laws.proofs.UnlimitedMachine.{affect, free_act, one_more, reached}
use Rattle.ms_acceptance_laws.proofs.InstructionEffects.{Does, effect_does, one_moves, code_skips}
use Rattle.ms_acceptance_laws.proofs.BranchMoves.{Moves, then_moves, plain_moves}

-- the checks passed before stand in front
abbrev behind_checks : Pairs → Stack × Pairs → OrFault (Stack × Pairs)
behind_checks checks left = Ok (left.0, checks ++ left.1)

pub check_sig-behind : (checker : Checker) (main : Stack) (checks : Pairs) → check_sig checker main checks ≡ (check_sig checker main [] >>= behind_checks checks)
unfolding check_sig
check_sig-behind checker [] checks = refl
check_sig-behind checker (key ∷ []) checks = refl
check_sig-behind checker (key ∷ sig ∷ s) checks = go (not (is_key key)) (is_empty sig) (checker key sig)
  where
    checked : (bad empty good : Bool) → Pairs → OrFault (Stack × Pairs)
    checked bad empty good before =
        if bad then Err fault.KeyForm
        else if empty then Ok (bool_bytes false ∷ s, before)
        else if good then Ok (bool_bytes true ∷ s, before ++ (key, sig) ∷ [])
        else Err fault.NullFail

    go : (bad empty good : Bool) → checked bad empty good checks ≡ (checked bad empty good [] >>= behind_checks checks)
    go true empty good = refl
    go false true good = rw (append-nil checks) refl
    go false false true = refl
    go false false false = refl

check_sig-affects : (given : Given) (s : State) → free_act given op.CheckSig s ≡ affect (checks_sig given.checker) s
unfolding act
check_sig-affects given s = rw (check_sig-behind given.checker s.main s.checks) (go (check_sig given.checker s.main []))
  where
    go : (r : OrFault (Stack × Pairs)) →
        ((r >>= behind_checks s.checks) >>= λ left. Ok (record s { main = left.0; checks = left.1 })) ≡ ((r >>= with_checks) >>= λ left. Ok (reached s 0 left))
    go (Ok left) = rw (add-zero s.ops, add-zero s.ops) refl
    go (Err e) = refl

pub check_sig_does : (given : Given) → Does given (code op.CheckSig ∷ []) (checks_sig given.checker)
check_sig_does given = effect_does given op.CheckSig (checks_sig given.checker) refl (check_sig-affects given)

pub check_multi_sig_does : (given : Given) → Does given (code op.CheckMultiSig ∷ []) (checks_multi_sig given.checker)
check_multi_sig_does given = effect_does given op.CheckMultiSig (checks_multi_sig given.checker) refl (λ s. refl)

pub equal_verify_does : (given : Given) → Does given (code op.EqualVerify ∷ []) (both (plain equal) (plain verify))
unfolding act
equal_verify_does given = record {
  goes = λ branches live. one_moves given (code op.EqualVerify) _ 1 branches branches (record { moves = λ s. rw live ((two branches).moves s) });
  skips = λ branches dead. code_skips given op.EqualVerify branches refl dead;
}
  where
    two : (branches : List Bool) → Moves (λ s. on_main equal (one_more s) >>= on_main verify) (both (plain equal) (plain verify)) 1 branches branches
    two branches =
        then_moves _ _ (plain equal) (plain verify) 1 0 branches branches branches
        (plain_moves equal 1 branches (λ s. on_main equal (one_more s)) (λ s. refl))
        (plain_moves verify 0 branches (on_main verify) (λ s. rw (add-zero s.ops) refl))
