-- A step of the machine without limits raises the stacks by at most its rise, and the count of opcodes never falls.
use Rattle.std.proofs.Common.{◌≡◌, ℕ, ◌+◌, ◌≤◌, ◌||◌, Bool, true, false, List, [], ◌∷◌, not, if◌then◌else◌, Ok, ap, arith}
use Rattle.def_hash.specs.declared.HashKind.TheVariants as kind
use Rattle.def_script.specs.declared.Op.{Op}
use Rattle.def_script.specs.declared.Op.TheVariants as op
use Rattle.def_script.specs.Instruction.{Instruction, push, code}
use Rattle.def_machine.specs.Faults.{OrFault, ◌>>=◌}
use Rattle.def_machine.specs.Stacks.{Stack, Checker}
use Rattle.def_machine.specs.Locks.{after_holds, older_holds}
use Rattle.def_machine.specs.Effects.{verify, condition, to_alt_stack, from_alt_stack, if_dup, dup, swap, size, equal, zero_not_equal, add, bool_and, bool_or, hash, check_sig, lock}
use Rattle.def_machine.specs.Machine.{Given, State, on_main, on_both, on_checks, on_branches, opened, open_branch, turned, closed, act, only_if, is_branching, is_live, height}
use Rattle.ms_acceptance_laws.proofs.TreeEffects.{checks_multi_sig}
use Rattle.ms_acceptance_laws.proofs.ScriptRise.{rise_of, rise}
use Rattle.ms_acceptance_laws.proofs.UnlimitedMachine.{reached, affect, free_act, free_step, one_more}
use Rattle.ms_acceptance_laws.proofs.OpcodeGrowth.{Grows, verify_grows, if_dup_grows, dup_grows, swap_grows, size_grows, equal_grows, hash_grows, lock_grows, zero_not_equal_grows, add_grows, bool_and_grows, bool_or_grows, condition_takes, check_sig_takes, checks_multi_sig_takes}
use Rattle.ms_row_laws.proofs.Outcomes.{bind_split, sure, same_ok}

pub record Climbs (s t : State) (n : ℕ) : Type 0 where
  pub ops : s.ops ≤ t.ops
  pub high : height t ≤ height s + n

leads_to : (s u t : State) (n : ℕ) → s.ops ≤ u.ops → height u ≤ height s + n → sure u ≡ Ok t → Climbs s t n
leads_to s u t n ops high e =
    let same = same_ok u t e in
    record { ops = omega (arith, ops, ap (λ (v : State). v.ops) same); high = omega (arith, high, ap height same) }

then_climbs : (s u t : State) (n m : ℕ) → Climbs s u n → Climbs u t m → Climbs s t (n + m)
then_climbs s u t n m x y = record { ops = omega (arith, x.ops, y.ops); high = omega (arith, x.high, y.high) }

pub main_climbs : (f : Stack → OrFault Stack) (n : ℕ) → Grows f n → (s t : State) → on_main f s ≡ Ok t → Climbs s t n
main_climbs f n grows s t h =
    let m = bind_split (f s.main) _ t h in
    leads_to s (record s { main = m.0 }) t n (omega arith) (omega (arith, grows s.main m.0 m.1)) m.2

branches_climb : (f : List Bool → OrFault (List Bool)) (s t : State) → on_branches f s ≡ Ok t → Climbs s t 0
branches_climb f s t h =
    let b = bind_split (f s.branches) _ t h in
    leads_to s (record s { branches = b.0 }) t 0 (omega arith) (omega arith) b.2

check_sig_climbs : (checker : Checker) (s t : State) → on_checks (check_sig checker) s ≡ Ok t → Climbs s t 0
check_sig_climbs checker s t h =
    let l = bind_split (check_sig checker s.main s.checks) _ t h in
    leads_to s (record s { main = l.0.0; checks = l.0.1 }) t 0 (omega arith) (omega (arith, check_sig_takes checker s.main s.checks l.0 l.1)) l.2

check_multi_sig_climbs : (checker : Checker) (s t : State) → affect (checks_multi_sig checker) s ≡ Ok t → Climbs s t 0
check_multi_sig_climbs checker s t h =
    let l = bind_split (checks_multi_sig checker s.main) _ t h in
    leads_to s (reached s 0 l.0) t 0 (omega arith) (omega (arith, checks_multi_sig_takes checker s.main l.0 l.1)) l.2

opened_climbs : (live wanted : Bool) (s t : State) → opened live wanted s ≡ Ok t → Climbs s t 0
opened_climbs true wanted s t h =
    let top = bind_split (condition s.main) _ t h in
    leads_to s (record s { main = top.0.1; branches = (if wanted then top.0.0 else not top.0.0) ∷ s.branches }) t 0 (omega arith) (omega (arith, condition_takes s.main top.0 top.1)) top.2
opened_climbs false wanted s t h = leads_to s (record s { branches = false ∷ s.branches }) t 0 (omega arith) (omega arith) h

to_alt_climbs : (s t : State) → on_both to_alt_stack s ≡ Ok t → Climbs s t 0
unfolding to_alt_stack
to_alt_climbs s t h = go s.main h
  where
    go : (main : Stack) → on_both to_alt_stack (record s { main = main }) ≡ Ok t → Climbs (record s { main = main }) t 0
    go [] h = absurd cc
    go (x ∷ main) h = leads_to (record s { main = x ∷ main }) (record s { main = main; alt = x ∷ s.alt }) t 0 (omega arith) (omega arith) h

from_alt_climbs : (s t : State) → on_both from_alt_stack s ≡ Ok t → Climbs s t 0
unfolding from_alt_stack
from_alt_climbs s t h = go s.alt h
  where
    go : (alt : Stack) → on_both from_alt_stack (record s { alt = alt }) ≡ Ok t → Climbs (record s { alt = alt }) t 0
    go [] h = absurd cc
    go (x ∷ alt) h = leads_to (record s { alt = x ∷ alt }) (record s { main = x ∷ s.main; alt = alt }) t 0 (omega arith) (omega arith) h

verified_climbs : (r : OrFault State) (s t : State) → ((u : State) → r ≡ Ok u → Climbs s u 0) → (r >>= on_main verify) ≡ Ok t → Climbs s t 0
verified_climbs r s t x h =
    let u = bind_split r (on_main verify) t h in
    then_climbs s u.0 t 0 0 (x u.0 u.1) (main_climbs verify 0 verify_grows u.0 t u.2)

pub act_climbs : (given : Given) (op : Op) (s t : State) → free_act given op s ≡ Ok t → Climbs s t (rise_of op)
unfolding act open_branch
act_climbs given op.If s t h = opened_climbs (is_live s) true s t h
act_climbs given op.NotIf s t h = opened_climbs (is_live s) false s t h
act_climbs given op.Else s t h = branches_climb turned s t h
act_climbs given op.EndIf s t h = branches_climb closed s t h
act_climbs given op.Verify s t h = main_climbs verify 0 verify_grows s t h
act_climbs given op.ToAltStack s t h = to_alt_climbs s t h
act_climbs given op.FromAltStack s t h = from_alt_climbs s t h
act_climbs given op.IfDup s t h = main_climbs if_dup 1 if_dup_grows s t h
act_climbs given op.Dup s t h = main_climbs dup 1 dup_grows s t h
act_climbs given op.Swap s t h = main_climbs swap 0 swap_grows s t h
act_climbs given op.Size s t h = main_climbs size 1 size_grows s t h
act_climbs given op.Equal s t h = main_climbs equal 0 equal_grows s t h
act_climbs given op.EqualVerify s t h = verified_climbs (on_main equal s) s t (λ u. main_climbs equal 0 equal_grows s u) h
act_climbs given op.ZeroNotEqual s t h = main_climbs zero_not_equal 0 zero_not_equal_grows s t h
act_climbs given op.Add s t h = main_climbs add 0 add_grows s t h
act_climbs given op.BoolAnd s t h = main_climbs bool_and 0 bool_and_grows s t h
act_climbs given op.BoolOr s t h = main_climbs bool_or 0 bool_or_grows s t h
act_climbs given op.Ripemd160 s t h = main_climbs (hash kind.Ripemd160) 0 (hash_grows kind.Ripemd160) s t h
act_climbs given op.Sha256 s t h = main_climbs (hash kind.Sha256) 0 (hash_grows kind.Sha256) s t h
act_climbs given op.Hash160 s t h = main_climbs (hash kind.Hash160) 0 (hash_grows kind.Hash160) s t h
act_climbs given op.Hash256 s t h = main_climbs (hash kind.Hash256) 0 (hash_grows kind.Hash256) s t h
act_climbs given op.CheckSig s t h = check_sig_climbs given.checker s t h
act_climbs given op.CheckSigVerify s t h = verified_climbs (on_checks (check_sig given.checker) s) s t (check_sig_climbs given.checker s) h
act_climbs given op.CheckMultiSig s t h = check_multi_sig_climbs given.checker s t h
act_climbs given op.CheckMultiSigVerify s t h = verified_climbs (affect (checks_multi_sig given.checker) s) s t (check_multi_sig_climbs given.checker s) h
act_climbs given op.CheckLockTimeVerify s t h = main_climbs (lock (λ n. after_holds n given.locks)) 0 (lock_grows (λ n. after_holds n given.locks)) s t h
act_climbs given op.CheckSequenceVerify s t h = main_climbs (lock (λ n. older_holds n given.locks)) 0 (lock_grows (λ n. older_holds n given.locks)) s t h

-- an opcode is carried out or skipped; it is counted at any rate
pub code_climbs : (given : Given) (op : Op) (s t : State) → free_step given (code op) s ≡ Ok t → Climbs (one_more s) t (rise_of op)
code_climbs given op s t h = go (is_branching op || is_live s) h
  where
    go : (done : Bool) → only_if done (free_act given op) (one_more s) ≡ Ok t → Climbs (one_more s) t (rise_of op)
    go true h = act_climbs given op (one_more s) t h
    go false h = leads_to (one_more s) (one_more s) t (rise_of op) (omega arith) (omega arith) h

pub step_climbs : (given : Given) (i : Instruction) (s t : State) → free_step given i s ≡ Ok t → Climbs s t (rise i)
step_climbs given (push bytes) s t h = go (is_live s) h
  where
    go : (live : Bool) → only_if live (λ u. Ok (record u { main = bytes ∷ u.main })) s ≡ Ok t → Climbs s t 1
    go true h = leads_to s (record s { main = bytes ∷ s.main }) t 1 (omega arith) (omega arith) h
    go false h = leads_to s s t 1 (omega arith) (omega arith) h
step_climbs given (code op) s t h =
    let x = code_climbs given op s t h in
    record { ops = omega (arith, x.ops); high = x.high }
