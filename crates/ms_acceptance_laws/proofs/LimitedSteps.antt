-- The machine with its limits makes the steps of the machine without them, or stops at a limit.
use Rattle.std.proofs.Common.{◌≡◌, ℕ, ◌+◌, ◌<◌, ◌||◌, ◌⊎◌, inl, inr, max, nat_lt, Bool, true, false, Option, [], ◌∷◌, ◌++◌, length, Ok, Err, refl, sym, ◌∙◌, ap, IsTrue, add-zero, ltb-true, le-ltb, arith}
use Rattle.std.proofs.lemmas.Bool.{cases_Bool}
use Rattle.def_script.specs.Bytes.{Bytes}
use Rattle.def_script.specs.declared.Op.{Op}
use Rattle.def_script.specs.declared.Op.TheVariants as op
use Rattle.def_script.specs.Instruction.{Instruction, push, code}
use Rattle.def_script.specs.Spell.{IsShort}
use Rattle.def_script.specs.Laws.{item_of}
use Rattle.def_machine.specs.declared.ScriptFault.{ScriptFault}
use Rattle.def_machine.specs.declared.ScriptFault.TheVariants as fault
use Rattle.def_machine.specs.Faults.{OrFault, ◌>>=◌}
use Rattle.def_script.specs.Limits.{MAX_PUBKEYS_PER_MULTISIG, MAX_OPS_PER_SCRIPT, MAX_STACK_SIZE}
use Rattle.def_machine.specs.Stacks.{Stack, Pairs, Checker, bool_bytes}
use Rattle.def_machine.specs.Effects.{verify}
use Rattle.def_machine.specs.MultiSig.{count, within_op_limit, some_off, one_off, tries, verdict, null_dummy, check_multi_sig}
use Rattle.def_machine.specs.Machine.{Given, State, on_main, on_multi, act, only_if, is_branching, is_live, pushed, carry_out, settle, step, height}
use Rattle.def_promises.specs.Limited.{is_limit}
use Rattle.ms_acceptance_laws.proofs.StackEffects.{Left, left}
use Rattle.ms_acceptance_laws.proofs.TreeEffects.{checks_multi_sig}
use Rattle.ms_acceptance_laws.proofs.UnlimitedMachine.{reached, affect, free_act, free_step, one_more}
use Rattle.ms_acceptance_laws.proofs.PeakUnseen.{peaked}
use Rattle.ms_acceptance_laws.proofs.OpcodeGrowth.{verify_grows}
use Rattle.ms_acceptance_laws.proofs.StepRises.{main_climbs, code_climbs}
use Rattle.ms_row_laws.proofs.RunLog.{log_of}
use Rattle.ms_row_laws.proofs.Outcomes.{bind_split, same_ok, no_fault, bind_same}

-- with a count of opcodes and the checks passed before
abbrev multi_after : (ops : ℕ) → Pairs → Left → OrFault (Stack × ℕ × Pairs)
multi_after ops checks left = within_op_limit (ops + left.log.keys) >>= λ total. Ok (left.main, total, checks ++ left.log.checks)

-- from the steps of one form of CHECKMULTISIG, what both forms find
both_find : (checker : Checker) (main : Stack) (ops : ℕ) (checks : Pairs) (n : ℕ × Stack) (keys : Stack × Stack) (m : ℕ × Stack) (sigs : Stack × Stack)
    (extra : Bytes × Stack) (tried : Option Pairs) (passed : Bool × Pairs) (empty : Bytes)
    → count MAX_PUBKEYS_PER_MULTISIG fault.KeyCount main ≡ Ok n → some_off n.0 n.1 ≡ Ok keys → count n.0 fault.SigCount keys.1 ≡ Ok m
    → some_off m.0 m.1 ≡ Ok sigs → one_off sigs.1 ≡ Ok extra → tries checker keys.0 sigs.0 [] ≡ Ok tried
    → verdict sigs.0 tried ≡ Ok passed → null_dummy extra.0 ≡ Ok empty
    → let found = left (bool_bytes passed.0 ∷ extra.1) (log_of n.0 passed.1) in
    (checks_multi_sig checker main ≡ Ok found) × (check_multi_sig checker main ops checks ≡ multi_after ops checks found)
unfolding checks_multi_sig check_multi_sig
both_find checker main ops checks n keys m sigs extra tried passed empty a b c d e f g h =
    (rw (a, b, c, d, e, f, g, h) refl, rw a (bind_same (within_op_limit (ops + n.0)) _ _ (λ total. rw (b, c, d, e, f, g, h) refl)))

multi_counted : (checker : Checker) (main : Stack) (ops : ℕ) (checks : Pairs) (end : Left) → checks_multi_sig checker main ≡ Ok end
    → check_multi_sig checker main ops checks ≡ multi_after ops checks end
unfolding checks_multi_sig
multi_counted checker main ops checks end h =
    let n = bind_split (count MAX_PUBKEYS_PER_MULTISIG fault.KeyCount main) _ end h in
    let keys = bind_split (some_off n.0.0 n.0.1) _ end n.2 in
    let m = bind_split (count n.0.0 fault.SigCount keys.0.1) _ end keys.2 in
    let sigs = bind_split (some_off m.0.0 m.0.1) _ end m.2 in
    let extra = bind_split (one_off sigs.0.1) _ end sigs.2 in
    let tried = bind_split (tries checker keys.0.0 sigs.0.0 []) _ end extra.2 in
    let passed = bind_split (verdict sigs.0.0 tried.0) _ end tried.2 in
    let empty = bind_split (null_dummy extra.0.0) _ end passed.2 in
    (both_find checker main ops checks _ _ _ _ _ _ _ _ n.1 keys.1 m.1 sigs.1 extra.1 tried.1 passed.1 empty.1).1 ∙ ap (multi_after ops checks)
    (same_ok _ end empty.2)

-- and conversely
multi_found : (checker : Checker) (main : Stack) (ops : ℕ) (checks : Pairs) (out : Stack × ℕ × Pairs) → check_multi_sig checker main ops checks ≡ Ok out →
    (end : Left) × (checks_multi_sig checker main ≡ Ok end)
unfolding check_multi_sig
multi_found checker main ops checks out h =
    let n = bind_split (count MAX_PUBKEYS_PER_MULTISIG fault.KeyCount main) _ out h in
    let total = bind_split (within_op_limit (ops + n.0.0)) _ out n.2 in
    let keys = bind_split (some_off n.0.0 n.0.1) _ out total.2 in
    let m = bind_split (count n.0.0 fault.SigCount keys.0.1) _ out keys.2 in
    let sigs = bind_split (some_off m.0.0 m.0.1) _ out m.2 in
    let extra = bind_split (one_off sigs.0.1) _ out sigs.2 in
    let tried = bind_split (tries checker keys.0.0 sigs.0.0 []) _ out extra.2 in
    let passed = bind_split (verdict sigs.0.0 tried.0) _ out tried.2 in
    let empty = bind_split (null_dummy extra.0.0) _ out passed.2 in
    (_, (both_find checker main ops checks _ _ _ _ _ _ _ _ n.1 keys.1 m.1 sigs.1 extra.1 tried.1 passed.1 empty.1).0)

-- a count of opcodes
counted_or : (n : ℕ) → (within_op_limit n ≡ Ok n) ⊎ ((within_op_limit n ≡ Err fault.OpCount) × (MAX_OPS_PER_SCRIPT < n))
unfolding within_op_limit
counted_or n = elim (cases_Bool (nat_lt MAX_OPS_PER_SCRIPT n)) [ inl e ↦ inr (rw e refl, ltb-true _ _ e) | inr e ↦ inl (rw e refl) ]

-- a step is carried out, or there are too many opcodes
abbrev OrTooMany : OrFault State → State → Type 0
OrTooMany r t = (r ≡ Ok t) ⊎ ((r ≡ Err fault.OpCount) × (MAX_OPS_PER_SCRIPT < t.ops))

multi_bounded : (checker : Checker) (s t : State) → affect (checks_multi_sig checker) s ≡ Ok t → OrTooMany (on_multi (check_multi_sig checker) s) t
multi_bounded checker s t h =
    let left = bind_split (checks_multi_sig checker s.main) _ t h in
    go left.0 (multi_counted checker s.main s.ops s.checks left.0 left.1) (same_ok (reached s 0 left.0) t left.2) (counted_or (s.ops + left.0.log.keys))
  where
    go : (left : Left) → check_multi_sig checker s.main s.ops s.checks ≡ multi_after s.ops s.checks left → reached s 0 left ≡ t →
        (within_op_limit (s.ops + left.log.keys) ≡ Ok (s.ops + left.log.keys)) ⊎ ((within_op_limit (s.ops + left.log.keys) ≡ Err fault.OpCount) × (MAX_OPS_PER_SCRIPT < s.ops + left.log.keys)) →
        OrTooMany (on_multi (check_multi_sig checker) s) t
    go left e same (inl few) = inl (rw (e, few, ← same, add-zero s.ops) refl)
    go left e same (inr many) = inr (rw (e, many.0) refl, rw (← same) (omega (arith, many.1)))

act_bounded : (given : Given) (op : Op) (s t : State) → free_act given op s ≡ Ok t → OrTooMany (act given op s) t
unfolding act
act_bounded given op.CheckMultiSig s t h = multi_bounded given.checker s t h
act_bounded given op.CheckMultiSigVerify s t h =
    let u = bind_split (affect (checks_multi_sig given.checker) s) (on_main verify) t h in
    elim (multi_bounded given.checker s u.0 u.1) [
      | inl few ↦ inl (rw few u.2)
      | inr many ↦ let climb = main_climbs verify 0 verify_grows u.0 t u.2 in inr (rw (many.0) refl, omega (arith, many.1, climb.ops))
    ]
act_bounded given other s t h = inl h

carry_bounded : (given : Given) (i : Instruction) (s t : State) → IsShort i → free_step given i s ≡ Ok t → OrTooMany (carry_out given (item_of i) s) t
unfolding carry_out pushed
carry_bounded given (push bytes) s t short h = inl (rw (le-ltb 520 (length bytes) short) h)
carry_bounded given (code op) s t short h =
    elim (counted_or (s.ops + 1)) [
      | inl few ↦ rw few (done_or (is_branching op || is_live s) h)
      | inr many ↦ let climb = code_climbs given op s t h in inr (rw (many.0) refl, omega (arith, many.1, climb.ops))
    ]
  where
    done_or : (done : Bool) → only_if done (free_act given op) (one_more s) ≡ Ok t → OrTooMany (only_if done (act given op) (one_more s)) t
    done_or true h = act_bounded given op (one_more s) t h
    done_or false h = inl h

-- the elements on the stacks are few enough, or not
abbrev pub settled : State → State
settled t = peaked (max t.peak (height t)) t

settle_or : (t : State) → (settle t ≡ Ok (settled t)) ⊎ ((settle t ≡ Err fault.StackSize) × (MAX_STACK_SIZE < height t))
unfolding settle
settle_or t = elim (cases_Bool (nat_lt MAX_STACK_SIZE (height t))) [ inl e ↦ inr (rw e refl, ltb-true _ _ e) | inr e ↦ inl (rw e refl) ]

-- a step that stops at a limit, and why
pub record StopsStep (r : OrFault State) (t : State) : Type 0 where
  pub fault : ScriptFault
  pub limit : IsTrue (is_limit fault)
  pub stops : r ≡ Err fault
  pub why : (MAX_OPS_PER_SCRIPT < t.ops) ⊎ (MAX_STACK_SIZE < height t)

pub step_bounded : (given : Given) (i : Instruction) (s t : State) → IsShort i → free_step given i s ≡ Ok t →
    (step given (item_of i) s ≡ Ok (settled t)) ⊎ StopsStep (step given (item_of i) s) t
unfolding step
step_bounded given i s t short h = go (carry_bounded given i s t short h) (settle_or t)
  where
    go : OrTooMany (carry_out given (item_of i) s) t → (settle t ≡ Ok (settled t)) ⊎ ((settle t ≡ Err fault.StackSize) × (MAX_STACK_SIZE < height t)) →
        (step given (item_of i) s ≡ Ok (settled t)) ⊎ StopsStep (step given (item_of i) s) t
    go (inl few) (inl low) = inl (rw few low)
    go (inl few) (inr high) = inr (record { fault = fault.StackSize; limit = refl; stops = rw few (high.0); why = inr high.1 })
    go (inr many) r = inr (record { fault = fault.OpCount; limit = refl; stops = rw (many.0) refl; why = inl many.1 })

multi_free : (checker : Checker) (s t : State) → on_multi (check_multi_sig checker) s ≡ Ok t → affect (checks_multi_sig checker) s ≡ Ok t
multi_free checker s t h =
    let out = bind_split (check_multi_sig checker s.main s.ops s.checks) _ t h in
    let left = multi_found checker s.main s.ops s.checks out.0 out.1 in
    let affected : affect (checks_multi_sig checker) s ≡ Ok (reached s 0 left.0) = rw left.1 refl in
    elim (multi_bounded checker s (reached s 0 left.0) affected) [
      | inl few ↦ affected ∙ (sym few ∙ h)
      | inr many ↦ absurd (no_fault _ t (sym (many.0) ∙ h))
    ]

-- conversely, what is carried out is a step of the machine without limits
act_free : (given : Given) (op : Op) (s t : State) → act given op s ≡ Ok t → free_act given op s ≡ Ok t
unfolding act
act_free given op.CheckMultiSig s t h = multi_free given.checker s t h
act_free given op.CheckMultiSigVerify s t h =
    let u = bind_split (on_multi (check_multi_sig given.checker) s) (on_main verify) t h in
    ap (λ (r : OrFault State). r >>= on_main verify) (multi_free given.checker s u.0 u.1) ∙ u.2
act_free given other s t h = h

pub carry_free : (given : Given) (i : Instruction) (s t : State) → carry_out given (item_of i) s ≡ Ok t → free_step given i s ≡ Ok t
unfolding carry_out pushed
carry_free given (push bytes) s t h = elim (cases_Bool (nat_lt 520 (length bytes))) [ inl long ↦ absurd (no_fault _ t (rw long at h)) | inr few ↦ rw few at h ]
carry_free given (code op) s t h =
    elim (counted_or (s.ops + 1)) [
      | inl few ↦ done_free (is_branching op || is_live s) (rw few at h)
      | inr many ↦ absurd (no_fault _ t (rw (many.0) at h))
    ]
  where
    done_free : (done : Bool) → only_if done (act given op) (one_more s) ≡ Ok t → only_if done (free_act given op) (one_more s) ≡ Ok t
    done_free true h = act_free given op (one_more s) t h
    done_free false h = h

-- and up to the peak the step is the same
pub step_free : (given : Given) (i : Instruction) (s t : State) → step given (item_of i) s ≡ Ok t → (u : State) × (free_step given i s ≡ Ok u) × (t ≡ settled u)
unfolding step
step_free given i s t h =
    let u = bind_split (carry_out given (item_of i) s) settle t h in
    let same : t ≡ settled u.0 = elim (settle_or u.0) [ inl low ↦ same_ok t (settled u.0) (sym u.2 ∙ low) | inr high ↦ absurd (no_fault _ t (sym (high.0) ∙ u.2)) ] in
    (u.0, carry_free given i s u.0 u.1, same)
