-- What an accepted run reports is small.
use Rattle.std.proofs.Common.{◌≡◌, ℕ, ◌+◌, ◌≤◌, ◌||◌, not, max, nat_lt, nat_le, Bool, true, false, List, [], ◌∷◌, ◌++◌, length, take, reverse, Option, Some, None, Result, Ok, Err, IfOk, inl, inr, arith, refl, subst, length-append, length-take, if◌then◌else◌}
use Rattle.std.specs.List.{list_all}
use Rattle.std.proofs.lemmas.List.{length-reverse}
use Rattle.std.proofs.lemmas.Bool.{cases_Bool, ltb-false}
use Rattle.def_hash.specs.declared.HashKind.TheVariants as kind
use Rattle.def_script.specs.declared.Op.{Op}
use Rattle.def_script.specs.declared.Op.TheVariants as op
use Rattle.def_script.specs.Bytes.{Bytes}
use Rattle.def_script.specs.Item.{Item}
use Rattle.def_script.specs.Item as item
use Rattle.def_script.specs.Items.{items}
use Rattle.def_machine.specs.declared.ScriptFault.TheVariants as fault
use Rattle.def_machine.specs.Faults.{OrFault, ◌>>=◌}
use Rattle.def_machine.specs.Stacks.{Stack, Pairs, Checker, is_empty}
use Rattle.def_script.specs.Key.{is_key}
use Rattle.def_machine.specs.Effects.{verify, condition, to_alt_stack, from_alt_stack, if_dup, dup, swap, size, equal, zero_not_equal, add, bool_and, bool_or, hash, check_sig, lock}
use Rattle.def_machine.specs.Locks.{after_holds, older_holds}
use Rattle.def_machine.specs.MultiSig.{within_op_limit, count, some_off, one_off, one_try, is_good, tries, verdict, null_dummy, check_multi_sig}
use Rattle.def_machine.specs.Machine.{Given, State, is_live, is_branching, on_main, on_both, on_checks, on_multi, on_branches, opened, open_branch, turned, closed, act, only_if, pushed, count_op, carry_out, height, settle, step}
use Rattle.def_machine.specs.Run.{Outcome, accepted, refused, leads, start, balanced, is_clean, finish, ended, steps, run}
use Rattle.ms_interp.specs.declared.report.RunReport.{RunReport}
use Rattle.ms_interp.specs.declared.report.RunStop.{RunStop}
use Rattle.ms_interp.specs.Answering.{Answers, IsSmallReport}

-- a fact of what is given, where no fault is
abbrev Keeps : {A : Type 0} → (A → Type 0) → OrFault A → Type 0
Keeps P (Ok a) = P a
Keeps P (Err e) = Unit {0}

bind_keeps : {A B : Type 0} (Q : A → Type 0) (P : B → Type 0) (r : OrFault A) (f : A → OrFault B) → Keeps Q r → ((a : A) → Q a → Keeps P (f a)) → Keeps P (r >>= f)
bind_keeps Q P (Ok a) f q next = next a q
bind_keeps Q P (Err e) f q next = tt

always : {A : Type 0} (r : OrFault A) → Keeps (λ a. Unit {0}) r
always (Ok a) = tt
always (Err e) = tt

if_keeps : {A : Type 0} (P : A → Type 0) (b : Bool) (x y : OrFault A) → Keeps P x → Keeps P y → Keeps P (if b then x else y)
if_keeps P true x y first second = first
if_keeps P false x y first second = second

-- between instructions, and after an opcode was counted
record Bounded (k : ℕ) (s : State) : Type 0 where
  checks : length s.checks ≤ s.ops
  ops : s.ops ≤ 201
  peak : s.peak ≤ max 1000 k

record Counted (k : ℕ) (s : State) : Type 0 where
  checks : length s.checks + 1 ≤ s.ops
  ops : s.ops ≤ 201
  peak : s.peak ≤ max 1000 k

bounded : (k : ℕ) (s : State) → Counted k s → Bounded k s
bounded k s c = let checks = c.checks in record { checks = omega arith; ops = c.ops; peak = c.peak }

main_keeps : (k : ℕ) (f : Stack → OrFault Stack) (s : State) → Bounded k s → Keeps (Bounded k) (on_main f s)
main_keeps k f s b = bind_keeps (λ main. Unit {0}) (Bounded k) (f s.main) _ (always (f s.main)) (λ main u. record { checks = b.checks; ops = b.ops; peak = b.peak })

both_keeps : (k : ℕ) (f : Stack → Stack → OrFault (Stack × Stack)) (s : State) → Bounded k s → Keeps (Bounded k) (on_both f s)
both_keeps k f s b = bind_keeps (λ stacks. Unit {0}) (Bounded k) (f s.main s.alt) _ (always (f s.main s.alt)) (λ stacks u. record { checks = b.checks; ops = b.ops; peak = b.peak })

branches_keep : (k : ℕ) (f : List Bool → OrFault (List Bool)) (s : State) → Bounded k s → Keeps (Bounded k) (on_branches f s)
branches_keep k f s b = bind_keeps (λ branches. Unit {0}) (Bounded k) (f s.branches) _ (always (f s.branches)) (λ branches u. record { checks = b.checks; ops = b.ops; peak = b.peak })

opened_keeps : (k : ℕ) (live wanted : Bool) (s : State) → Bounded k s → Keeps (Bounded k) (opened live wanted s)
opened_keeps k true wanted s b = bind_keeps (λ top. Unit {0}) (Bounded k) (condition s.main) _ (always (condition s.main)) (λ top u. record { checks = b.checks; ops = b.ops; peak = b.peak })
opened_keeps k false wanted s b = record { checks = b.checks; ops = b.ops; peak = b.peak }

open_keeps : (k : ℕ) (wanted : Bool) (s : State) → Bounded k s → Keeps (Bounded k) (open_branch wanted s)
unfolding open_branch
open_keeps k wanted s b = opened_keeps k (is_live s) wanted s b

-- CHECKSIG adds one check at most
check_sig_keeps : (checker : Checker) (main : Stack) (checks : Pairs) → Keeps (λ (left : Stack × Pairs). length left.1 ≤ length checks + 1) (check_sig checker main checks)
unfolding check_sig
check_sig_keeps checker [] checks = tt
check_sig_keeps checker (key ∷ []) checks = tt
check_sig_keeps checker (key ∷ sig ∷ s) checks =
    let P : Stack × Pairs → Type 0 = λ left. length left.1 ≤ length checks + 1 in
    let one : length (checks ++ (key, sig) ∷ []) ≤ length checks + 1 = omega (arith, length-append checks ((key, sig) ∷ [])) in
    let none : length checks ≤ length checks + 1 = omega arith in
    if_keeps P (not (is_key key)) _ _ tt (if_keeps P (is_empty sig) _ _ none (if_keeps P (checker key sig) _ _ one tt))

sig_keeps : (k : ℕ) (checker : Checker) (s : State) → Counted k s → Keeps (Bounded k) (on_checks (check_sig checker) s)
sig_keeps k checker s c =
    bind_keeps (λ left. length left.1 ≤ length s.checks + 1) (Bounded k) (check_sig checker s.main s.checks) _ (check_sig_keeps checker s.main s.checks)
    (λ left few. let checks = c.checks in record { checks = omega arith; ops = c.ops; peak = c.peak })

-- CHECKMULTISIG adds one check a key at most
abbrev Few : ℕ → Option Pairs → Type 0
Few n None = Unit {0}
Few n (Some found) = length found ≤ n

try_keeps : (over form good : Bool) (n : ℕ) (next : Bool → OrFault (Option Pairs)) → ((b : Bool) → Keeps (Few n) (next b)) → Keeps (Few n) (one_try over form good next)
try_keeps true form good n next h = tt
try_keeps false false good n next h = tt
try_keeps false true good n next h = h good

found_more : (b : Bool) (found : Pairs) (key sig : Bytes) (keys : Stack) (n : ℕ) → length found + length (key ∷ keys) ≤ n
    → length (if b then found ++ (key, sig) ∷ [] else found) + length keys ≤ n
found_more true found key sig keys n few = omega (arith, length-append found ((key, sig) ∷ []))
found_more false found key sig keys n few = omega arith

tries_keep : (checker : Checker) (keys sigs : Stack) (found : Pairs) (n : ℕ) → length found + length keys ≤ n → Keeps (Few n) (tries checker keys sigs found)
unfolding tries
tries_keep checker keys [] found n few = omega arith
tries_keep checker [] (sig ∷ sigs) found n few = tt
tries_keep checker (key ∷ keys) (sig ∷ sigs) found n few =
    try_keeps _ (is_key key) (is_good checker key sig) n _
    (λ b. tries_keep checker keys (if b then sigs else sig ∷ sigs) (if b then found ++ (key, sig) ∷ [] else found) n (found_more b found key sig keys n few))

verdict_keeps : (n : ℕ) (sigs : Stack) (tried : Option Pairs) → Few n tried → Keeps (λ (passed : Bool × Pairs). length passed.1 ≤ n) (verdict sigs tried)
unfolding verdict
verdict_keeps n sigs (Some found) few = few
verdict_keeps n sigs None few = let none : 0 ≤ n = omega arith in if_keeps (λ (passed : Bool × Pairs). length passed.1 ≤ n) (list_all is_empty sigs) _ _ none tt

counted_keeps : (ops : ℕ) → Keeps (λ total. (total ≡ ops) × (total ≤ 201)) (within_op_limit ops)
unfolding within_op_limit
counted_keeps ops =
    elim (cases_Bool (nat_lt 201 ops)) [
      | inl over ↦ rw over tt
      | inr under ↦ let low : ops ≤ 201 = ltb-false _ _ under in rw under (refl, low)
    ]

some_off_keeps : (n : ℕ) (main : Stack) → Keeps (λ (taken : Stack × Stack). length taken.0 ≤ n) (some_off n main)
unfolding some_off
some_off_keeps n main =
    let few : length (take n main) ≤ n = omega (arith, length-take n main) in
    if_keeps (λ (taken : Stack × Stack). length taken.0 ≤ n) (nat_lt (length main) n) _ _ tt few

abbrev Grown : (ops : ℕ) (checks : Pairs) → Stack × ℕ × Pairs → Type 0
Grown ops checks left = (length left.2 + ops ≤ length checks + left.1) × (left.1 ≤ 201)

check_multi_keeps : (checker : Checker) (main : Stack) (ops : ℕ) (checks : Pairs) → Keeps (Grown ops checks) (check_multi_sig checker main ops checks)
unfolding check_multi_sig
check_multi_keeps checker main ops checks =
    let P = Grown ops checks in
    bind_keeps (λ n. Unit {0}) P (count 20 fault.KeyCount main) _ (always _) (λ n u1.
    bind_keeps (λ total. (total ≡ ops + n.0) × (total ≤ 201)) P (within_op_limit (ops + n.0)) _ (counted_keeps (ops + n.0)) (λ total sum.
    bind_keeps (λ keys. length keys.0 ≤ n.0) P (some_off n.0 n.1) _ (some_off_keeps n.0 n.1) (λ keys few.
    bind_keeps (λ m. Unit {0}) P (count n.0 fault.SigCount keys.1) _ (always _) (λ m u2.
    bind_keeps (λ sigs. Unit {0}) P (some_off m.0 m.1) _ (always _) (λ sigs u3.
    bind_keeps (λ extra. Unit {0}) P (one_off sigs.1) _ (always _) (λ extra u4.
    bind_keeps (Few n.0) P (tries checker keys.0 sigs.0 []) _ (tries_keep checker keys.0 sigs.0 [] n.0 (omega (arith, few))) (λ tried some.
    bind_keeps (λ passed. length passed.1 ≤ n.0) P (verdict sigs.0 tried) _ (verdict_keeps n.0 sigs.0 tried some) (λ passed added.
    bind_keeps (λ empty. Unit {0}) P (null_dummy extra.0) _ (always _) (λ empty u5.
    (let is = sum.0 in omega (arith, is, length-append checks passed.1), sum.1))))))))))

multi_keeps : (k : ℕ) (checker : Checker) (s : State) → Counted k s → Keeps (Bounded k) (on_multi (check_multi_sig checker) s)
multi_keeps k checker s c =
    bind_keeps (Grown s.ops s.checks) (Bounded k) (check_multi_sig checker s.main s.ops s.checks) _ (check_multi_keeps checker s.main s.ops s.checks)
    (λ left grown. let more = grown.0 in let checks = c.checks in record { checks = omega arith; ops = grown.1; peak = c.peak })

verify_keeps : (k : ℕ) (r : OrFault State) → Keeps (Bounded k) r → Keeps (Bounded k) (r >>= on_main verify)
verify_keeps k r b = bind_keeps (Bounded k) (Bounded k) r (on_main verify) b (λ s c. main_keeps k verify s c)

act_keeps : (k : ℕ) (given : Given) (op : Op) (s : State) → Counted k s → Keeps (Bounded k) (act given op s)
unfolding act
act_keeps k given op.If s c = open_keeps k true s (bounded k s c)
act_keeps k given op.NotIf s c = open_keeps k false s (bounded k s c)
act_keeps k given op.Else s c = branches_keep k turned s (bounded k s c)
act_keeps k given op.EndIf s c = branches_keep k closed s (bounded k s c)
act_keeps k given op.Verify s c = main_keeps k verify s (bounded k s c)
act_keeps k given op.ToAltStack s c = both_keeps k to_alt_stack s (bounded k s c)
act_keeps k given op.FromAltStack s c = both_keeps k from_alt_stack s (bounded k s c)
act_keeps k given op.IfDup s c = main_keeps k if_dup s (bounded k s c)
act_keeps k given op.Dup s c = main_keeps k dup s (bounded k s c)
act_keeps k given op.Swap s c = main_keeps k swap s (bounded k s c)
act_keeps k given op.Size s c = main_keeps k size s (bounded k s c)
act_keeps k given op.Equal s c = main_keeps k equal s (bounded k s c)
act_keeps k given op.EqualVerify s c = verify_keeps k (on_main equal s) (main_keeps k equal s (bounded k s c))
act_keeps k given op.ZeroNotEqual s c = main_keeps k zero_not_equal s (bounded k s c)
act_keeps k given op.Add s c = main_keeps k add s (bounded k s c)
act_keeps k given op.BoolAnd s c = main_keeps k bool_and s (bounded k s c)
act_keeps k given op.BoolOr s c = main_keeps k bool_or s (bounded k s c)
act_keeps k given op.Ripemd160 s c = main_keeps k (hash kind.Ripemd160) s (bounded k s c)
act_keeps k given op.Sha256 s c = main_keeps k (hash kind.Sha256) s (bounded k s c)
act_keeps k given op.Hash160 s c = main_keeps k (hash kind.Hash160) s (bounded k s c)
act_keeps k given op.Hash256 s c = main_keeps k (hash kind.Hash256) s (bounded k s c)
act_keeps k given op.CheckSig s c = sig_keeps k given.checker s c
act_keeps k given op.CheckSigVerify s c = verify_keeps k (on_checks (check_sig given.checker) s) (sig_keeps k given.checker s c)
act_keeps k given op.CheckMultiSig s c = multi_keeps k given.checker s c
act_keeps k given op.CheckMultiSigVerify s c = verify_keeps k (on_multi (check_multi_sig given.checker) s) (multi_keeps k given.checker s c)
act_keeps k given op.CheckLockTimeVerify s c = main_keeps k (lock (λ n. after_holds n given.locks)) s (bounded k s c)
act_keeps k given op.CheckSequenceVerify s c = main_keeps k (lock (λ n. older_holds n given.locks)) s (bounded k s c)

count_keeps : (k : ℕ) (s : State) → Bounded k s → Keeps (Counted k) (count_op s)
count_keeps k s b =
    bind_keeps (λ total. (total ≡ s.ops + 1) × (total ≤ 201)) (Counted k) (within_op_limit (s.ops + 1)) _ (counted_keeps (s.ops + 1))
    (λ total sum. let is = sum.0 in let checks = b.checks in record { checks = omega arith; ops = sum.1; peak = b.peak })

only_if_keeps : (k : ℕ) (b : Bool) (f : State → OrFault State) (s : State) → Bounded k s → Keeps (Bounded k) (f s) → Keeps (Bounded k) (only_if b f s)
only_if_keeps k true f s at after = after
only_if_keeps k false f s at after = at

pushed_keeps : (k : ℕ) (bytes : Bytes) (minimal : Bool) (s : State) → Bounded k s → Keeps (Bounded k) (pushed bytes minimal s)
unfolding pushed
pushed_keeps k bytes true s b = record { checks = b.checks; ops = b.ops; peak = b.peak }
pushed_keeps k bytes false s b = tt

carry_keeps : (k : ℕ) (given : Given) (item : Item) (s : State) → Bounded k s → Keeps (Bounded k) (carry_out given item s)
unfolding carry_out
carry_keeps k given (item.fault e) s b = tt
carry_keeps k given (item.push bytes minimal) s b =
    if_keeps (Bounded k) (nat_lt 520 (length bytes)) _ _ tt (only_if_keeps k (is_live s) (pushed bytes minimal) s b (pushed_keeps k bytes minimal s b))
carry_keeps k given (item.code op) s b =
    bind_keeps (Counted k) (Bounded k) (count_op s) _ (count_keeps k s b) (λ t c. only_if_keeps k (is_branching op || is_live t) (act given op) t (bounded k t c) (act_keeps k given op t c))

settle_keeps : (k : ℕ) (s : State) → Bounded k s → Keeps (Bounded k) (settle s)
unfolding settle
settle_keeps k s b =
    elim (cases_Bool (nat_lt 1000 (height s))) [
      | inl high ↦ rw high tt
      | inr low ↦
          let fits : height s ≤ 1000 = ltb-false _ _ low in
          let peak = b.peak in
          let greatest : max s.peak (height s) ≤ max 1000 k = omega arith in
          rw low (record { checks = b.checks; ops = b.ops; peak = greatest })
    ]

step_keeps : (k : ℕ) (given : Given) (item : Item) (s : State) → Bounded k s → Keeps (Bounded k) (step given item s)
unfolding step
step_keeps k given item s b = bind_keeps (Bounded k) (Bounded k) (carry_out given item s) settle (carry_keeps k given item s b) (λ t c. settle_keeps k t c)

-- an outcome that is small
abbrev Small : ℕ → Outcome → Type 0
Small k (accepted ops peak checks) = (length checks ≤ ops) × (ops ≤ 201) × (peak ≤ max 1000 k)
Small k (refused e place) = Unit {0}

leads_small : (k : ℕ) (r : OrFault State) (place : ℕ) (next : State → Outcome) → Keeps (Bounded k) r → ((s : State) → Bounded k s → Small k (next s)) → Small k (leads r place next)
leads_small k (Ok s) place next b h = h s b
leads_small k (Err e) place next b h = tt

finish_keeps : (k : ℕ) (s : State) → Bounded k s → Keeps (Bounded k) (finish s)
unfolding finish
finish_keeps k s b =
    bind_keeps (λ none. Unit {0}) (Bounded k) (balanced s.branches) _ (always (balanced s.branches))
    (λ none u. bind_keeps (λ one. Unit {0}) (Bounded k) (is_clean s.main) _ (always (is_clean s.main)) (λ one v. b))

steps_small : (k : ℕ) (given : Given) (items : List Item) (place : ℕ) (s : State) → Bounded k s → Small k (steps given items place s ended)
unfolding steps
steps_small k given [] place s b = leads_small k (finish s) place _ (finish_keeps k s b) (λ t c. (c.checks, c.ops, c.peak))
steps_small k given (item ∷ items) place s b = leads_small k (step given item s) place _ (step_keeps k given item s b) (λ t c. steps_small k given items (place + 1) t c)

start_keeps : (script : Bytes) (main : Stack) → Keeps (Bounded (length main)) (start script main)
unfolding start
start_keeps script main =
    let k = length main in
    let none : 0 ≤ 201 = omega arith in
    let peak : length main ≤ max 1000 (length main) = omega arith in
    if_keeps (Bounded k) (nat_lt 10000 (length script)) _ _ tt
    (if_keeps (Bounded k) (list_all (λ x. nat_le (length x) 520) main) _ _ (record { checks = omega arith; ops = none; peak = peak }) tt)

run_small : (given : Given) (script : Bytes) (stack : List Bytes) → Small (length (reverse stack)) (run given script stack)
unfolding run
run_small given script stack =
    leads_small (length (reverse stack)) (start script (reverse stack)) 0 _ (start_keeps script (reverse stack)) (λ s b. steps_small (length (reverse stack)) given (items script) 0 s b)

-- so is its report
pub report-small : (given : Given) (script : Bytes) (stack : List Bytes) (result : Result RunReport RunStop) → Answers result (run given script stack)
    → IfOk result (IsSmallReport (length stack))
report-small given script stack (Ok report) answers =
    let k : length (reverse stack) ≡ length stack = length-reverse stack in
    let P : Outcome → Type 0 = λ o. Small (length stack) o in
    subst P answers (rw k at (run_small given script stack))
report-small given script stack (Err stop) answers = tt
