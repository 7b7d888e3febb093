-- How many elements more an opcode leaves on the main stack than it finds.
use Rattle.std.proofs.Common.{◌≡◌, ℕ, suc, ◌+◌, ◌≤◌, nat_lt, Bool, true, false, [], ◌∷◌, length, take, drop, length-drop, ◌==◌, ◌++◌, not, if◌then◌else◌, Ok, Err, ap, ℤ, arith}
use Rattle.def_hash.specs.declared.HashKind.{HashKind}
use Rattle.def_script.specs.Bytes.{Bytes}
use Rattle.def_script.specs.Decode.{truth}
use Rattle.def_machine.specs.declared.ScriptFault.{ScriptFault}
use Rattle.def_machine.specs.declared.ScriptFault.TheVariants as fault
use Rattle.def_machine.specs.Faults.{OrFault, ◌>>=◌}
use Rattle.def_script.specs.Limits.{MAX_PUBKEYS_PER_MULTISIG}
use Rattle.def_machine.specs.Stacks.{Stack, Pairs, Checker, is_empty, bool_bytes}
use Rattle.def_script.specs.Key.{is_key}
use Rattle.def_machine.specs.Effects.{verify, condition, if_dup, dup, swap, size, equal, operand, non_negative, one_number, two_numbers, zero_not_equal, add, bool_and, bool_or, hash, check_sig, lock}
use Rattle.def_machine.specs.MultiSig.{count, within, some_off, one_off, tries, verdict, null_dummy}
use Rattle.ms_acceptance_laws.proofs.StackEffects.{Left}
use Rattle.ms_acceptance_laws.proofs.TreeEffects.{checks_multi_sig}
use Rattle.ms_row_laws.proofs.Outcomes.{sure, same_ok, bind_split}

-- an effect leaves at most so many elements more than it finds
abbrev pub Grows : (Stack → OrFault Stack) → ℕ → Type 0
Grows f n = (main left : Stack) → f main ≡ Ok left → length left ≤ length main + n

is_long : (s left : Stack) (n : ℕ) → length s ≤ n → sure s ≡ Ok left → length left ≤ n
is_long s left n low h = rw (← same_ok s left h) low

-- a test that held
if_held : {A : Type 0} (held : Bool) (x y : A) (e : ScriptFault) → (if held then sure x else Err e) ≡ Ok y → x ≡ y
if_held true x y e h = same_ok x y h
if_held false x y e h = absurd cc

pub verify_grows : Grows verify 0
unfolding verify
verify_grows [] left h = absurd cc
verify_grows (x ∷ s) left h = is_long s left _ (omega arith) (ap Ok (if_held (truth x) s left _ h))

pub if_dup_grows : Grows if_dup 1
unfolding if_dup
if_dup_grows [] left h = absurd cc
if_dup_grows (x ∷ s) left h = go (truth x) h
  where
    go : (good : Bool) → (if good then sure (x ∷ x ∷ s) else Ok (x ∷ s)) ≡ Ok left → length left ≤ suc (length s) + 1
    go true h = is_long (x ∷ x ∷ s) left _ (omega arith) h
    go false h = is_long (x ∷ s) left _ (omega arith) h

pub dup_grows : Grows dup 1
unfolding dup
dup_grows [] left h = absurd cc
dup_grows (x ∷ s) left h = is_long (x ∷ x ∷ s) left _ (omega arith) h

pub swap_grows : Grows swap 0
unfolding swap
swap_grows [] left h = absurd cc
swap_grows (y ∷ []) left h = absurd cc
swap_grows (y ∷ x ∷ s) left h = is_long (x ∷ y ∷ s) left _ (omega arith) h

pub size_grows : Grows size 1
unfolding size
size_grows [] left h = absurd cc
size_grows (x ∷ s) left h = is_long (_ ∷ x ∷ s) left _ (omega arith) h

pub equal_grows : Grows equal 0
unfolding equal
equal_grows [] left h = absurd cc
equal_grows (y ∷ []) left h = absurd cc
equal_grows (y ∷ x ∷ s) left h = is_long (_ ∷ s) left _ (omega arith) h

pub hash_grows : (kind : HashKind) → Grows (hash kind) 0
unfolding hash
hash_grows kind [] left h = absurd cc
hash_grows kind (x ∷ s) left h = is_long (_ ∷ s) left _ (omega arith) h

pub lock_grows : (holds : ℕ → Bool) → Grows (lock holds) 0
unfolding lock
lock_grows holds [] left h = absurd cc
lock_grows holds (x ∷ s) left h =
    let z = bind_split (operand 5 x) _ left h in
    let n = bind_split (non_negative z.0) _ left z.2 in
    is_long (x ∷ s) left _ (omega arith) (ap Ok (if_held (holds n.0) (x ∷ s) left _ n.2))

-- numbers that are taken
one_number_takes : (main : Stack) (taken : ℤ × Stack) → one_number main ≡ Ok taken → length taken.1 + 1 ≡ length main
unfolding one_number
one_number_takes [] taken h = absurd cc
one_number_takes (x ∷ s) taken h =
    let a = bind_split (operand 4 x) _ taken h in
    let e : s ≡ taken.1 = ap (λ (t : ℤ × Stack). t.1) (same_ok (a.0, s) taken a.2) in
    omega (arith, ap length e)

two_numbers_take : (main : Stack) (taken : ℤ × ℤ × Stack) → two_numbers main ≡ Ok taken → length taken.2 + 2 ≡ length main
unfolding two_numbers
two_numbers_take [] taken h = absurd cc
two_numbers_take (y ∷ []) taken h = absurd cc
two_numbers_take (y ∷ x ∷ s) taken h =
    let b = bind_split (operand 4 y) _ taken h in
    let a = bind_split (operand 4 x) _ taken b.2 in
    let e : s ≡ taken.2 = ap (λ (t : ℤ × ℤ × Stack). t.2) (same_ok (a.0, b.0, s) taken a.2) in
    omega (arith, ap length e)

pub zero_not_equal_grows : Grows zero_not_equal 0
unfolding zero_not_equal
zero_not_equal_grows main left h =
    let a = bind_split (one_number main) _ left h in
    is_long (_ ∷ a.0.1) left _ (omega (arith, one_number_takes main a.0 a.1)) a.2

pub add_grows : Grows add 0
unfolding add
add_grows main left h =
    let a = bind_split (two_numbers main) _ left h in
    is_long (_ ∷ a.0.2) left _ (omega (arith, two_numbers_take main a.0 a.1)) a.2

pub bool_and_grows : Grows bool_and 0
unfolding bool_and
bool_and_grows main left h =
    let a = bind_split (two_numbers main) _ left h in
    is_long (_ ∷ a.0.2) left _ (omega (arith, two_numbers_take main a.0 a.1)) a.2

pub bool_or_grows : Grows bool_or 0
unfolding bool_or
bool_or_grows main left h =
    let a = bind_split (two_numbers main) _ left h in
    is_long (_ ∷ a.0.2) left _ (omega (arith, two_numbers_take main a.0 a.1)) a.2

pub condition_takes : (main : Stack) (top : Bool × Stack) → condition main ≡ Ok top → length top.1 ≤ length main
unfolding condition
condition_takes [] top h = absurd cc
condition_takes ([] ∷ s) top h = omega (arith, ap (λ (t : Bool × Stack). length t.1) (same_ok (false, s) top h))
condition_takes ((b ∷ []) ∷ s) top h = omega (arith, ap (λ (t : Bool × Stack). length t.1) (if_held (b == 1) (true, s) top _ h))
condition_takes ((b ∷ c ∷ bytes) ∷ s) top h = absurd cc

pub check_sig_takes : (checker : Checker) (main : Stack) (checks : Pairs) (left : Stack × Pairs) → check_sig checker main checks ≡ Ok left → length left.0 ≤ length main
unfolding check_sig
check_sig_takes checker [] checks left h = absurd cc
check_sig_takes checker (key ∷ []) checks left h = absurd cc
check_sig_takes checker (key ∷ sig ∷ s) checks left h = go (not (is_key key)) (is_empty sig) (checker key sig) h
  where
    is_left : (x : Bytes) (found : Pairs) → sure (x ∷ s, found) ≡ Ok left → length left.0 ≤ suc (suc (length s))
    is_left x found h = omega (arith, ap length (ap (λ (t : Stack × Pairs). t.0) (same_ok (x ∷ s, found) left h)))

    go : (bad empty good : Bool) →
        (if bad then Err fault.KeyForm
        else if empty then sure (bool_bytes false ∷ s, checks)
        else if good then Ok (bool_bytes true ∷ s, checks ++ (key, sig) ∷ [])
        else Err fault.NullFail) ≡ Ok left → length left.0 ≤ suc (suc (length s))
    go true empty good h = absurd cc
    go false true good h = is_left _ _ h
    go false false true h = is_left _ _ h
    go false false false h = absurd cc

count_takes : (most : ℕ) (e : ScriptFault) (main : Stack) (n : ℕ × Stack) → count most e main ≡ Ok n → length n.1 ≤ length main
unfolding count
count_takes most e main n h =
    let a = bind_split (one_number main) _ n h in
    let b = bind_split (within most e a.0.0) _ n a.2 in
    omega (arith, one_number_takes main a.0 a.1, ap length (ap (λ (t : ℕ × Stack). t.1) (same_ok (b.0, a.0.1) n b.2)))

some_off_takes : (n : ℕ) (main : Stack) (parts : Stack × Stack) → some_off n main ≡ Ok parts → length parts.1 ≤ length main
unfolding some_off
some_off_takes n main parts h = go (nat_lt (length main) n) h
  where
    go : (low : Bool) → (if low then Err fault.StackUnderflow else sure (take n main, drop n main)) ≡ Ok parts → length parts.1 ≤ length main
    go true h = absurd cc
    go false h = omega (arith, length-drop n main, ap length (ap (λ (t : Stack × Stack). t.1) (same_ok (take n main, drop n main) parts h)))

one_off_takes : (main : Stack) (taken : Bytes × Stack) → one_off main ≡ Ok taken → length taken.1 + 1 ≡ length main
unfolding one_off
one_off_takes [] taken h = absurd cc
one_off_takes (x ∷ s) taken h = omega (arith, ap length (ap (λ (t : Bytes × Stack). t.1) (same_ok (x, s) taken h)))

after_sigs : (checker : Checker) (keys sigs : Stack) (n : ℕ) (extra : Bytes × Stack) (left : Left) →
    (tries checker keys sigs [] >>= λ tried. verdict sigs tried >>= λ passed. null_dummy extra.0 >>= λ empty.
    Ok (record { main = bool_bytes passed.0 ∷ extra.1; log = record { keys = n; checks = passed.1 } })) ≡ Ok left →
    length left.main ≡ length extra.1 + 1
after_sigs checker keys sigs n extra left h =
    let tried = bind_split (tries checker keys sigs []) _ left h in
    let passed = bind_split (verdict sigs tried.0) _ left tried.2 in
    let empty = bind_split (null_dummy extra.0) _ left passed.2 in
    let same = same_ok (record { main = bool_bytes passed.0.0 ∷ extra.1; log = record { keys = n; checks = passed.0.1 } }) left empty.2 in
    omega (arith, ap (λ (l : Left). length l.main) same)

pub checks_multi_sig_takes : (checker : Checker) (main : Stack) (left : Left) → checks_multi_sig checker main ≡ Ok left → length left.main ≤ length main
unfolding checks_multi_sig
checks_multi_sig_takes checker main left h =
    let n = bind_split (count MAX_PUBKEYS_PER_MULTISIG fault.KeyCount main) _ left h in
    let keys = bind_split (some_off n.0.0 n.0.1) _ left n.2 in
    let m = bind_split (count n.0.0 fault.SigCount keys.0.1) _ left keys.2 in
    let sigs = bind_split (some_off m.0.0 m.0.1) _ left m.2 in
    let extra = bind_split (one_off sigs.0.1) _ left sigs.2 in
    omega (
      arith,
      count_takes MAX_PUBKEYS_PER_MULTISIG fault.KeyCount main n.0 n.1,
      some_off_takes n.0.0 n.0.1 keys.0 keys.1,
      count_takes n.0.0 fault.SigCount keys.0.1 m.0 m.1,
      some_off_takes m.0.0 m.0.1 sigs.0 sigs.1,
      one_off_takes sigs.0.1 extra.0 extra.1,
      after_sigs checker keys.0.0 sigs.0.0 n.0.0 extra.0 left extra.2,
    )
