-- What each effect on the main stack takes from it and puts on it.
use Rattle.std.proofs.Common.{◌≡◌, ℕ, ℤ, suc, ◌+◌, ◌-◌, ◌==◌, not, nat_lt, Bool, true, false, [], ◌∷◌, ◌++◌, length, take, drop, Result, Ok, Err, arith, refl, sym, ◌∙◌, ap, if◌then◌else◌}
use Rattle.std.proofs.lemmas.List.{append_assoc, append-nil, take-append-drop}
use Rattle.def_script.specs.Bytes.{Bytes}
use Rattle.def_script.specs.Decode.{truth}
use Rattle.def_script.specs.Key.{is_key}
use Rattle.def_hash.specs.declared.HashKind.{HashKind}
use Rattle.def_script.specs.Limits.{MAX_NUMBER_SIZE, MAX_LOCK_SIZE, MAX_PUBKEYS_PER_MULTISIG}
use Rattle.def_machine.specs.declared.ScriptFault.{ScriptFault}
use Rattle.def_machine.specs.declared.ScriptFault.TheVariants as fault
use Rattle.def_machine.specs.Faults.{◌>>=◌}
use Rattle.def_machine.specs.Stacks.{Stack, Pairs, Checker, is_empty}
use Rattle.def_machine.specs.Effects.{verify, condition, to_alt_stack, from_alt_stack, if_dup, dup, swap, size, equal, operand, one_number, two_numbers, zero_not_equal, add, bool_and, bool_or, hash, check_sig, non_negative, lock}
use Rattle.def_machine.specs.MultiSig.{within, count, some_off, one_off, within_op_limit, tries, verdict, null_dummy, check_multi_sig}
use Rattle.def_trace.proofs.Told.{Trades}

-- ---- what is Ok

-- what is Ok behind a first part was Ok there
pub record Bound (A B : Type 0) (r : Result A ScriptFault) (f : A → Result B ScriptFault) (b : B) : Type 0 where
  pub first : A
  pub is : r ≡ Ok first
  pub next : f first ≡ Ok b

pub bound : {A B : Type 0} (r : Result A ScriptFault) (f : A → Result B ScriptFault) (b : B) → (r >>= f) ≡ Ok b → Bound A B r f b
bound (Ok a) f b is = record { first = a; is = refl; next = is }
bound (Err e) f b is = absurd cc

abbrev pub fine : {A : Type 0} → A → Result A ScriptFault
fine a = Ok a

pub ok_is : {A : Type 0} (a b : A) → fine a ≡ Ok b → a ≡ b
ok_is a b is = cc

-- no fault came of a test
pub unless : {A : Type 0} (test : Bool) (e : ScriptFault) (r : Result A ScriptFault) (b : A) → (if test then Err e else r) ≡ Ok b → r ≡ Ok b
unless true e r b is = absurd cc
unless false e r b is = is

pub provided : {A : Type 0} (test : Bool) (e : ScriptFault) (r : Result A ScriptFault) (b : A) → (if test then r else Err e) ≡ Ok b → r ≡ Ok b
provided true e r b is = is
provided false e r b is = absurd cc

-- ---- trades

-- elements left, and none was put there
pub takes : (before after : Stack) (gone : Stack) → before ≡ gone ++ after → Trades 0 before after
takes before after gone was = record { up = []; gone = gone; rest = after; now = refl; was = was; put = refl }

-- elements left, and one was put there
pub gives_one : (before after : Stack) (x : Bytes) (gone rest : Stack) → after ≡ x ∷ rest → before ≡ gone ++ rest → Trades 1 before after
gives_one before after x gone rest now was = record { up = x ∷ []; gone = gone; rest = rest; now = now; was = was; put = refl }

verify_takes : (s t : Stack) → verify s ≡ Ok t → (x : Bytes) × (s ≡ x ∷ t)
unfolding verify
verify_takes [] t is = absurd cc
verify_takes (x ∷ s) t is = (x, ap (λ (rest : Stack). x ∷ rest) (ok_is s t (provided (truth x) fault.Verify (Ok s) t is)))

pub verify_trades : (s t : Stack) → verify s ≡ Ok t → Trades 0 s t
verify_trades s t is = let h = verify_takes s t is in takes s t (h.0 ∷ []) h.1

-- VERIFY behind an effect that puts one takes that one
pub verified_trades : (s m t : Stack) → Trades 1 s m → verify m ≡ Ok t → Trades 0 s t
verified_trades s m t h is = by_parts s m t h.up h.gone h.rest h.now h.was h.put is where
  by_parts : (s m t : Stack) (up gone rest : Stack) → m ≡ up ++ rest → s ≡ gone ++ rest → length up ≡ 1 → verify m ≡ Ok t → Trades 0 s t
  by_parts s m t [] gone rest now was put is = absurd cc
  by_parts s m t (x ∷ []) gone rest now was put is =
      let v = verify_takes m t is in
      let same : t ≡ rest = cc (v.1, now) in
      takes s t gone (was ∙ ap (λ (xs : Stack). gone ++ xs) (sym same))
  by_parts s m t (x ∷ y ∷ up) gone rest now was put is = absurd (omega arith)

pub condition_takes : (s : Stack) (top : Bool × Stack) → condition s ≡ Ok top → (x : Bytes) × (s ≡ x ∷ top.1)
unfolding condition
condition_takes [] top is = absurd cc
condition_takes ([] ∷ s) top is = ([], cc)
condition_takes ((b ∷ []) ∷ s) top is = (b ∷ [], let same = provided (b == 1) fault.MinimalIf (Ok (true, s)) top is in cc)
condition_takes ((b ∷ c ∷ bytes) ∷ s) top is = absurd cc

pub to_alt_moves : (s alt : Stack) (t : Stack × Stack) → to_alt_stack s alt ≡ Ok t → (x : Bytes) × (s ≡ x ∷ t.0) × (t.1 ≡ x ∷ alt)
unfolding to_alt_stack
to_alt_moves [] alt t is = absurd cc
to_alt_moves (x ∷ s) alt t is = (x, cc, cc)

pub from_alt_moves : (s alt : Stack) (t : Stack × Stack) → from_alt_stack s alt ≡ Ok t → (x : Bytes) × (t.0 ≡ x ∷ s) × (alt ≡ x ∷ t.1)
unfolding from_alt_stack
from_alt_moves s [] t is = absurd cc
from_alt_moves s (x ∷ alt) t is = (x, cc, cc)

pub if_dup_trades : (s t : Stack) → if_dup s ≡ Ok t → Trades (length t - length s) s t
unfolding if_dup
if_dup_trades [] t is = absurd cc
if_dup_trades (x ∷ s) t is = by_truth (truth x) x s t is where
  by_truth : (b : Bool) (x : Bytes) (s t : Stack) → (if b then fine (x ∷ x ∷ s) else fine (x ∷ s)) ≡ fine t → Trades (length t - length (x ∷ s)) (x ∷ s) t
  by_truth true x s t is =
      let now : t ≡ x ∷ x ∷ s = sym (ok_is (x ∷ x ∷ s) t is) in
      let long : length t ≡ suc (suc (length s)) = ap (λ (xs : Stack). length xs) now in
      record { up = x ∷ []; gone = []; rest = x ∷ s; now = now; was = refl; put = omega (arith, long) }
  by_truth false x s t is =
      let now : t ≡ x ∷ s = sym (ok_is (x ∷ s) t is) in
      let long : length t ≡ suc (length s) = ap (λ (xs : Stack). length xs) now in
      record { up = []; gone = []; rest = x ∷ s; now = now; was = refl; put = omega (arith, long) }

pub dup_trades : (s t : Stack) → dup s ≡ Ok t → Trades 1 s t
unfolding dup
dup_trades [] t is = absurd cc
dup_trades (x ∷ s) t is = gives_one (x ∷ s) t x [] (x ∷ s) (sym (ok_is (x ∷ x ∷ s) t is)) refl

pub swap_trades : (s t : Stack) → swap s ≡ Ok t → Trades 2 s t
unfolding swap
swap_trades [] t is = absurd cc
swap_trades (y ∷ []) t is = absurd cc
swap_trades (y ∷ x ∷ s) t is =
    record { up = x ∷ y ∷ []; gone = y ∷ x ∷ []; rest = s; now = sym (ok_is (x ∷ y ∷ s) t is); was = refl; put = refl }

pub size_trades : (s t : Stack) → size s ≡ Ok t → Trades 1 s t
unfolding size
size_trades [] t is = absurd cc
size_trades (x ∷ s) t is = gives_one (x ∷ s) t _ [] (x ∷ s) (sym (ok_is _ t is)) refl

pub equal_trades : (s t : Stack) → equal s ≡ Ok t → Trades 1 s t
unfolding equal
equal_trades [] t is = absurd cc
equal_trades (y ∷ []) t is = absurd cc
equal_trades (y ∷ x ∷ s) t is = gives_one (y ∷ x ∷ s) t _ (y ∷ x ∷ []) s (sym (ok_is _ t is)) refl

pub hash_trades : (kind : HashKind) (s t : Stack) → hash kind s ≡ Ok t → Trades 1 s t
unfolding hash
hash_trades kind [] t is = absurd cc
hash_trades kind (x ∷ s) t is = gives_one (x ∷ s) t _ (x ∷ []) s (sym (ok_is _ t is)) refl

one_number_takes : (s : Stack) (taken : ℤ × Stack) → one_number s ≡ Ok taken → (x : Bytes) × (s ≡ x ∷ taken.1)
unfolding one_number
one_number_takes [] taken is = absurd cc
one_number_takes (x ∷ s) taken is = let h = bound (operand MAX_NUMBER_SIZE x) (λ a. Ok (a, s)) taken is in (x, cc (h.next))

two_numbers_takes : (s : Stack) (taken : ℤ × ℤ × Stack) → two_numbers s ≡ Ok taken → (y x : Bytes) × (s ≡ y ∷ x ∷ taken.2)
unfolding two_numbers
two_numbers_takes [] taken is = absurd cc
two_numbers_takes (y ∷ []) taken is = absurd cc
two_numbers_takes (y ∷ x ∷ s) taken is =
    let b = bound (operand MAX_NUMBER_SIZE y) (λ b. operand MAX_NUMBER_SIZE x >>= (λ a. Ok (a, b, s))) taken is in
    let a = bound (operand MAX_NUMBER_SIZE x) (λ a. Ok (a, b.first, s)) taken b.next in
    (y, x, cc (a.next))

-- an effect on one number, and on two
number_trades : (put : ℤ → Bytes) (s t : Stack) → (one_number s >>= (λ taken. fine (put taken.0 ∷ taken.1))) ≡ fine t → Trades 1 s t
number_trades put s t is =
    let h = bound (one_number s) (λ taken. Ok (put taken.0 ∷ taken.1)) t is in
    let was = one_number_takes s h.first h.is in
    gives_one s t (put h.first.0) (was.0 ∷ []) h.first.1 (sym (ok_is _ t h.next)) was.1

numbers_trades : (put : ℤ → ℤ → Bytes) (s t : Stack) → (two_numbers s >>= (λ taken. fine (put taken.0 taken.1 ∷ taken.2))) ≡ fine t → Trades 1 s t
numbers_trades put s t is =
    let h = bound (two_numbers s) (λ taken. Ok (put taken.0 taken.1 ∷ taken.2)) t is in
    let was = two_numbers_takes s h.first h.is in
    gives_one s t (put h.first.0 h.first.1) (was.0 ∷ was.1 ∷ []) h.first.2 (sym (ok_is _ t h.next)) was.2

pub zero_not_equal_trades : (s t : Stack) → zero_not_equal s ≡ Ok t → Trades 1 s t
unfolding zero_not_equal
zero_not_equal_trades s t is = number_trades _ s t is

pub add_trades : (s t : Stack) → add s ≡ Ok t → Trades 1 s t
unfolding add
add_trades s t is = numbers_trades _ s t is

pub bool_and_trades : (s t : Stack) → bool_and s ≡ Ok t → Trades 1 s t
unfolding bool_and
bool_and_trades s t is = numbers_trades _ s t is

pub bool_or_trades : (s t : Stack) → bool_or s ≡ Ok t → Trades 1 s t
unfolding bool_or
bool_or_trades s t is = numbers_trades _ s t is

pub lock_trades : (holds : ℕ → Bool) (s t : Stack) → lock holds s ≡ Ok t → Trades 0 s t
unfolding lock
lock_trades holds [] t is = absurd cc
lock_trades holds (x ∷ s) t is =
    let z = bound (operand MAX_LOCK_SIZE x) _ t is in
    let n = bound (non_negative z.first) _ t z.next in
    takes (x ∷ s) t [] (ok_is (x ∷ s) t (provided (holds n.first) fault.UnmetLock (Ok (x ∷ s)) t n.next))

-- ---- signatures

-- the stack is traded for one element, and pairs may have been found good
pub record Checks (s : Stack) (checks : Pairs) (t : Stack) (now : Pairs) : Type 0 where
  pub main : Trades 1 s t
  pub found : Pairs
  pub more : now ≡ checks ++ found

pub check_sig_checks : (checker : Checker) (s : Stack) (checks : Pairs) (left : Stack × Pairs) → check_sig checker s checks ≡ Ok left
    → Checks s checks left.0 left.1
unfolding check_sig
check_sig_checks checker [] checks left is = absurd cc
check_sig_checks checker (key ∷ []) checks left is = absurd cc
check_sig_checks checker (key ∷ sig ∷ s) checks left is =
    by_tests (is_empty sig) (checker key sig) key sig s checks left (unless (not (is_key key)) fault.KeyForm _ left is) where
      by_tests : (none good : Bool) (key sig : Bytes) (s : Stack) (checks : Pairs) (left : Stack × Pairs)
          → (if none then fine ([] ∷ s, checks) else if good then fine ((0x01 ∷ []) ∷ s, checks ++ (key, sig) ∷ []) else Err fault.NullFail) ≡ fine left
          → Checks (key ∷ sig ∷ s) checks left.0 left.1
      by_tests true good key sig s checks left is =
          let same = ok_is ([] ∷ s, checks) left is in
          record {
            main = gives_one (key ∷ sig ∷ s) left.0 [] (key ∷ sig ∷ []) s (sym (ap (λ (l : Stack × Pairs). l.0) same)) refl;
            found = [];
            more = sym (ap (λ (l : Stack × Pairs). l.1) same) ∙ sym (append-nil checks);
          }
      by_tests false true key sig s checks left is =
          let same = ok_is ((0x01 ∷ []) ∷ s, checks ++ (key, sig) ∷ []) left is in
          record {
            main = gives_one (key ∷ sig ∷ s) left.0 (0x01 ∷ []) (key ∷ sig ∷ []) s (sym (ap (λ (l : Stack × Pairs). l.0) same)) refl;
            found = (key, sig) ∷ [];
            more = sym (ap (λ (l : Stack × Pairs). l.1) same);
          }
      by_tests false false key sig s checks left is = absurd cc

-- what is left of a stack once elements left its top
abbrev pub Below : (below whole : Stack) → Type 0
Below below whole = (gone : Stack) × (whole ≡ gone ++ below)

below_below : (a b c : Stack) → Below a b → Below b c → Below a c
below_below a b c h k = (k.0 ++ h.0, k.1 ∙ ap (λ (xs : Stack). k.0 ++ xs) h.1 ∙ sym (append_assoc k.0 h.0 a))

count_below : (most : ℕ) (e : ScriptFault) (s : Stack) (taken : ℕ × Stack) → count most e s ≡ Ok taken → Below taken.1 s
unfolding count
count_below most e s taken is =
    let number = bound (one_number s) _ taken is in
    let n = bound (within most e number.first.0) _ taken number.next in
    let was = one_number_takes s number.first number.is in
    let same : number.first.1 ≡ taken.1 = ap (λ (t : ℕ × Stack). t.1) (ok_is (n.first, number.first.1) taken n.next) in
    (was.0 ∷ [], was.1 ∙ ap (λ (rest : Stack). was.0 ∷ rest) same)

some_below : (n : ℕ) (s : Stack) (parts : Stack × Stack) → some_off n s ≡ Ok parts → Below parts.1 s
unfolding some_off
some_below n s parts is =
    let same : drop n s ≡ parts.1 =
    ap (λ (p : Stack × Stack). p.1) (ok_is (take n s, drop n s) parts (unless (nat_lt (length s) n) fault.StackUnderflow (Ok (take n s, drop n s)) parts is))
    in
    (take n s, sym (take-append-drop n s) ∙ ap (λ (rest : Stack). take n s ++ rest) same)

one_below : (s : Stack) (taken : Bytes × Stack) → one_off s ≡ Ok taken → Below taken.1 s
unfolding one_off
one_below [] taken is = absurd cc
one_below (x ∷ s) taken is = (x ∷ [], ap (λ (rest : Stack). x ∷ rest) (ap (λ (t : Bytes × Stack). t.1) (ok_is (x, s) taken is)))

pub check_multi_sig_checks : (checker : Checker) (s : Stack) (ops : ℕ) (checks : Pairs) (left : Stack × ℕ × Pairs)
    → check_multi_sig checker s ops checks ≡ Ok left → Checks s checks left.0 left.2
unfolding check_multi_sig
check_multi_sig_checks checker s ops checks left is =
    let n = bound (count MAX_PUBKEYS_PER_MULTISIG fault.KeyCount s) _ left is in
    let total = bound (within_op_limit (ops + n.first.0)) _ left n.next in
    let keys = bound (some_off n.first.0 n.first.1) _ left total.next in
    let m = bound (count n.first.0 fault.SigCount keys.first.1) _ left keys.next in
    let sigs = bound (some_off m.first.0 m.first.1) _ left m.next in
    let extra = bound (one_off sigs.first.1) _ left sigs.next in
    let tried = bound (tries checker keys.first.0 sigs.first.0 []) _ left extra.next in
    let passed = bound (verdict sigs.first.0 tried.first) _ left tried.next in
    let empty = bound (null_dummy extra.first.0) _ left passed.next in
    let under : Below extra.first.1 s =
    below_below extra.first.1 sigs.first.1 s (one_below sigs.first.1 extra.first extra.is)
    (below_below sigs.first.1 m.first.1 s (some_below m.first.0 m.first.1 sigs.first sigs.is)
    (below_below m.first.1 keys.first.1 s (count_below n.first.0 fault.SigCount keys.first.1 m.first m.is)
    (below_below keys.first.1 n.first.1 s (some_below n.first.0 n.first.1 keys.first keys.is)
    (count_below MAX_PUBKEYS_PER_MULTISIG fault.KeyCount s n.first n.is))))
    in
    let same = ok_is _ left empty.next in
    record {
      main = gives_one s left.0 _ under.0 extra.first.1 (sym (ap (λ (l : Stack × ℕ × Pairs). l.0) same)) under.1;
      found = passed.first.1;
      more = sym (ap (λ (l : Stack × ℕ × Pairs). l.2) same);
    }
