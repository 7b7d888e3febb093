-- Numbers on the stack, and the values that miniscripts leave there.
use Rattle.std.proofs.Common.{◌≡◌, ℕ, zero, suc, ◌+◌, ◌*◌, ◌^◌, ◌/◌, ◌<◌, ◌≤◌, ◌&&◌, ◌||◌, nat_lt, pos, Bool, true, false, ◌∷◌, length, Ok, refl, ◌∙◌, inl, inr, if◌then◌else◌, arith}
use Rattle.std.proofs.lemmas.Bool.{lt-ltb, le-ltb, cases_Bool}
use Rattle.std.specs.Str.{bytes_eq}
use Rattle.std.proofs.lemmas.Slice.Eq.{bytes_eq-Decides}
use Rattle.def_script.specs.Bytes.{Bytes}
use Rattle.def_script.specs.Numbers.{natural_bytes, signed_bytes}
use Rattle.def_script.specs.Decode.{num_decode, truth, is_nonzero}
use Rattle.def_script.proofs.Decoding.{number_is_read_back, nonzero_is_true}
use Rattle.def_script.specs.Limits.{MAX_NUMBER_SIZE, MAX_LOCK_SIZE}
use Rattle.def_machine.specs.Stacks.{Stack, bool_bytes}
use Rattle.def_machine.specs.Effects.{verify, equal, operand, one_number, two_numbers, zero_not_equal, add, bool_and, bool_or}

-- a number has few bytes
signed_bytes-few : (most room : ℕ) (negative : Bool) (n : ℕ) → n < 128 * 256 ^ room → length (signed_bytes most negative n) ≤ suc room
signed_bytes-few zero room negative n low = omega arith
signed_bytes-few (suc most) zero negative n low =
    let last : nat_lt n 128 ≡ true = lt-ltb _ _ (omega arith) in
    rw last (omega arith)
signed_bytes-few (suc most) (suc room) negative n low =
    let power : 256 ^ suc room ≡ 256 * 256 ^ room = omega arith in
    let rest = signed_bytes-few most room negative (n / 256) (omega arith) in
    elim (cases_Bool (nat_lt n 128)) [
      | inl last ↦ rw last (omega arith)
      | inr more ↦ rw more (omega arith)
    ]

natural_bytes-few : (n : ℕ) → n < 2 ^ 31 → length (natural_bytes n) ≤ 4
natural_bytes-few zero low = omega arith
natural_bytes-few (suc n) low = signed_bytes-few 5 3 false (suc n) (omega arith)

natural_bytes-room : (n : ℕ) → length (natural_bytes n) ≤ 5
natural_bytes-room zero = omega arith
natural_bytes-room (suc n) = go 5 false (suc n)
  where
    go : (most : ℕ) (negative : Bool) (n : ℕ) → length (signed_bytes most negative n) ≤ most
    go zero negative n = omega arith
    go (suc most) negative n =
        let rest = go most negative (n / 256) in
        elim (cases_Bool (nat_lt n 128)) [
          | inl last ↦ rw last (omega arith)
          | inr more ↦ rw more (omega arith)
        ]

-- where a string fits, its bound says nothing of its number
num_decode-bound : (most more : ℕ) (bytes : Bytes) → length bytes ≤ most → length bytes ≤ more → num_decode most bytes ≡ num_decode more bytes
num_decode-bound most more bytes few room =
    let short : nat_lt most (length bytes) ≡ false = le-ltb _ _ few in
    let fits : nat_lt more (length bytes) ≡ false = le-ltb _ _ room in
    rw (short, fits) refl

pub decode_4 : (n : ℕ) → n < 2 ^ 31 → num_decode MAX_NUMBER_SIZE (natural_bytes n) ≡ Ok (pos n)
decode_4 n low =
    num_decode-bound 4 5 (natural_bytes n) (natural_bytes-few n low) (natural_bytes-room n)
    ∙ number_is_read_back (pos n) (omega arith)

pub decode_5 : (n : ℕ) → n < 2 ^ 31 → num_decode MAX_LOCK_SIZE (natural_bytes n) ≡ Ok (pos n)
decode_5 n low = number_is_read_back (pos n) (omega arith)

pub truth-natural : (n : ℕ) → n < 2 ^ 31 → truth (natural_bytes n) ≡ is_nonzero (pos n)
truth-natural n low = nonzero_is_true 5 (natural_bytes n) (pos n) (decode_5 n low)

pub one_number-natural : (n : ℕ) (s : Stack) → n < 2 ^ 31 → one_number (natural_bytes n ∷ s) ≡ Ok (pos n, s)
unfolding one_number operand
one_number-natural n s low = rw (decode_4 n low) refl

pub two_numbers-natural : (a b : ℕ) (s : Stack) → a < 2 ^ 31 → b < 2 ^ 31 → two_numbers (natural_bytes b ∷ natural_bytes a ∷ s) ≡ Ok (pos a, pos b, s)
unfolding two_numbers operand
two_numbers-natural a b s few small = rw (decode_4 b small, decode_4 a few) refl

pub add-natural : (a b : ℕ) (s : Stack) → a < 2 ^ 31 → b < 2 ^ 31 → add (natural_bytes b ∷ natural_bytes a ∷ s) ≡ Ok (natural_bytes (a + b) ∷ s)
unfolding add
add-natural a b s few small = rw (two_numbers-natural a b s few small) refl

pub bool_and-natural : (a b : ℕ) (s : Stack) → a < 2 ^ 31 → b < 2 ^ 31 → bool_and (natural_bytes b ∷ natural_bytes a ∷ s) ≡ Ok (bool_bytes (is_nonzero (pos a) && is_nonzero (pos b)) ∷ s)
unfolding bool_and
bool_and-natural a b s few small = rw (two_numbers-natural a b s few small) refl

pub bool_or-natural : (a b : ℕ) (s : Stack) → a < 2 ^ 31 → b < 2 ^ 31 → bool_or (natural_bytes b ∷ natural_bytes a ∷ s) ≡ Ok (bool_bytes (is_nonzero (pos a) || is_nonzero (pos b)) ∷ s)
unfolding bool_or
bool_or-natural a b s few small = rw (two_numbers-natural a b s few small) refl

pub zero_not_equal-natural : (n : ℕ) (s : Stack) → n < 2 ^ 31 → zero_not_equal (natural_bytes n ∷ s) ≡ Ok (bool_bytes (is_nonzero (pos n)) ∷ s)
unfolding zero_not_equal
zero_not_equal-natural n s low = rw (one_number-natural n s low) refl

pub verify-natural : (n : ℕ) (s : Stack) → n < 2 ^ 31 → is_nonzero (pos n) ≡ true → verify (natural_bytes n ∷ s) ≡ Ok s
unfolding verify
verify-natural n s low some = rw (truth-natural n low ∙ some) refl

-- EQUAL
pub bytes_eq-same : (x : Bytes) → bytes_eq x x ≡ true
bytes_eq-same x = (bytes_eq-Decides x x).1 refl

pub equal-bytes : (x y : Bytes) (s : Stack) → equal (y ∷ x ∷ s) ≡ Ok (bool_bytes (bytes_eq x y) ∷ s)
unfolding equal
equal-bytes x y s = refl

-- the truth values
abbrev pub one_if : Bool → ℕ
one_if b = if b then 1 else 0

pub bool_bytes-natural : (b : Bool) → bool_bytes b ≡ natural_bytes (one_if b)
bool_bytes-natural true = refl
bool_bytes-natural false = refl

-- what a miniscript of type B leaves: a number that is zero exactly where it is dissatisfied, and 1 where it is
-- satisfied and has the property u
pub record Value (u b : Bool) (v : Bytes) : Type 0 where
  pub number : ℕ
  pub is : v ≡ natural_bytes number
  pub small : number < 2 ^ 31
  pub truth : is_nonzero (pos number) ≡ b
  pub unit : u ≡ true → number ≤ 1
