-- Bytes in groups of 5 bits: five bytes fill eight of them.
use Rattle.std.proofs.Common.{◌≡◌, ℕ, zero, suc, ◌+◌, ◌-◌, ◌*◌, ◌/◌, ◌%◌, ◌^◌, ◌<◌, List, [], ◌∷◌, ◌++◌, length, take, get_or, map, fold, arith, refl, sym, ap, subst, ◌∙◌, length-append}
use Rattle.std.proofs.Math.Nat.{pow-suc, pow-zero, mul-lt-mul_of_pos_right}
use Rattle.std.proofs.lemmas.Nat.{pow-add}
use Rattle.std.proofs.lemmas.List.{append-nil, append_assoc, map-append, take_more}
use Rattle.std.proofs.lemmas.List.Sums.{fold-append}
use Rattle.def_script.specs.Bytes.{Bytes}
use Rattle.def_address.specs.Digits.{number_in, fixed_digits}
use Rattle.def_address.specs.Bech32.{value_count, spare, in_fives}
use Rattle.def_address.proofs.Digits.{Below, number_below}

-- a fold over a list that is made of another, one place more
pub fold_map_more : (f : ℕ → ℕ → ℕ) (g : ℕ → ℕ) (a : ℕ) (xs : List ℕ) (i : ℕ) → i < length xs
    → fold f a (map g (take (i + 1) xs)) ≡ f (fold f a (map g (take i xs))) (g (get_or xs i 0))
fold_map_more f g a xs i h =
    ap (λ (z : List ℕ). fold f a (map g z)) (take_more xs i 0 h)
    ∙ (ap (fold f a) (map-append g (take i xs) (get_or xs i 0 ∷ []))
    ∙ fold-append f a (map g (take i xs)) (g (get_or xs i 0) ∷ []))

-- so many values, by all but the last one
pub fixed_more : (base count number : ℕ) → 0 < count → fixed_digits base count number ≡ fixed_digits base (count - 1) (number / base) ++ number % base ∷ []
unfolding fixed_digits
fixed_more base zero number h = absurd (omega (arith, h))
fixed_more base (suc count) number h =
    let e : count ≡ suc count - 1 = omega arith in
    ap (λ (z : ℕ). fixed_digits base z (number / base) ++ number % base ∷ []) e

-- ---- two numbers side by side

number_from : (base a : ℕ) (xs : List ℕ) → fold (λ number digit. base * number + digit) a xs ≡ a * base ^ length xs + number_in base xs
number_from base a [] = let one = pow-zero base in omega (arith, ap (λ (z : ℕ). a * z) one)
number_from base a (x ∷ xs) =
    let long = number_from base (base * a + x) xs in
    let short = number_from base (base * 0 + x) xs in
    let power : base ^ suc (length xs) ≡ base ^ length xs * base = pow-suc base (length xs) in
    let product : a * base ^ suc (length xs) ≡ a * (base ^ length xs * base) = ap (λ (z : ℕ). a * z) power in
    omega (arith, long, short, product)

pub number_joined : (base : ℕ) (xs ys : List ℕ) → number_in base (xs ++ ys) ≡ number_in base xs * base ^ length ys + number_in base ys
number_joined base xs ys = fold-append (λ (number digit : ℕ). base * number + digit) 0 xs ys ∙ number_from base (number_in base xs) ys

pub fixed_joined : (j k a b : ℕ) → b < 32 ^ k → fixed_digits 32 (j + k) (a * 32 ^ k + b) ≡ fixed_digits 32 j a ++ fixed_digits 32 k b
unfolding fixed_digits
fixed_joined j zero a b h =
    let one = pow-zero 32 in
    let none : b ≡ 0 = omega (arith, one, h) in
    let same : a * 32 ^ 0 + b ≡ a = omega (arith, ap (λ (z : ℕ). a * z) one, none) in
    let count : j + 0 ≡ j = omega arith in
    ap (λ (z : ℕ). fixed_digits 32 z (a * 32 ^ 0 + b)) count ∙ (ap (fixed_digits 32 j) same ∙ sym (append-nil (fixed_digits 32 j a)))
fixed_joined j (suc k) a b h =
    let power : 32 ^ suc k ≡ 32 ^ k * 32 = pow-suc 32 k in
    let product : a * 32 ^ suc k ≡ a * (32 ^ k * 32) = ap (λ (z : ℕ). a * z) power in
    let n = a * 32 ^ suc k + b in
    let upper : n / 32 ≡ a * 32 ^ k + b / 32 = omega (arith, product) in
    let last : n % 32 ≡ b % 32 = omega (arith, product) in
    let less : b / 32 < 32 ^ k = omega (arith, power, h) in
    let count : j + suc k ≡ suc (j + k) = omega arith in
    ap (λ (z : ℕ). fixed_digits 32 z n) count
    ∙ (ap (λ (z : ℕ). fixed_digits 32 (j + k) z ++ n % 32 ∷ []) upper
    ∙ (ap (λ (z : ℕ). fixed_digits 32 (j + k) (a * 32 ^ k + b / 32) ++ z ∷ []) last
    ∙ (ap (λ (z : List ℕ). z ++ b % 32 ∷ []) (fixed_joined j k a (b / 32) less)
    ∙ append_assoc (fixed_digits 32 j a) (fixed_digits 32 k (b / 32)) (b % 32 ∷ []))))

-- ---- bytes and groups as powers of 2

bytes_power : (n : ℕ) → 256 ^ n ≡ 2 ^ (8 * n)
bytes_power zero = refl
bytes_power (suc n) =
    let places : 8 * suc n ≡ 8 * n + 8 = omega arith in
    pow-suc 256 n ∙ (ap (λ (z : ℕ). z * 256) (bytes_power n) ∙ sym (ap (λ (z : ℕ). 2 ^ z) places ∙ pow-add 2 (8 * n) 8))

fives_power : (n : ℕ) → 32 ^ n ≡ 2 ^ (5 * n)
fives_power zero = refl
fives_power (suc n) =
    let places : 5 * suc n ≡ 5 * n + 5 = omega arith in
    pow-suc 32 n ∙ (ap (λ (z : ℕ). z * 32) (fives_power n) ∙ sym (ap (λ (z : ℕ). 2 ^ z) places ∙ pow-add 2 (5 * n) 5))

-- the bytes and the zeros behind them fill the groups
pub spare_fills : (n : ℕ) → 256 ^ n * spare (value_count n) n ≡ 32 ^ value_count n
spare_fills n =
    let k = value_count n in
    let places : 8 * n + (5 * k - 8 * n) ≡ 5 * k = omega arith in
    ap (λ (z : ℕ). z * spare k n) (bytes_power n) ∙ (sym (pow-add 2 (8 * n) (5 * k - 8 * n)) ∙ (ap (λ (z : ℕ). 2 ^ z) places ∙ sym (fives_power k)))

positive : (i : ℕ) → 0 < 2 ^ i
positive zero = omega arith
positive (suc i) = let more = pow-suc 2 i in omega (arith, more, positive i)

pub spare_some : (values bytes : ℕ) → 0 < spare values bytes
spare_some values bytes = positive (5 * values - 8 * bytes)

pub fives_more : (chunk rest : Bytes) → length chunk ≡ 5 → Below 256 rest → in_fives (chunk ++ rest) ≡ fixed_digits 32 8 (number_in 256 chunk) ++ in_fives rest
fives_more chunk rest five below =
    let n = length rest in
    let k = value_count n in
    let s = spare k n in
    let a = number_in 256 chunk in
    let b = number_in 256 rest in
    let size : length (chunk ++ rest) ≡ 5 + n = omega (arith, length-append chunk rest, five) in
    let count : value_count (5 + n) ≡ 8 + k = omega arith in
    let places : 5 * (8 + k) - 8 * (5 + n) ≡ 5 * k - 8 * n = omega arith in
    let fills = spare_fills n in
    let scaled : a * (256 ^ n * s) ≡ a * 32 ^ k = ap (λ (z : ℕ). a * z) fills in
    let number : number_in 256 (chunk ++ rest) * s ≡ a * 32 ^ k + b * s = ap (λ (z : ℕ). z * s) (number_joined 256 chunk rest) ∙ omega (arith, scaled) in
    let some : 0 < s = spare_some k n in
    let low : b < 256 ^ n = number_below 256 rest below in
    let P : ℕ → Type 0 = λ z. b * s < z in
    let fits : b * s < 32 ^ k = subst P fills (mul-lt-mul_of_pos_right low some) in
    ap (λ (z : ℕ). fixed_digits 32 (value_count z) (number_in 256 (chunk ++ rest) * spare (value_count z) z)) size
    ∙ (ap (λ (z : ℕ). fixed_digits 32 z (number_in 256 (chunk ++ rest) * spare z (5 + n))) count
    ∙ (ap (λ (z : ℕ). fixed_digits 32 (8 + k) (number_in 256 (chunk ++ rest) * 2 ^ z)) places
    ∙ (ap (fixed_digits 32 (8 + k)) number
    ∙ fixed_joined 8 k a (b * s) fits)))
