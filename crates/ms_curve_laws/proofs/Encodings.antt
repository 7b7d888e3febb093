-- Numbers and their bytes.
use Rattle.std.proofs.Common.{◌≡◌, ℕ, zero, suc, ◌+◌, ◌*◌, ◌/◌, ◌%◌, ◌^◌, ◌<◌, ◌≤◌, List, [], ◌∷◌, length, fold, refl, ◌∙◌, ap, arith, pow-suc}
use Rattle.std.proofs.Math.Nat.{mul-add-div_right, pow-le-pow_right, mod-eq_of_lt}
use Rattle.std.proofs.Math.Arith.{mod-mul}
use Rattle.std.proofs.lemmas.Nat.{div-mul-add, mul-le}
use Rattle.std.specs.Int.{byte_at, bytes_high_first}
use Rattle.def_script.specs.Bytes.{Bytes, IsBytes}
use Rattle.def_curve.specs.Key.{number_of}

unit_some : (k : ℕ) → 0 < 256 ^ k
unit_some k = pow-le-pow_right {n = 256} (omega arith) {i = 0} {j = k} (omega arith)

wider : (k : ℕ) → 256 ^ suc k ≡ 256 ^ k * 256
wider k = pow-suc 256 k

-- a number that others stand before
pub number_from : (a : ℕ) (xs : Bytes) → fold (λ (v : ℕ) (d : ℕ). 256 * v + d) a xs ≡ a * 256 ^ length xs + number_of xs
number_from a [] = omega arith
number_from a (x ∷ xs) =
    let whole = number_from (256 * a + x) xs in
    let itself : 0 + x ≡ x = omega arith in
    let rest : number_of (x ∷ xs) ≡ x * 256 ^ length xs + number_of xs = ap (λ z. fold (λ (v : ℕ) (d : ℕ). 256 * v + d) z xs) itself ∙ number_from x xs in
    let unit : ℕ = 256 ^ length xs in
    let power : a * 256 ^ suc (length xs) ≡ a * (unit * 256) = ap (λ z. a * z) (wider (length xs)) in
    whole ∙ (omega (arith, rest, power))

pub number_more : (x : ℕ) (xs : Bytes) → number_of (x ∷ xs) ≡ x * 256 ^ length xs + number_of xs
number_more x xs = let itself : 0 + x ≡ x = omega arith in ap (λ z. fold (λ (v : ℕ) (d : ℕ). 256 * v + d) z xs) itself ∙ number_from x xs

-- bytes of a number as its number again
byte_on : (k n high : ℕ) → (256 * high + byte_at k n) * 256 ^ k + n % 256 ^ k ≡ high * 256 ^ suc k + n % 256 ^ suc k
byte_on zero n high = omega arith
byte_on (suc k) n high =
    let unit : ℕ = 256 ^ suc k in
    let larger : 256 ^ suc (suc k) ≡ unit * 256 = wider (suc k) in
    let turned : unit * 256 ≡ 256 * unit = omega arith in
    rw (larger ∙ turned, mod-mul n {m = 256} {c = unit} (omega arith) (unit_some (suc k))) (omega arith)

bytes_read : (k n high : ℕ) → fold (λ (v : ℕ) (d : ℕ). 256 * v + d) high (bytes_high_first k n) ≡ high * 256 ^ k + n % 256 ^ k
bytes_read zero n high = omega arith
bytes_read (suc k) n high = bytes_read k n (256 * high + byte_at k n) ∙ byte_on k n high

pub number_of_bytes : (k n : ℕ) → n < 256 ^ k → number_of (bytes_high_first k n) ≡ n
number_of_bytes k n below = bytes_read k n 0 ∙ (small k n below)
  where
    small : (k n : ℕ) → n < 256 ^ k → 0 * 256 ^ k + n % 256 ^ k ≡ n
    small k n below = omega (arith, mod-eq_of_lt below)

pub long_bytes : (k n : ℕ) → length (bytes_high_first k n) ≡ k
long_bytes zero n = refl
long_bytes (suc k) n = ap suc (long_bytes k n)

-- the number of so many bytes is below
pub number_below : (xs : Bytes) → IsBytes xs → number_of xs < 256 ^ length xs
number_below [] bytes = omega arith
number_below (x ∷ xs) bytes =
    let unit : ℕ = 256 ^ length xs in
    let power : 256 ^ suc (length xs) ≡ unit * 256 = wider (length xs) in
    let low : x < 256 = bytes 0 in
    let rest : number_of xs < unit = number_below xs (λ i. bytes (suc i)) in
    let most : (x + 1) * unit ≤ 256 * unit = mul-le (x + 1) unit 256 unit (omega arith) (omega arith) in
    omega (arith, number_more x xs, power, rest, most)

-- what stands over so many bytes isn't in them
byte_at_more : (k h n : ℕ) → byte_at k (h * 256 ^ suc k + n) ≡ byte_at k n
byte_at_more zero h n = omega arith
byte_at_more (suc k) h n =
    let unit : ℕ = 256 ^ suc k in
    let places : h * 256 ^ suc (suc k) ≡ h * 256 * unit = ap (λ z. h * z) (wider (suc k)) ∙ (omega arith) in
    let over : (h * 256 * unit + n) / unit ≡ h * 256 + n / unit = mul-add-div_right {m = unit} (unit_some (suc k)) (h * 256) n in
    ap (λ z. (z + n) / unit % 256) places ∙ ap (λ z. z % 256) over ∙ (omega arith)

low_only : (k h n : ℕ) → bytes_high_first k (h * 256 ^ k + n) ≡ bytes_high_first k n
low_only zero h n = refl
low_only (suc k) h n =
    let places : h * 256 ^ suc k ≡ h * 256 * 256 ^ k = ap (λ z. h * z) (wider k) ∙ (turned h (256 ^ k)) in
    ap (λ z. z ∷ bytes_high_first k (h * 256 ^ suc k + n)) (byte_at_more k h n)
    ∙ ap (λ (z : List ℕ). byte_at k n ∷ z) (ap (λ z. bytes_high_first k (z + n)) places ∙ low_only k (h * 256) n)
  where
    turned : (h u : ℕ) → h * (u * 256) ≡ h * 256 * u
    turned h u = omega arith

top_byte : (k b r : ℕ) → b < 256 → r < 256 ^ k → byte_at k (b * 256 ^ k + r) ≡ b
top_byte zero b r low below = omega arith
top_byte (suc k) b r low below =
    let over : (b * 256 ^ suc k + r) / 256 ^ suc k ≡ b = div-mul-add b (256 ^ suc k) r below in
    ap (λ z. z % 256) over ∙ (omega arith)

-- the bytes of a number are those that it is the number of
pub bytes_of_number : (xs : Bytes) → IsBytes xs → bytes_high_first (length xs) (number_of xs) ≡ xs
bytes_of_number [] bytes = refl
bytes_of_number (x ∷ xs) bytes =
    let k : ℕ = length xs in
    let rest : number_of xs < 256 ^ k = number_below xs (λ i. bytes (suc i)) in
    let low : x < 256 = bytes 0 in
    ap (λ z. bytes_high_first (suc k) z) (number_more x xs)
    ∙ ap (λ z. z ∷ bytes_high_first k (x * 256 ^ k + number_of xs)) (top_byte k x (number_of xs) low rest)
    ∙ ap (λ (z : List ℕ). x ∷ z) (low_only k x (number_of xs) ∙ bytes_of_number xs (λ i. bytes (suc i)))
