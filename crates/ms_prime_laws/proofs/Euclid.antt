-- What primes divide.
use Rattle.std.proofs.Common.{◌≡◌, ℕ, zero, suc, ◌+◌, ◌-◌, ◌*◌, ◌/◌, ◌%◌, ◌<◌, ◌≤◌, refl, sym, ◌∙◌, ap, subst, inl, inr, arith}
use Rattle.std.proofs.lemmas.Bool.{cases_lt}
use Rattle.std.proofs.lemmas.Nat.{mul-mod_first, div-add-mod', mod_below}
use Rattle.std.proofs.Math.Nat.{mod-eq_of_lt}
use Rattle.ms_prime_laws.specs.Prime.{IsPrime}
use Rattle.ms_prime_laws.proofs.Congruence.{Same, at, by, back, ◌⨟◌, times, plus, less, of_mod, multiple}

-- what holds of a number and of a multiple more holds of the rest
down : (P : ℕ → Type 0) → ((a b : ℕ) → P (a + b) → P b → P a) → (m k r : ℕ) → P (m * k + r) → P k → P r
down P step zero k r whole pk = let e : zero * k + r ≡ r = omega arith in subst P e whole
down P step (suc m) k r whole pk =
    let e : suc m * k + r ≡ (m * k + r) + k = omega arith in
    down P step m k r (step (m * k + r) k (subst P e whole) pk) pk

-- the same of a remainder
pub down_to_rest : (P : ℕ → Type 0) → ((a b : ℕ) → P (a + b) → P b → P a) → (n k : ℕ) → P n → P k → P (n % k)
down_to_rest P step n k pn pk = down P step (n / k) k (n % k) (subst P (sym (div-add-mod' n k)) pn) pk

-- a prime leaves a rest by each smaller number over 1
rest_of_prime : (q k : ℕ) → IsPrime q → 1 < k → k < q → 0 < q % k
rest_of_prime q k prime big below =
    elim (cases_lt 0 (q % k)) [
      | inl pos ↦ pos
      | inr none ↦
          let exact : q / k * k ≡ q = omega (arith, div-add-mod' q k) in
          elim (prime.only (q / k) k exact) [
            | inl one ↦ let e : q / k * k ≡ 1 * k = ap (λ x. x * k) one in absurd (omega (arith, e, exact))
            | inr one ↦ absurd (omega arith)
          ]
    ]

-- what holds of a prime, of some smaller number, and of differences, holds of 1
descent : (P : ℕ → Type 0) → ((a b : ℕ) → P (a + b) → P b → P a) → (q : ℕ) → IsPrime q → P q → (fuel k : ℕ) → k ≤ fuel → 0 < k → k < q → P k → P 1
descent P step q prime pq zero k le pos below pk = absurd (omega arith)
descent P step q prime pq (suc fuel) k le pos below pk =
    elim (cases_lt 1 k) [
      | inl big ↦
          let rest : q % k < k = mod_below q k pos in
          descent P step q prime pq fuel (q % k) (omega (arith, rest)) (rest_of_prime q k prime big below) (omega (arith, rest)) (down_to_rest P step q k pq pk)
      | inr small ↦ let e : k ≡ 1 = omega arith in subst P e pk
    ]

pub to_unit : (P : ℕ → Type 0) → ((a b : ℕ) → P (a + b) → P b → P a) → (q k : ℕ) → IsPrime q → P q → 0 < k → k < q → P k → P 1
to_unit P step q k prime pq pos below pk = descent P step q prime pq k k (omega arith) pos below pk

-- Euclid's lemma: a prime that divides a product and not the first factor divides the second
pub euclid : (q a b : ℕ) → IsPrime q → a * b % q ≡ 0 → 0 < a % q → b % q ≡ 0
euclid q a b prime whole some =
    let pos : 0 < q = omega (arith, prime.above) in
    let P : ℕ → Type 0 = λ k. Same q (k * b) 0 in
    let step : (x y : ℕ) → Same q ((x + y) * b) 0 → Same q (y * b) 0 → Same q (x * b) 0 =
    λ x y both second.
    let apart : x * b + y * b ≡ (x + y) * b = omega arith in
    let none : 0 ≡ 0 + 0 = refl in
    less (y * b) pos (by apart ⨟ both ⨟ by none ⨟ plus (at 0) (back second)) in
    let self : q * b ≡ 0 + b * q = omega arith in
    let at_prime : Same q (q * b) 0 = record { same = multiple q b ∙ sym (zero_rest q pos) } in
    let at_rest : Same q (a % q * b) 0 = record { same = mul-mod_first a b q ∙ whole ∙ sym (zero_rest q pos) } in
    let one : Same q (1 * b) 0 = to_unit P step q (a % q) prime at_prime some (mod_below a q pos) at_rest in
    let same_one : 1 * b ≡ b = omega arith in
    sym (ap (λ x. x % q) same_one) ∙ one.same ∙ zero_rest q pos
  where
    zero_rest : (q : ℕ) → 0 < q → 0 % q ≡ 0
    zero_rest q pos = mod-eq_of_lt pos

-- a factor that isn't 0 modulo a prime is taken off
pub cancel : (q a b c : ℕ) → IsPrime q → 0 < c % q → Same q (a * c) (b * c) → Same q a b
cancel q a b c prime some s =
    elim (cases_lt (a % q) (b % q)) [
      | inl first ↦ back (ordered q (b % q) (a % q) c prime some (omega arith) (mod_below b q (omega (arith, prime.above)))
          (times (of_mod b) (at c) ⨟ back s ⨟ times (back (of_mod a)) (at c)) b a refl refl)
      | inr second ↦ ordered q (a % q) (b % q) c prime some second (mod_below a q (omega (arith, prime.above)))
          (times (of_mod a) (at c) ⨟ s ⨟ times (back (of_mod b)) (at c)) a b refl refl
    ]
  where
    ordered : (q x y c : ℕ) → IsPrime q → 0 < c % q → y ≤ x → x < q → Same q (x * c) (y * c) → (a b : ℕ) → a % q ≡ x → b % q ≡ y → Same q a b
    ordered q x y c prime some le below s a b ea eb =
        let d : ℕ = x - y in
        let parts : x ≡ d + y = omega arith in
        let pos : 0 < q = omega (arith, prime.above) in
        let apart : c * d + y * c ≡ x * c = omega (arith, ap (λ z. z * c) parts) in
        let none : y * c ≡ 0 + y * c = omega arith in
        let zeroed : Same q (c * d) 0 = less (y * c) pos (by apart ⨟ s ⨟ by none) in
        let rest : d % q ≡ 0 = euclid q c d prime (zeroed.same ∙ mod-eq_of_lt pos) some in
        let small : d % q ≡ d = mod-eq_of_lt (omega arith) in
        let equal : x ≡ y = omega arith in
        record { same = ea ∙ equal ∙ sym eb }

-- a product of two numbers that aren't 0 modulo a prime isn't either
pub product_some : (q a b : ℕ) → IsPrime q → 0 < a % q → 0 < b % q → 0 < a * b % q
product_some q a b prime first second =
    elim (cases_lt 0 (a * b % q)) [
      | inl pos ↦ pos
      | inr none ↦ let e : b % q ≡ 0 = euclid q a b prime (omega arith) first in absurd (omega arith)
    ]
