-- Fermat's little theorem.
use Rattle.std.proofs.Common.{◌≡◌, ℕ, zero, suc, ◌+◌, ◌-◌, ◌*◌, ◌%◌, ◌^◌, ◌<◌, ◌≤◌, sym, ◌∙◌, ap, arith}
use Rattle.std.proofs.Math.Nat.{pow-suc, mod-eq_of_lt}
use Rattle.ms_prime_laws.specs.Prime.{IsPrime}
use Rattle.ms_prime_laws.proofs.Congruence.{Same, at, by, ◌⨟◌, times, plus, multiple}
use Rattle.ms_prime_laws.proofs.Euclid.{euclid, cancel}
use Rattle.ms_prime_laws.proofs.Binomials.{choose, absorb, choose-all, terms, terms-suc, terms-one, binomial}

-- a prime divides the binomial coefficients between its ends
inner : (n k : ℕ) → IsPrime (suc n) → k < n → choose (suc n) (suc k) % suc n ≡ 0
inner n k prime h =
    let whole : suc k * choose (suc n) (suc k) % suc n ≡ 0 = ap (λ x. x % suc n) (absorb n k) ∙ multiple (suc n) (choose n k) in
    let small : suc k % suc n ≡ suc k = mod-eq_of_lt (omega arith) in
    euclid (suc n) (suc k) (choose (suc n) (suc k)) prime whole (omega arith)

-- so that the terms below the last one are 1 together
below : (n m a : ℕ) → IsPrime (suc n) → m ≤ n → Same (suc n) (terms (suc n) (suc m) a) 1
below n zero a prime h = by (terms-one (suc n) a)
below n (suc m) a prime h =
    let nothing : Same (suc n) (choose (suc n) (suc m)) 0 = record { same = inner n m prime (omega arith) ∙ sym (mod-eq_of_lt (omega arith)) } in
    let none : 1 + 0 * a ^ suc m ≡ 1 = omega arith in
    by (terms-suc (suc n) (suc m) a) ⨟ plus (below n m a prime (omega arith)) (times nothing (at (a ^ suc m))) ⨟ by none

power_of_sum : (n a : ℕ) → IsPrime (suc n) → Same (suc n) ((1 + a) ^ suc n) (1 + a ^ suc n)
power_of_sum n a prime =
    let last : choose (suc n) (suc n) * a ^ suc n ≡ a ^ suc n = ap (λ z. z * a ^ suc n) (choose-all (suc n)) ∙ single (a ^ suc n) in
    by (sym (binomial (suc n) a)) ⨟ by (terms-suc (suc n) (suc n) a) ⨟ plus (below n n a prime (omega arith)) (by last)
  where
    single : (z : ℕ) → 1 * z ≡ z
    single z = omega arith

pub fermat : (n a : ℕ) → IsPrime (suc n) → Same (suc n) (a ^ suc n) a
fermat n zero prime =
    let e : zero ^ n * zero ≡ zero = omega arith in
    by (pow-suc zero n) ⨟ by e
fermat n (suc a) prime =
    let e : suc a ≡ 1 + a = omega arith in
    by (ap (λ z. z ^ suc n) e) ⨟ power_of_sum n a prime ⨟ plus (at 1) (fermat n a prime) ⨟ by (sym e)

-- of a number that isn't 0 modulo the prime
pub fermat_unit : (q a : ℕ) → IsPrime q → 0 < a % q → Same q (a ^ (q - 1)) 1
fermat_unit zero a prime some = absurd (omega (arith, prime.above))
fermat_unit (suc n) a prime some =
    let e : suc n - 1 ≡ n = omega arith in
    let single : a ≡ 1 * a = omega arith in
    by (ap (λ k. a ^ k) e) ⨟ cancel (suc n) (a ^ n) 1 a prime some (by (sym (pow-suc a n)) ⨟ fermat n a prime ⨟ by single)
