-- The binomial theorem, as far as Fermat's theorem needs it.
use Rattle.std.proofs.Common.{◌≡◌, ℕ, zero, suc, ◌+◌, ◌*◌, ◌^◌, ◌<◌, refl, sym, ◌∙◌, ap, arith}
use Rattle.std.proofs.Math.Nat.{pow-suc, pow-zero}

-- how many choices of k of n things there are
pub choose : ℕ → ℕ → ℕ
choose n zero = 1
choose zero (suc k) = 0
choose (suc n) (suc k) = choose n k + choose n (suc k)

pub absorb : (n k : ℕ) → suc k * choose (suc n) (suc k) ≡ suc n * choose n k
unfolding choose
absorb zero zero = refl
absorb zero (suc k) = omega arith
absorb (suc n) zero = let before = absorb n zero in omega (arith, before)
absorb (suc n) (suc k) = let left = absorb n k in let right = absorb n (suc k) in omega (arith, left, right)

beyond : (n k : ℕ) → n < k → choose n k ≡ 0
unfolding choose
beyond n zero h = absurd (omega arith)
beyond zero (suc k) h = refl
beyond (suc n) (suc k) h = let left = beyond n k (omega arith) in let right = beyond n (suc k) (omega arith) in omega (arith, left, right)

pub choose-all : (n : ℕ) → choose n n ≡ 1
unfolding choose
choose-all zero = refl
choose-all (suc n) = let before = choose-all n in let none = beyond n (suc n) (omega arith) in omega (arith, before, none)

pub choose-none : (n : ℕ) → choose n 0 ≡ 1
unfolding choose
choose-none n = refl

-- the first m terms of (1 + a) ^ n
pub terms : (n m a : ℕ) → ℕ
terms n zero a = 0
terms n (suc m) a = terms n m a + choose n m * a ^ m

pub terms-suc : (n m a : ℕ) → terms n (suc m) a ≡ terms n m a + choose n m * a ^ m
unfolding terms
terms-suc n m a = refl

terms-none : (n a : ℕ) → terms n 0 a ≡ 0
unfolding terms
terms-none n a = refl

pub terms-one : (n a : ℕ) → terms n 1 a ≡ 1
terms-one n a =
    let last : terms n 1 a ≡ terms n 0 a + choose n 0 * a ^ 0 = terms-suc n 0 a in
    let one : choose n 0 * a ^ 0 ≡ 1 * a ^ 0 = ap (λ z. z * a ^ 0) (choose-none n) in
    omega (arith, last, one, terms-none n a, pow-zero a)

next : (n m a : ℕ) → terms (suc n) (suc m) a ≡ terms n (suc m) a + a * terms n m a
unfolding terms choose
next n zero a = omega arith
next n (suc m) a =
    let before = next n m a in
    let power : choose n m * a ^ suc m ≡ choose n m * (a ^ m * a) = ap (λ z. choose n m * z) (pow-suc a m) in
    omega (arith, before, power)

pub binomial : (n a : ℕ) → terms n (suc n) a ≡ (1 + a) ^ n
binomial zero a = terms-one 0 a ∙ sym (pow-zero (1 + a))
binomial (suc n) a =
    let before : terms n (suc n) a ≡ (1 + a) ^ n = binomial n a in
    let step = next n (suc n) a in
    let last = terms-suc n (suc n) a in
    let none : choose n (suc n) * a ^ suc n ≡ 0 * a ^ suc n = ap (λ z. z * a ^ suc n) (beyond n (suc n) (omega arith)) in
    let both : terms (suc n) (suc (suc n)) a ≡ terms n (suc n) a * (1 + a) = omega (arith, step, last, none) in
    both ∙ ap (λ z. z * (1 + a)) before ∙ sym (pow-suc (1 + a) n)
