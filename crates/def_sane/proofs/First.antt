-- Which number is the first one with a property.
use Rattle.std.proofs.Common.{◌≡◌, ◌↔◌, ℕ, zero, suc, ◌+◌, ◌<◌, Option, Some, None, MatchOption, refl, arith, subst}

-- none has it, or this one is the first, where the numbers are counted from another on
abbrev pub IsFirst : (P : ℕ → Type 0) → (start : ℕ) → Option ℕ → Type 0
IsFirst P start None = (n : ℕ) → ¬ P n
IsFirst P start (Some m) = (k : ℕ) × (m ≡ start + k) × P k × ((n : ℕ) → n < k → ¬ P n)

pub first_here : (P : ℕ → Type 0) (start : ℕ) → P 0 → IsFirst P start (Some start)
first_here P start h = (0, omega arith, h, λ n below p. absurd (omega arith))

-- a number that has it has one before it with the other property, of which it is the next
next_only : (P Q : ℕ → Type 0) → ¬ P 0 → ((n : ℕ) → P (suc n) ↔ Q n) → (n : ℕ) → ((m : ℕ) → n ≡ suc m → ¬ Q m) → ¬ P n
next_only P Q not_here same zero none = not_here
next_only P Q not_here same (suc m) none = λ p. none m refl ((same m).0 p)

-- the same numbers without the first
pub first_behind : (P Q : ℕ → Type 0) (start : ℕ) (o : Option ℕ) → ¬ P 0 → ((n : ℕ) → P (suc n) ↔ Q n) → IsFirst Q (start + 1) o → IsFirst P start o
first_behind P Q start None not_here same h = λ n. next_only P Q not_here same n (λ m e. h m)
first_behind P Q start (Some m) not_here same (k, e, q, before) =
    (suc k, omega (arith, e), (same k).1 q, λ n below. next_only P Q not_here same n (λ j f. before j (omega (arith, f, below))))

pub first_is : (P : ℕ → Type 0) (o : Option ℕ) → IsFirst P 0 o → MatchOption o ((n : ℕ) → ¬ P n) (λ m. P m × ((n : ℕ) → n < m → ¬ P n))
first_is P None h = h
first_is P (Some m) (k, e, p, before) = let same : k ≡ m = omega (arith, e) in subst (λ n. P n × ((j : ℕ) → j < n → ¬ P j)) same (p, before)
