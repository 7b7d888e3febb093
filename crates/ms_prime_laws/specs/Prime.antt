-- Primes.
use Rattle.std.specs.Prelude.{◌≡◌, ℕ, ◌*◌, ◌<◌, ◌⊎◌}

-- a number above 1 that is no product of two numbers but with 1
pub record IsPrime (q : ℕ) : Type 0 where
  pub above : 1 < q
  pub only : (a b : ℕ) → a * b ≡ q → (a ≡ 1) ⊎ (b ≡ 1)
