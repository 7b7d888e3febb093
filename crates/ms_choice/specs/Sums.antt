-- Sums over lists, and the sum of the greatest numbers of a list.
use Rattle.std.specs.Prelude.{◌≡◌, ℕ, ℤ, ◌+◌, ◌-◌, ◌*◌, ◌≤◌, min, List, [], ◌∷◌}
use borrow.Author.Differences.{up, down}

abbrev pub total : {X : Type 0} → (X → ℕ) → List X → ℕ
total f [] = 0
total f (x ∷ xs) = f x + total f xs

-- how far a difference z is above a - b; 1 where it is above; 1 where it is not below
abbrev pub above : (a b : ℕ) → ℤ → ℕ
above a b z = (up z + b) - (down z + a)

abbrev pub is_above : (a b : ℕ) → ℤ → ℕ
is_above a b z = min 1 ((up z + b) - (down z + a))

abbrev pub is_reached : (a b : ℕ) → ℤ → ℕ
is_reached a b z = 1 - ((down z + a) - (up z + b))

-- gain is the sum of the greatest count of all differences: those above a mark a - b, and of those at it as
-- many as are wanted
pub record IsGain {X : Type 0} (difference : X → ℤ) (xs : List X) (count : ℕ) (gain : ℤ) : Type 0 where
  pub a : ℕ
  pub b : ℕ
  pub enough : total (λ x. is_above a b (difference x)) xs ≤ count
  pub reached : count ≤ total (λ x. is_reached a b (difference x)) xs
  pub sum : up gain + count * b ≡ down gain + total (λ x. above a b (difference x)) xs + count * a
