-- The positions that a set chooses, and the order of sets.
use Rattle.std.specs.Prelude.{◌≡◌, ℕ, ◌+◌, ◌<◌, ◌⊎◌, Bool, true, false, List, [], ◌∷◌}

-- the positions that are chosen, numbered from `first` on
abbrev pub positions : (first : ℕ) → (set : List Bool) → List ℕ
positions first [] = []
positions first (true ∷ set) = first ∷ positions (first + 1) set
positions first (false ∷ set) = positions (first + 1) set

-- a list of numbers comes before another: it has the lower number where they first differ
abbrev pub IsBefore : (these those : List ℕ) → Type 0
IsBefore [] those = ⊥
IsBefore (x ∷ these) [] = ⊥
IsBefore (x ∷ these) (y ∷ those) = (x < y) ⊎ ((x ≡ y) × IsBefore these those)
