-- The ways to choose so many of some things in a row.
use Rattle.std.specs.Prelude.{ℕ, zero, suc, Bool, true, false, List, [], ◌∷◌, ◌++◌, map}

-- all sets of k of n positions, each as a list that says of every position whether it is chosen. Those with
-- the first position come before those without it: the order of their sorted lists of positions
abbrev pub sets : (n k : ℕ) → List (List Bool)
sets zero zero = [] ∷ []
sets zero (suc k) = []
sets (suc n) zero = map (λ set. false ∷ set) (sets n zero)
sets (suc n) (suc k) = map (λ set. true ∷ set) (sets n k) ++ map (λ set. false ∷ set) (sets n (suc k))
