-- The sets of parts as masks: which of some places are taken.
use Rattle.std.specs.Prelude.{◌≡◌, ◌↔◌, ⊤, ℕ, ◌-◌, Bool, true, List, [], ◌∷◌}
use Rattle.ms_way_laws.specs.Parts.{Part, AreParts, AreLeast, Chosen, free}

abbrev pub Mask : Type 0
Mask = List Bool

-- each place that is taken in the first mask is taken in the second one
abbrev pub IsWithin : Mask → Mask → Type 0
IsWithin [] [] = ⊤
IsWithin [] (b ∷ ts) = ⊥
IsWithin (a ∷ ss) [] = ⊥
IsWithin (a ∷ ss) (b ∷ ts) = (a ≡ true → b ≡ true) × IsWithin ss ts

-- the least masks with which n of some parts hold: those that hold with nothing are counted, and of the others as many as
-- are left are chosen, with a least mask each
abbrev pub LeastOfSoMany : Type 0
LeastOfSoMany =
    (xs : List (Part Mask)) (n : ℕ) (ss : List Mask) → AreParts Mask IsWithin xs →
    AreLeast Mask IsWithin n xs ss ↔ Chosen Mask IsWithin (n - free xs) xs ss
