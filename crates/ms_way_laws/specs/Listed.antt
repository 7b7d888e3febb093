-- The choices of so many parts, listed and counted, where the least sets of each part are listed.
use Rattle.std.specs.Prelude.{◌≡◌, ◌⊎◌, ◌↔◌, ⊤, ℕ, zero, suc, ◌+◌, ◌*◌, List, [], ◌∷◌, ◌++◌, length, map, flat_map, if◌then◌else◌}
use Rattle.ms_way_laws.specs.Parts.{Part, IsLeast, Chosen}
use Rattle.ms_way_laws.specs.Masks.{Mask, IsWithin}

-- a part with the list of its least sets
pub record Counted (A : Type 0) : Type 0 where
  pub part : Part A
  pub leasts : List A

abbrev pub parts_of : {A : Type 0} → List (Counted A) → List (Part A)
parts_of xs = map (λ x. x.part) xs

-- each of some sets before each of some rests
abbrev pub with_each : {A : Type 0} → List A → List (List A) → List (List A)
with_each firsts rests = flat_map (λ a. map (λ ss. a ∷ ss) rests) firsts

-- of the first part a least set each, where it doesn't hold with nothing; and then what leaves it out
abbrev pub listed : {A : Type 0} → (n : ℕ) → List (Counted A) → List (List A)
listed zero [] = [] ∷ []
listed (suc n) [] = []
listed zero (x ∷ xs) = map (λ ss. x.part.nothing ∷ ss) (listed zero xs)
listed (suc n) (x ∷ xs) =
    (if x.part.holds x.part.nothing then [] else with_each x.leasts (listed n xs)) ++ map (λ ss. x.part.nothing ∷ ss) (listed (suc n) xs)

-- how many there are
abbrev pub counted : {A : Type 0} → (n : ℕ) → List (Counted A) → ℕ
counted zero [] = 1
counted (suc n) [] = 0
counted zero (x ∷ xs) = counted zero xs
counted (suc n) (x ∷ xs) =
    (if x.part.holds x.part.nothing then 0 else length x.leasts * counted n xs) + counted (suc n) xs

-- in a list; each once in it
abbrev pub In : {A : Type 0} → A → List A → Type 0
In a [] = ⊥
In a (b ∷ bs) = (a ≡ b) ⊎ In a bs

abbrev pub AreOnce : {A : Type 0} → List A → Type 0
AreOnce [] = ⊤
AreOnce (a ∷ rest) = (In a rest → ⊥) × AreOnce rest

-- each list has the least sets of its part, each once
abbrev pub AreCounted : (A : Type 0) (IsWithin : A → A → Type 0) → List (Counted A) → Type 0
AreCounted A IsWithin [] = ⊤
AreCounted A IsWithin (x ∷ xs) =
    ((a : A) → In a x.leasts ↔ IsLeast A IsWithin x.part a) × AreOnce x.leasts × AreCounted A IsWithin xs

-- what is listed are the choices, each once, and so many
abbrev pub ListedAreChosen : Type 0
ListedAreChosen =
    (xs : List (Counted Mask)) (n : ℕ) → AreCounted Mask IsWithin xs →
    ((ss : List Mask) → In ss (listed n xs) ↔ Chosen Mask IsWithin n (parts_of xs) ss) ×
    AreOnce (listed n xs) × (length (listed n xs) ≡ counted n xs)
