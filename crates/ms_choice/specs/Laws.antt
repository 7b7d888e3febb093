-- What the definition of a choice implies.
use Rattle.std.specs.Prelude.{◌≡◌, ◌↔◌, ℕ, suc, ◌+◌, ◌≤◌, Bool, true, false, List, [], ◌∷◌, All, Contains, Option, Some, None}
use Rattle.ms_choice.specs.declared.children.Costs.{Costs}
use Rattle.ms_choice.specs.Choice.{Pick, picks, lightest, greatest}

-- this set satisfies so many of the children and dissatisfies the others, and weighs this
abbrev pub IsChosen : (set : List Bool) → List Costs → (count weight : ℕ) → Type 0
IsChosen [] [] count weight = (count ≡ 0) × (weight ≡ 0)
IsChosen [] (c ∷ cs) count weight = ⊥
IsChosen (satisfied ∷ set) [] count weight = ⊥
IsChosen (true ∷ set) (c ∷ cs) count weight =
    (s : ℕ) × (k : ℕ) × (w : ℕ) × (c.sat ≡ Some s) × (count ≡ suc k) × (weight ≡ s + w) × IsChosen set cs k w
IsChosen (false ∷ set) (c ∷ cs) count weight =
    (d : ℕ) × (w : ℕ) × (c.dsat ≡ Some d) × (weight ≡ d + w) × IsChosen set cs count w

-- the listed choices are all
abbrev pub PicksAreAll : Type 0
PicksAreAll =
    (children : List Costs) (count weight : ℕ) (set : List Bool) →
    Contains (picks children count) (weight, set) ↔ IsChosen set children count weight

-- one of these choices, and none weighs less; or there are none
abbrev pub IsLightest : List Pick → Option Pick → Type 0
IsLightest picks None = picks ≡ []
IsLightest picks (Some pick) = Contains picks pick × All (λ other. pick.0 ≤ other.0) picks

-- what one of these choices weighs, and none weighs more; or there are none
abbrev pub IsGreatest : List Pick → Option ℕ → Type 0
IsGreatest picks None = picks ≡ []
IsGreatest picks (Some weight) = ((pick : Pick) × Contains picks pick × (pick.0 ≡ weight)) × All (λ other. other.0 ≤ weight) picks

abbrev pub LightestWeighsLeast : Type 0
LightestWeighsLeast = (children : List Costs) (count : ℕ) → IsLightest (picks children count) (lightest children count)

abbrev pub GreatestWeighsMost : Type 0
GreatestWeighsMost = (children : List Costs) (count : ℕ) → IsGreatest (picks children count) (greatest children count)
