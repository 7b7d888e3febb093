-- All choices of so many children: those are satisfied, and the others dissatisfied.
use Rattle.std.specs.Prelude.{ℕ, zero, suc, ◌+◌, nat_lt, max, Bool, true, false, List, [], ◌∷◌, ◌++◌, map, if◌then◌else◌, Option, Some, None}
use Rattle.ms_choice.specs.declared.children.Costs.{Costs}

-- a choice: what it weighs, and of every child whether it is satisfied
abbrev pub Pick : Type 0
Pick = ℕ × List Bool

-- the choices with a child before the others, which weighs this, where it can be satisfied or dissatisfied
abbrev pub put : (satisfied : Bool) → Option ℕ → List Pick → List Pick
put satisfied None picks = []
put satisfied (Some weight) picks = map (λ pick. (weight + pick.0, satisfied ∷ pick.1)) picks

-- all choices of so many children. Those that satisfy the first child come before those that don't: the order of
-- the sorted lists of places
abbrev pub picks : List Costs → ℕ → List Pick
picks [] zero = (0, []) ∷ []
picks [] (suc count) = []
picks (c ∷ cs) zero = put false c.dsat (picks cs zero)
picks (c ∷ cs) (suc count) = put true c.sat (picks cs count) ++ put false c.dsat (picks cs (suc count))

-- the former, unless the latter weighs less
abbrev pub lighter : Option Pick → Option Pick → Option Pick
lighter None latter = latter
lighter (Some former) None = Some former
lighter (Some former) (Some latter) = if nat_lt latter.0 former.0 then Some latter else Some former

-- the first of least weight
abbrev pub least : List Pick → Option Pick
least [] = None
least (pick ∷ picks) = lighter (Some pick) (least picks)

abbrev pub lightest : List Costs → ℕ → Option Pick
lightest cs count = least (picks cs count)

-- the greater weight
abbrev pub heavier : Option ℕ → Option ℕ → Option ℕ
heavier None latter = latter
heavier (Some former) None = Some former
heavier (Some former) (Some latter) = Some (max former latter)

-- the greatest weight
abbrev pub most : List Pick → Option ℕ
most [] = None
most (pick ∷ picks) = heavier (Some pick.0) (most picks)

abbrev pub greatest : List Costs → ℕ → Option ℕ
greatest cs count = most (picks cs count)
