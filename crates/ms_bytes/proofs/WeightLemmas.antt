-- What the items at a stack's front weigh.
use Rattle.std.proofs.Common.{◌≡◌, ℕ, zero, suc, ◌+◌, ◌<◌, ◌≤◌, List, [], ◌∷◌, length, take, get_or, ap, subst, arith}
use Rattle.def_script.specs.Bytes.{Bytes}
use Rattle.def_script.specs.Witness.{weight}

further : (stack : List Bytes) (i : ℕ) (item : Bytes) → i < length stack → item ≡ get_or stack i item → weight (take (suc i) stack) ≡ weight (take i stack) + (1 + length item)
further [] i item low is = omega arith
further (first ∷ stack) zero item low is = let same = ap (λ (x : Bytes). length x) is in omega (arith, same)
further (first ∷ stack) (suc i) item low is = let rest = further stack i item (omega arith) is in omega (arith, rest)

-- one item more
pub front_step : (stack : List Bytes) (i : ℕ) (item : Bytes) → i < length stack → item ≡ get_or stack i item → weight (take (i + 1) stack) ≡ weight (take i stack) + (1 + length item)
front_step stack i item low is =
    let up : suc i ≡ i + 1 = omega arith in
    subst (λ j. weight (take j stack) ≡ weight (take i stack) + (1 + length item)) up (further stack i item low is)

-- at most what all weigh
pub front_light : (stack : List Bytes) (i : ℕ) → weight (take i stack) ≤ weight stack
front_light [] zero = omega arith
front_light [] (suc i) = omega arith
front_light (first ∷ stack) zero = omega arith
front_light (first ∷ stack) (suc i) = let rest = front_light stack i in omega (arith, rest)
