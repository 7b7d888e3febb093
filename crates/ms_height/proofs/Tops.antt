-- The greatest sum of at most so many of some numbers, by a mark: it is that of what is above the mark, and the mark
-- itself so many times.
use Rattle.std.proofs.Common.{◌≡◌, ℕ, zero, suc, ◌+◌, ◌-◌, ◌*◌, ◌<◌, ◌≤◌, ◌⊎◌, List, [], ◌∷◌, refl, inl, inr, arith}
use Rattle.std.proofs.lemmas.Bool.{cases_lt}
use Rattle.ms_height.specs.Scaffolding.Chosen.{top}
use Rattle.ms_height.specs.Scaffolding.Tops.{above, excess, reached}

pub above_reached : (mark : ℕ) (xs : List ℕ) → above mark xs ≤ reached mark xs
above_reached mark [] = omega arith
above_reached mark (x ∷ xs) = omega (arith, above_reached mark xs)

top_most : (c mark : ℕ) (xs : List ℕ) → top c xs ≤ c * mark + excess mark xs
top_most zero mark xs = omega arith
top_most (suc c) mark [] = omega arith
top_most (suc c) mark (x ∷ xs) = omega (arith, top_most c mark xs, top_most (suc c) mark xs)

pub top_grows : (c : ℕ) (xs : List ℕ) → top c xs ≤ top (suc c) xs
top_grows zero xs = omega arith
top_grows (suc c) [] = omega arith
top_grows (suc c) (x ∷ xs) = omega (arith, top_grows c xs, top_grows (suc c) xs)

-- with no mark, where so few are above 0
top_of_few : (c : ℕ) (xs : List ℕ) → above 0 xs ≤ c → excess 0 xs ≤ top c xs
top_of_few zero [] few = omega arith
top_of_few zero (x ∷ xs) few = omega (arith, few, top_of_few zero xs (omega (arith, few)))
top_of_few (suc c) [] few = omega arith
top_of_few (suc c) (x ∷ xs) few = go (cases_lt 0 x) (λ f. top_of_few c xs f) (λ f. top_of_few (suc c) xs f)
  where
    go : (0 < x) ⊎ (x ≤ 0) → (above 0 xs ≤ c → excess 0 xs ≤ top c xs) → (above 0 xs ≤ suc c → excess 0 xs ≤ top (suc c) xs) → excess 0 (x ∷ xs) ≤ top (suc c) (x ∷ xs)
    go (inl more) with_it without = let h = with_it (omega (arith, few, more)) in omega (arith, more, h)
    go (inr none) with_it without = let h = without (omega (arith, few, none)) in omega (arith, none, h)

top_least : (c mark : ℕ) (xs : List ℕ) → above mark xs ≤ c → c ≤ reached mark xs → c * mark + excess mark xs ≤ top c xs
top_least zero mark [] few many = omega arith
top_least zero mark (x ∷ xs) few many = omega (arith, few, top_least zero mark xs (omega (arith, few)) (omega arith))
top_least (suc c) mark [] few many = absurd (omega (arith, many))
top_least (suc c) mark (x ∷ xs) few many =
    go (cases_lt mark x) (cases_lt x mark) (cases_lt c (reached mark xs)) (λ f m. top_least c mark xs f m) (λ f m. top_least (suc c) mark xs f m)
  where
    go : (mark < x) ⊎ (x ≤ mark) → (x < mark) ⊎ (mark ≤ x) → (c < reached mark xs) ⊎ (reached mark xs ≤ c)
        → (above mark xs ≤ c → c ≤ reached mark xs → c * mark + excess mark xs ≤ top c xs)
        → (above mark xs ≤ suc c → suc c ≤ reached mark xs → suc c * mark + excess mark xs ≤ top (suc c) xs)
        → suc c * mark + excess mark (x ∷ xs) ≤ top (suc c) (x ∷ xs)
    go (inl more) b d with_it without = let h = with_it (omega (arith, few, more)) (omega (arith, many, more)) in omega (arith, more, h)
    go (inr a) (inl less) d with_it without = let h = without (omega (arith, few, less)) (omega (arith, many, less)) in omega (arith, a, less, h)
    go (inr a) (inr same) (inl others) with_it without = let h = without (omega (arith, few, a)) (omega (arith, others)) in omega (arith, a, same, h)
    go (inr a) (inr same) (inr all) with_it without = let h = with_it (omega (arith, above_reached mark xs, all)) (omega (arith, many, a, same)) in omega (arith, a, same, h)

-- as many as there are above the mark, or fewer than reach it, unless there is no mark
pub top_is : (c mark : ℕ) (xs : List ℕ) → above mark xs ≤ c → (mark ≡ 0) ⊎ (c ≤ reached mark xs) → top c xs ≡ c * mark + excess mark xs
top_is c mark xs few (inl none) = go mark none few
  where
    go : (m : ℕ) → m ≡ 0 → above m xs ≤ c → top c xs ≡ c * m + excess m xs
    go zero e f = omega (arith, top_most c zero xs, top_of_few c xs f)
    go (suc m) e f = absurd (omega (arith, e))
top_is c mark xs few (inr many) = omega (arith, top_most c mark xs, top_least c mark xs few many)

-- no more can be taken where all above 0 are
pub top_all : (c : ℕ) (xs : List ℕ) → above 0 xs ≤ c → top c xs ≡ top (suc c) xs
top_all c xs few = omega (arith, top_is c 0 xs few (inl refl), top_is (suc c) 0 xs (omega (arith, few)) (inl refl))

-- as many reach it as are wanted, so also one fewer
pub fewer_reach : (fewer c mark : ℕ) (xs : List ℕ) → fewer ≡ c - 1 → (mark ≡ 0) ⊎ (c ≤ reached mark xs) → (mark ≡ 0) ⊎ (fewer ≤ reached mark xs)
fewer_reach fewer c mark xs is (inl none) = inl none
fewer_reach fewer c mark xs is (inr many) = inr (omega (arith, is, many))
