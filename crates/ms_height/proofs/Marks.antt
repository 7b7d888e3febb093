-- Marks over numbers: what a mark that is one higher changes, and how large all can be.
use Rattle.std.proofs.Common.{◌≡◌, ℕ, zero, suc, ◌+◌, ◌-◌, ◌*◌, ◌^◌, min, ◌<◌, ◌≤◌, ◌≢◌, ◌⊎◌, Bool, true, false, cond, nat_eq, List, [], ◌∷◌, length, All, get_or, set, refl, ap, subst, inl, inr, arith}
use Rattle.std.proofs.lemmas.Bool.Decides.{nat_tests}
use Rattle.std.proofs.lemmas.Bool.{cases_lt}
use Rattle.std.proofs.lemmas.List.{get_or-set_same, get_or-set_other, length-set}
use Rattle.def_tree.specs.InRange.{MOST_MEASURE}
use Rattle.ms_choice.specs.declared.slot.Slot.{Slot}
use Rattle.ms_height.specs.Scaffolding.Kept.{blank}
use Rattle.ms_height.specs.Scaffolding.Tops.{above, excess, reached, equal, IsCounted}

pub excess_next : (mark : ℕ) (xs : List ℕ) → excess mark xs ≡ excess (mark + 1) xs + above mark xs
excess_next mark [] = refl
excess_next mark (x ∷ xs) = omega (arith, excess_next mark xs)

equal_at : (mark x : ℕ) → min 1 (x - mark) ≡ min 1 (x - (mark + 1)) + cond (nat_eq (mark + 1) x) 1 0
equal_at mark x = go (nat_eq (mark + 1) x) refl
  where
    go : (b : Bool) → nat_eq (mark + 1) x ≡ b → min 1 (x - mark) ≡ min 1 (x - (mark + 1)) + cond b 1 0
    go true e = let same : mark + 1 ≡ x = grind (arith, nat_tests) in omega (arith, same)
    go false e = grind (arith, nat_tests)

pub above_next : (mark : ℕ) (xs : List ℕ) → above mark xs ≡ above (mark + 1) xs + equal (mark + 1) xs
above_next mark [] = refl
above_next mark (x ∷ xs) = omega (arith, equal_at mark x, above_next mark xs)

pub reached_next : (mark : ℕ) (xs : List ℕ) → reached (mark + 1) xs ≡ above mark xs
reached_next mark [] = refl
reached_next mark (x ∷ xs) = omega (arith, reached_next mark xs)

pub above_few : (mark : ℕ) (xs : List ℕ) → above mark xs ≤ length xs
above_few mark [] = omega arith
above_few mark (x ∷ xs) = omega (arith, above_few mark xs)

pub above_excess : (mark : ℕ) (xs : List ℕ) → above mark xs ≤ excess mark xs
above_excess mark [] = omega arith
above_excess mark (x ∷ xs) = omega (arith, above_excess mark xs)

-- where some number is above a mark, the next mark is below the numbers' bound
pub above_inside : (mark n : ℕ) (xs : List ℕ) → All (λ x. x < n) xs → 0 < above mark xs → mark + 1 < n
above_inside mark n [] all some = absurd (omega (arith, some))
above_inside mark n (x ∷ xs) all some = go (cases_lt mark x) (all 0 0 (omega arith)) (λ f. above_inside mark n xs (λ i d below. all (suc i) d (omega (arith, below))) f)
  where
    go : (mark < x) ⊎ (x ≤ mark) → x < n → (0 < above mark xs → mark + 1 < n) → mark + 1 < n
    go (inl more) inside ih = omega (arith, more, inside)
    go (inr less) inside ih = ih (omega (arith, some, less))

reached_inside : (mark n : ℕ) (xs : List ℕ) → All (λ x. x < n) xs → 0 < reached mark xs → mark < n
reached_inside mark n [] all some = absurd (omega (arith, some))
reached_inside mark n (x ∷ xs) all some = go (cases_lt x mark) (all 0 0 (omega arith)) (λ f. reached_inside mark n xs (λ i d below. all (suc i) d (omega (arith, below))) f)
  where
    go : (x < mark) ⊎ (mark ≤ x) → x < n → (0 < reached mark xs → mark < n) → mark < n
    go (inl less) inside ih = ih (omega (arith, some, less))
    go (inr more) inside ih = omega (arith, more, inside)

pub excess_most : (mark : ℕ) (xs : List ℕ) → All (λ x. x < 2 ^ 32) xs → excess mark xs ≤ length xs * 2 ^ 32
excess_most mark [] small = omega arith
excess_most mark (x ∷ xs) small = omega (arith, small 0 0 (omega arith), excess_most mark xs (λ i d below. small (suc i) d (omega (arith, below))))

-- a count of a mark that so many numbers reach
product_most : (count mark : ℕ) → mark ≤ 2 ^ 32 → count * mark ≤ count * 2 ^ 32
product_most zero mark small = omega arith
product_most (suc count) mark small = omega (arith, small, product_most count mark small)

pub marks_most : (count mark : ℕ) (xs : List ℕ) → All (λ x. x < 2 ^ 32) xs → (mark ≡ 0) ⊎ (count ≤ reached mark xs) → count * mark ≤ count * 2 ^ 32
marks_most zero mark xs small many = omega arith
marks_most (suc count) mark xs small (inl none) = product_most (suc count) mark (omega (arith, none))
marks_most (suc count) mark xs small (inr many) = product_most (suc count) mark (omega (arith, reached_inside mark (2 ^ 32) xs small (omega (arith, many))))

-- a further number in the counts
pub counted_more : (slots : List Slot) (number : ℕ) (xs : List ℕ) (s : Slot) → number < length slots → number < 2 ^ 32 → length xs < MOST_MEASURE → s.place ≡ (get_or slots number blank).place + 1
    → IsCounted slots xs → IsCounted (set slots number s) (number ∷ xs)
counted_more slots number xs s inside low few more counted = record {
  each = λ v below. go v (omega (arith, below, length-set slots number s)) (nat_eq v number) refl;
  inside = λ i d below. all i d below;
  few = omega (arith, few);
  small = all_small;
}
  where
    go : (v : ℕ) → v < length slots → (b : Bool) → nat_eq v number ≡ b → (get_or (set slots number s) v blank).place ≡ cond (nat_eq v number) 1 0 + equal v xs
    go v below true e =
        let same : number ≡ v = grind (arith, nat_tests) in
        let at : (get_or (set slots number s) v blank).place
        ≡ s.place = subst (λ (n : ℕ). (get_or (set slots number s) n blank).place ≡ s.place) same
        (ap (λ (x : Slot). x.place) (get_or-set_same slots number s blank inside)) in
        let old : (get_or slots number blank).place ≡ equal v xs = subst (λ (n : ℕ). (get_or slots number blank).place ≡ equal n xs) same (counted.each number inside) in
        let f : Bool → ℕ = λ b. cond b 1 0 in let one : f (nat_eq v number) ≡ f true = ap f e in
        omega (arith, at, more, old, one)
    go v below false e =
        let apart : v ≢ number = grind (arith, nat_tests) in
        let at : (get_or (set slots number s) v blank).place ≡ (get_or slots v blank).place = ap (λ (x : Slot). x.place) (get_or-set_other slots number v s blank apart) in
        let f : Bool → ℕ = λ b. cond b 1 0 in let none : f (nat_eq v number) ≡ f false = ap f e in
        omega (arith, at, counted.each v below, none)

    all : (i d : ℕ) → i < length (number ∷ xs) → get_or (number ∷ xs) i d < length (set slots number s)
    all zero d below = omega (arith, inside, length-set slots number s)
    all (suc i) d below = let h = counted.inside i d (omega (arith, below)) in omega (arith, h, length-set slots number s)

    all_small : All (λ x. x < 2 ^ 32) (number ∷ xs)
    all_small zero d below = low
    all_small (suc i) d below = counted.small i d (omega (arith, below))

pub equal_few : (v : ℕ) (xs : List ℕ) → equal v xs ≤ length xs
equal_few v [] = omega arith
equal_few v (x ∷ xs) = go (nat_eq v x) (equal_few v xs)
  where
    go : (b : Bool) → equal v xs ≤ length xs → cond b 1 0 + equal v xs ≤ suc (length xs)
    go true h = omega (arith, h)
    go false h = omega (arith, h)
