-- Totals over lists, and integers by their two parts.
use Rattle.std.proofs.Common.{◌≡◌, ℕ, zero, suc, ◌+◌, ◌<◌, List, [], ◌∷◌, ◌++◌, length, get_or, take, drop, refl, sym, ◌∙◌, arith, sum_by, IsPermutation}
use Rattle.std.proofs.lemmas.List.Sums.{sum_by-cons, sum_by_more, sum_by_push}
use Rattle.std.proofs.lemmas.List.Sorted.{sum_by-IsPermutation}
use Rattle.ms_choice.specs.declared.children.Number.{Number}
use Rattle.ms_choice.specs.declared.children.Number.TheVariants.{First, Second, Third}
use Rattle.ms_choice.specs.Sums.{total}

module _ {X : Type 0} (f : X → ℕ) where
  pub total-is : (xs : List X) → total f xs ≡ sum_by f xs
  total-is [] = refl
  total-is (x ∷ xs) = omega (arith, total-is xs, sum_by-cons f x xs)

  pub total_more : (xs : List X) (i : ℕ) (d : X) → i < length xs → total f (take (i + 1) xs) ≡ total f (take i xs) + f (get_or xs i d)
  total_more xs i d h = omega (arith, total-is (take (i + 1) xs), total-is (take i xs), sum_by_more f xs i d h)

  pub total_push : (xs : List X) (x : X) → total f (xs ++ x ∷ []) ≡ total f xs + f x
  total_push xs x = omega (arith, total-is (xs ++ x ∷ []), total-is xs, sum_by_push f xs x)

  pub total-permutation : (xs ys : List X) → IsPermutation xs ys → total f ys ≡ total f xs
  total-permutation xs ys h = total-is ys ∙ sum_by-IsPermutation f xs ys h ∙ sym (total-is xs)

  pub total_split : (n : ℕ) (xs : List X) → total f (take n xs) + total f (drop n xs) ≡ total f xs
  total_split zero xs = omega arith
  total_split (suc n) [] = refl
  total_split (suc n) (x ∷ xs) = omega (arith, total_split n xs)

-- what holds of each of the three numbers
pub each_number : (P : Number → Type 0) → P First → P Second → P Third → (n : Number) → P n
each_number P f s t First = f
each_number P f s t Second = s
each_number P f s t Third = t
