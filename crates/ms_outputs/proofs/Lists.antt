-- The first element of those that are left, and the others.
use Rattle.std.proofs.Common.{◌≡◌, ℕ, suc, ◌+◌, ◌<◌, List, ◌∷◌, length, drop, get_or, ap, ◌∙◌, sym, arith, drop-cons}

pub left_of : {A : Type 0} (xs : List A) (i : ℕ) (x : A) → i < length xs → x ≡ get_or xs i x → drop i xs ≡ x ∷ drop (i + 1) xs
left_of {A} xs i x inside is =
    let next : suc i ≡ i + 1 = omega arith in
    drop-cons xs i x inside ∙ (ap (λ (z : A). z ∷ drop (suc i) xs) (sym is) ∙ ap (λ (z : ℕ). x ∷ drop z xs) next)
