-- Lists that are equal have equal parts.
use Rattle.std.proofs.Common.{◌≡◌, List, [], ◌∷◌}

pub first_same : {A : Type 0} (x y : A) (xs ys : List A) → x ∷ xs ≡ y ∷ ys → x ≡ y
first_same x y xs ys e = cc

pub rest_same : {A : Type 0} (x y : A) (xs ys : List A) → x ∷ xs ≡ y ∷ ys → xs ≡ ys
rest_same x y xs ys e = cc

pub never_empty : {A : Type 0} (x : A) (xs : List A) → [] ≡ x ∷ xs → ⊥
never_empty x xs e = cc
