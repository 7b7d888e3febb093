-- There is one list alone of the ways of a tree.
use Rattle.std.proofs.Common.{◌≡◌, inl, inr, ℕ, zero, suc, ◌<◌, ◌==◌, nat_lt, Bool, true, ◌&&◌, ◌||◌, List, [], ◌∷◌, length, refl, sym, ◌∙◌, ap, subst, arith}
use Rattle.std.specs.Prelude.{Contains, slice_index_or}
use Rattle.std.specs.List.{AllPairs}
use Rattle.std.proofs.lemmas.Bool.{false≢true}
use Rattle.std.proofs.lemmas.Bool.Decides.{nat_tests}
use Rattle.def_ways.specs.Offer.{Offer}
use Rattle.def_ways.specs.Order.{is_less, is_before, numbers}
use Rattle.def_ways.specs.Laws.{OneList}
use Rattle.ms_way_laws.specs.Listed.{In}

-- the order goes one way
less_step : (x y : ℕ) (p q : Bool) → (p ≡ true → q ≡ true → ⊥) → (nat_lt x y || (x == y && p)) ≡ true → (nat_lt y x || (y == x && q)) ≡ true → ⊥
less_step x y p q f h k = grind (arith, nat_tests)

pub one_way : (xs ys : List ℕ) → is_less xs ys ≡ true → is_less ys xs ≡ true → ⊥
one_way [] [] h k = false≢true h
one_way [] (y ∷ ys) h k = false≢true k
one_way (x ∷ xs) [] h k = false≢true h
one_way (x ∷ xs) (y ∷ ys) h k = less_step x y (is_less xs ys) (is_less ys xs) (one_way xs ys) h k

module _ (X : Type 0) (before : X → X → Bool) (apart : (x y : X) → before x y ≡ true → before y x ≡ true → ⊥) where
  pub in_of : (xs : List X) (y : X) → Contains xs y → In y xs
  in_of [] y c = let l = c.1 in omega (arith, l)
  in_of (x ∷ xs) y c = go c.0 c.1 c.2 (λ c. in_of xs y c)
    where
      go : (k : ℕ) → k < length (x ∷ xs) → slice_index_or (x ∷ xs) k y ≡ y → (Contains xs y → In y xs) → In y (x ∷ xs)
      go zero l e rest = inl (sym e)
      go (suc k) l e rest = inr (rest (k, omega (arith, l), e))

  pub contains_of : (xs : List X) (y : X) → In y xs → Contains xs y
  contains_of [] y h = absurd h
  contains_of (x ∷ xs) y (inl e) = (0, omega arith, sym e)
  contains_of (x ∷ xs) y (inr h) = let c = contains_of xs y h in let l = c.1 in (suc c.0, omega (arith, l), c.2)

  abbrev InOrder : List X → Type 0
  InOrder xs = AllPairs (λ x y. before x y ≡ true) xs

  first_before : (x : X) (xs : List X) → InOrder (x ∷ xs) → (y : X) → In y xs → before x y ≡ true
  first_before x xs o y h =
      let c = contains_of xs y h in
      let l = c.1 in
      subst (λ z. before x z ≡ true) c.2 (o 0 (suc c.0) y (omega arith) (omega (arith, l)))

  rest_in_order : (x : X) (xs : List X) → InOrder (x ∷ xs) → InOrder xs
  rest_in_order x xs o i j d l m = o (suc i) (suc j) d (omega (arith, l)) (omega (arith, m))

  one_list : (xs ys : List X) → InOrder xs → InOrder ys → ((z : X) → In z xs → In z ys) → ((z : X) → In z ys → In z xs) → xs ≡ ys
  one_list [] [] o p f g = refl
  one_list [] (y ∷ ys) o p f g = absurd (g y (inl refl))
  one_list (x ∷ xs) [] o p f g = absurd (f x (inl refl))
  one_list (x ∷ xs) (y ∷ ys) o p f g =
      ap (λ z. z ∷ xs) same
      ∙ ap (λ zs. y ∷ zs) (one_list xs ys (rest_in_order x xs o) (rest_in_order y ys p)
      (λ z h. others z y ys (λ e. before_itself x (subst (λ w. before x w ≡ true) (e ∙ sym same) (first_before x xs o z h))) (f z (inr h)))
      (λ z h. others z x xs (λ e. before_itself y (subst (λ w. before y w ≡ true) (e ∙ same) (first_before y ys p z h))) (g z (inr h))))
    where
      before_itself : (x : X) → before x x ≡ true → ⊥
      before_itself x e = apart x x e e

      same : x ≡ y
      same = elim (f x (inl refl)) [
        | inl e ↦ e
        | inr h ↦ elim (g y (inl refl)) [
          | inl e ↦ sym e
          | inr k ↦ absurd (apart x y (first_before x xs o y k) (first_before y ys p x h))
        ]
      ]

      others : (z w : X) (ws : List X) → (z ≡ w → ⊥) → In z (w ∷ ws) → In z ws
      others z w ws differs (inl e) = absurd (differs e)
      others z w ws differs (inr h) = h

pub one_list_of_ways : OneList
one_list_of_ways tree former latter a b =
    one_list Offer (is_before tree) (λ x y. one_way (numbers tree x) (numbers tree y)) former latter a.ordered b.ordered
    (λ z h. in_of Offer (is_before tree) (λ x y. one_way (numbers tree x) (numbers tree y)) latter z
    ((b.each z).1 ((a.each z).0 (contains_of Offer (is_before tree) (λ x y. one_way (numbers tree x) (numbers tree y)) former z h))))
    (λ z h. in_of Offer (is_before tree) (λ x y. one_way (numbers tree x) (numbers tree y)) former z
    ((a.each z).1 ((b.each z).0 (contains_of Offer (is_before tree) (λ x y. one_way (numbers tree x) (numbers tree y)) latter z h))))
