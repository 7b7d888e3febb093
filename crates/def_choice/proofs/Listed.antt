-- The sets are all sets, in order.
use Rattle.std.proofs.Common.{◌≡◌, ℕ, zero, suc, ◌+◌, ◌<◌, Bool, true, false, List, [], ◌∷◌, ◌++◌, length, map, refl, ◌∙◌, ap, inl, inr, All, AllPairs, Contains, arith}
use Rattle.std.proofs.lemmas.List.Elements.{All-nil, All-cons, All-head, All-tail, All-append, All-map, All-weaker, All-contains, Contains-append_left, Contains-append_right}
use Rattle.std.proofs.lemmas.List.{length-map, get_or-map}
use Rattle.std.proofs.lemmas.List.Kept.{AllPairs-cons}
use Rattle.def_choice.specs.Sets.{sets}
use Rattle.def_choice.specs.Positions.{positions, IsBefore}
use Rattle.def_choice.specs.Laws.{SetsAreAll, SetsAreInOrder}

-- the chosen positions of a set, from any number on
length-positions : (i j : ℕ) (set : List Bool) → length (positions i set) ≡ length (positions j set)
length-positions i j [] = refl
length-positions i j (true ∷ set) = ap suc (length-positions (i + 1) (j + 1) set)
length-positions i j (false ∷ set) = length-positions (i + 1) (j + 1) set

abbrev IsSet : (n k : ℕ) → List Bool → Type 0
IsSet n k set = (length set ≡ n) × (length (positions 0 set) ≡ k)

with_first : (n k : ℕ) (set : List Bool) → IsSet n k set → IsSet (suc n) (suc k) (true ∷ set)
with_first n k set h = (omega (arith, h.0), let e = length-positions (0 + 1) 0 set in omega (arith, h.1, e))

without_first : (n k : ℕ) (set : List Bool) → IsSet n k set → IsSet (suc n) k (false ∷ set)
without_first n k set h = (omega (arith, h.0), let e = length-positions (0 + 1) 0 set in omega (arith, h.1, e))

listed : (n k : ℕ) → All (IsSet n k) (sets n k)
listed zero zero = All-cons (IsSet zero zero) [] [] (refl, refl) (All-nil (IsSet zero zero))
listed zero (suc k) = All-nil (IsSet zero (suc k))
listed (suc n) zero =
    All-map (IsSet (suc n) zero) (λ set. false ∷ set) (sets n zero)
    (All-weaker (IsSet n zero) _ (without_first n zero) (sets n zero) (listed n zero))
listed (suc n) (suc k) =
    All-append (IsSet (suc n) (suc k)) _ _
    (All-map (IsSet (suc n) (suc k)) (λ set. true ∷ set) (sets n k) (All-weaker (IsSet n k) _ (with_first n k) (sets n k) (listed n k)))
    (All-map (IsSet (suc n) (suc k)) (λ set. false ∷ set) (sets n (suc k)) (All-weaker (IsSet n (suc k)) _ (without_first n (suc k)) (sets n (suc k)) (listed n (suc k))))

contains-map : {A B : Type 0} (g : A → B) (xs : List A) (x : A) → Contains xs x → Contains (map g xs) (g x)
contains-map g xs x h =
    (h.0, rw length-map h.1, get_or-map g xs h.0 x (g x) h.1 ∙ ap g h.2)

all_listed : (n k : ℕ) (set : List Bool) → IsSet n k set → Contains (sets n k) set
all_listed zero zero [] h = (0, omega arith, refl)
all_listed zero (suc k) [] h = absurd (omega (arith, h.1))
all_listed zero k (b ∷ set) h = absurd (omega (arith, h.0))
all_listed (suc n) k [] h = absurd (omega (arith, h.0))
all_listed (suc n) zero (true ∷ set) h = absurd (omega (arith, h.1))
all_listed (suc n) zero (false ∷ set) h =
    contains-map (λ s. false ∷ s) (sets n zero) set
    (all_listed n zero set (omega (arith, h.0), let e = length-positions (0 + 1) 0 set in omega (arith, h.1, e)))
all_listed (suc n) (suc k) (true ∷ set) h =
    Contains-append_left _ _ _
    (contains-map (λ s. true ∷ s) (sets n k) set
    (all_listed n k set (omega (arith, h.0), let e = length-positions (0 + 1) 0 set in omega (arith, h.1, e))))
all_listed (suc n) (suc k) (false ∷ set) h =
    Contains-append_right _ _ _
    (contains-map (λ s. false ∷ s) (sets n (suc k)) set
    (all_listed n (suc k) set (omega (arith, h.0), let e = length-positions (0 + 1) 0 set in omega (arith, h.1, e))))

pub sets_are_all : SetsAreAll
sets_are_all n k set = (λ h. All-contains (IsSet n k) (sets n k) set (listed n k) h, all_listed n k set)

-- each before all later ones, from any number on
abbrev Before : ℕ → List Bool → List Bool → Type 0
Before i set later = IsBefore (positions i set) (positions i later)

abbrev InOrder : ℕ → List (List Bool) → Type 0
InOrder i [] = Unit {0}
InOrder i (set ∷ rest) = All (Before i set) rest × InOrder i rest

in_order-append : (i : ℕ) (xs ys : List (List Bool)) → InOrder i xs → InOrder i ys → All (λ x. All (Before i x) ys) xs → InOrder i (xs ++ ys)
in_order-append i [] ys h k l = k
in_order-append i (x ∷ xs) ys h k l = (
  All-append (Before i x) xs ys h.0 (All-head (λ z. All (Before i z) ys) x xs l),
  in_order-append i xs ys h.1 k (All-tail (λ z. All (Before i z) ys) x xs l),
)

-- the same first position, and the first position before none
in_order-without : (i : ℕ) (xs : List (List Bool)) → InOrder (i + 1) xs → InOrder i (map (λ set. false ∷ set) xs)
in_order-without i [] h = tt
in_order-without i (x ∷ xs) h = (All-map (Before i (false ∷ x)) (λ set. false ∷ set) xs h.0, in_order-without i xs h.1)

in_order-with : (i : ℕ) (xs : List (List Bool)) → InOrder (i + 1) xs → InOrder i (map (λ set. true ∷ set) xs)
in_order-with i [] h = tt
in_order-with i (x ∷ xs) h = (
  All-map (Before i (true ∷ x)) (λ set. true ∷ set) xs
      (All-weaker (Before (i + 1) x) (λ y. Before i (true ∷ x) (true ∷ y)) (λ y b. inr (refl, b)) xs h.0),
  in_order-with i xs h.1,
)

-- a first position is below all positions that come after it
first_below : (i j k : ℕ) (set later : List Bool) → i < j → length (positions j later) ≡ suc k → IsBefore (i ∷ positions (i + 1) set) (positions j later)
first_below i j k set [] below h = absurd (omega (arith, h))
first_below i j k set (true ∷ later) below h = inl below
first_below i j k set (false ∷ later) below h = first_below i (j + 1) k set later (omega (arith, below)) h

in_order : (n k i : ℕ) → InOrder i (sets n k)
in_order zero zero i = (All-nil (Before i []), tt)
in_order zero (suc k) i = tt
in_order (suc n) zero i = in_order-without i (sets n zero) (in_order n zero (i + 1))
in_order (suc n) (suc k) i =
    in_order-append i (map (λ set. true ∷ set) (sets n k)) (map (λ set. false ∷ set) (sets n (suc k)))
    (in_order-with i (sets n k) (in_order n k (i + 1)))
    (in_order-without i (sets n (suc k)) (in_order n (suc k) (i + 1)))
    (All-map (λ x. All (Before i x) (map (λ set. false ∷ set) (sets n (suc k)))) (λ set. true ∷ set) (sets n k)
    (All-weaker (IsSet n k) (λ x. All (Before i (true ∷ x)) (map (λ set. false ∷ set) (sets n (suc k))))
    (λ x h. All-map (Before i (true ∷ x)) (λ set. false ∷ set) (sets n (suc k))
    (All-weaker (IsSet n (suc k)) (λ y. Before i (true ∷ x) (false ∷ y))
    (λ y g. first_below i (i + 1) k x y (omega arith) (length-positions (i + 1) 0 y ∙ g.1)) (sets n (suc k)) (listed n (suc k))))
    (sets n k) (listed n k)))

all_pairs : (i : ℕ) (xs : List (List Bool)) → InOrder i xs → AllPairs (Before i) xs
all_pairs i [] h = λ j k d below short. absurd (omega arith)
all_pairs i (x ∷ xs) h = AllPairs-cons (Before i) x xs h.0 (all_pairs i xs h.1)

pub sets_are_in_order : SetsAreInOrder
sets_are_in_order n k = all_pairs 0 (sets n k) (in_order n k 0)
