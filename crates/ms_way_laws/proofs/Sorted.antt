-- Lists in order.
use Rattle.std.proofs.Common.{◌≡◌, ◌⊎◌, inl, inr, ℕ, zero, suc, ◌+◌, ◌*◌, ◌<◌, ◌==◌, nat_lt, Bool, true, false, ◌&&◌, ◌||◌, List, [], ◌∷◌, ◌++◌, length, map, filter, Option, Some, None, refl, sym, ◌∙◌, ap, subst, arith, if◌then◌else◌}
use Rattle.std.specs.Prelude.{⊤, IfSome, slice_index_or}
use Rattle.std.specs.List.{AllPairs}
use Rattle.std.proofs.lemmas.Bool.{cases_Bool, false≢true}
use Rattle.std.proofs.lemmas.Bool.Decides.{nat_tests}
use Rattle.def_tree.specs.Tree.{Tree}
use Rattle.def_ways.specs.declared.Delay.{Delay}
use Rattle.def_ways.specs.declared.Delay.TheVariants.{Blocks, Units}
use Rattle.def_ways.specs.declared.Moment.{Moment}
use Rattle.def_ways.specs.declared.Moment.TheVariants.{Height, Time}
use Rattle.def_ways.specs.Secret.{Secret, same, secrets}
use Rattle.def_ways.specs.Offer.{Offer, IsOffer, IsMoment, locktime_of}
use Rattle.def_ways.specs.Order.{delay_numbers, place, is_key, numbers, is_less, is_before}
use Rattle.def_ways.specs.Tried.{insert, in_order}
use Rattle.ms_way_laws.specs.Listed.{In, AreOnce}
use Rattle.ms_way_laws.proofs.Listed.{in_either}
use Rattle.ms_way_laws.proofs.Parts.{same_head, same_tail}
use Rattle.ms_way_laws.proofs.SameTruth.{same_is, same_own}
use Rattle.ms_way_laws.proofs.SomeOf.{in_all}

-- ---- the order of numbers

less_through : (x y z : ℕ) (p q r : Bool) → (p ≡ true → q ≡ true → r ≡ true) →
    (nat_lt x y || (x == y && p)) ≡ true → (nat_lt y z || (y == z && q)) ≡ true → (nat_lt x z || (x == z && r)) ≡ true
less_through x y z p q r f h k = grind (arith, nat_tests)

pub through : (xs ys zs : List ℕ) → is_less xs ys ≡ true → is_less ys zs ≡ true → is_less xs zs ≡ true
through [] [] zs h k = k
through [] (y ∷ ys) [] h k = absurd (false≢true k)
through [] (y ∷ ys) (z ∷ zs) h k = refl
through (x ∷ xs) [] zs h k = absurd (false≢true h)
through (x ∷ xs) (y ∷ ys) [] h k = absurd (false≢true k)
through (x ∷ xs) (y ∷ ys) (z ∷ zs) h k = less_through x y z (is_less xs ys) (is_less ys zs) (is_less xs zs) (through xs ys zs) h k

compare : (x y : ℕ) → (x < y) ⊎ ((x ≡ y) ⊎ (y < x))
compare x y = grind arith

less_first : (x y : ℕ) (p : Bool) → x < y → (nat_lt x y || (x == y && p)) ≡ true
less_first x y p h = grind (arith, nat_tests)

less_rest : (x : ℕ) (p : Bool) → p ≡ true → (nat_lt x x || (x == x && p)) ≡ true
less_rest x p h = grind (arith, nat_tests)

-- of two different lists one is less
pub one_less : (xs ys : List ℕ) → (is_less xs ys ≡ true) ⊎ ((xs ≡ ys) ⊎ (is_less ys xs ≡ true))
one_less [] [] = inr (inl refl)
one_less [] (y ∷ ys) = inl refl
one_less (x ∷ xs) [] = inr (inr refl)
one_less (x ∷ xs) (y ∷ ys) = elim (compare x y) [
  | inl l ↦ inl (less_first x y (is_less xs ys) l)
  | inr r ↦ elim r [
    | inl e ↦ elim (one_less xs ys) [
      | inl l ↦ inl (subst (λ z. is_less (x ∷ xs) (z ∷ ys) ≡ true) e (less_rest x (is_less xs ys) l))
      | inr s ↦ elim s [
        | inl same ↦ inr (inl (ap (λ z. z ∷ xs) e ∙ ap (λ zs. y ∷ zs) same))
        | inr l ↦ inr (inr (subst (λ z. is_less (z ∷ ys) (x ∷ xs) ≡ true) e (less_rest x (is_less ys xs) l)))
      ]
    ]
    | inr l ↦ inr (inr (less_first y x (is_less ys xs) l))
  ]
]

pub less_of : (x y : ℕ) (xs ys : List ℕ) → x < y → is_less (x ∷ xs) (y ∷ ys) ≡ true
less_of x y xs ys h = less_first x y (is_less xs ys) h

pub less_behind : (x : ℕ) (xs ys : List ℕ) → is_less xs ys ≡ true → is_less (x ∷ xs) (x ∷ ys) ≡ true
less_behind x xs ys h = less_rest x (is_less xs ys) h

-- ---- each before all later ones

module _ {X : Type 0} (before : X → X → Bool) where
  abbrev pub IsSorted : List X → Type 0
  IsSorted [] = ⊤
  IsSorted (x ∷ xs) = ((y : X) → In y xs → before x y ≡ true) × IsSorted xs

  in_place : (xs : List X) (i : ℕ) (d : X) → i < length xs → In (slice_index_or xs i d) xs
  in_place [] i d h = absurd (none i h)
    where
      none : (i : ℕ) → i < 0 → ⊥
      none i h = omega (arith, h)
  in_place (x ∷ xs) zero d h = inl refl
  in_place (x ∷ xs) (suc i) d h = inr (in_place xs i d (omega (arith, h)))

  pub all_pairs : (xs : List X) → IsSorted xs → AllPairs (λ x y. before x y ≡ true) xs
  all_pairs [] s i j d l h = absurd (none j h)
    where
      none : (j : ℕ) → j < 0 → ⊥
      none j h = omega (arith, h)
  all_pairs (x ∷ xs) s zero zero d l h = absurd (none l)
    where
      none : 0 < 0 → ⊥
      none l = omega (arith, l)
  all_pairs (x ∷ xs) s zero (suc j) d l h = s.0 (slice_index_or xs j d) (in_place xs j d (omega (arith, h)))
  all_pairs (x ∷ xs) s (suc i) zero d l h = absurd (none i l)
    where
      none : (i : ℕ) → suc i < 0 → ⊥
      none i l = omega (arith, l)
  all_pairs (x ∷ xs) s (suc i) (suc j) d l h = all_pairs xs s.1 i j d (omega (arith, l)) (omega (arith, h))

  pub sorted_joined : (xs ys : List X) → IsSorted xs → IsSorted ys → ((x y : X) → In x xs → In y ys → before x y ≡ true) → IsSorted (xs ++ ys)
  sorted_joined [] ys s t h = t
  sorted_joined (x ∷ xs) ys s t h = (
    (λ y i. elim (in_either y xs ys i) [ inl l ↦ s.0 y l | inr r ↦ h x y (inl refl) r ]),
    sorted_joined xs ys s.1 t (λ z y i j. h z y (inr i) j),
  )

-- ---- the numbers of offers

pub first_two : (a b : ℕ) (r s : List ℕ) (c d : ℕ) → a ∷ b ∷ r ≡ c ∷ d ∷ s → (a ≡ c) × (b ≡ d) × (r ≡ s)
first_two a b r s c d e =
    (same_head c a (d ∷ s) (b ∷ r) e, same_head d b s r (same_tail c a (d ∷ s) (b ∷ r) e), same_tail d b s r (same_tail c a (d ∷ s) (b ∷ r) e))

pub same_delays : (d e : Option Delay) (r s : List ℕ) → delay_numbers d ++ r ≡ delay_numbers e ++ s → (d ≡ e) × (r ≡ s)
same_delays None None r s h = (refl, (first_two 0 0 r s 0 0 h).2)
same_delays None (Some (Blocks m)) r s h = let f = (first_two 0 0 r s (600 * m + 1) 0 h).0 in absurd (omega (arith, f))
same_delays None (Some (Units m)) r s h = let f = (first_two 0 0 r s (512 * m + 1) 1 h).0 in absurd (omega (arith, f))
same_delays (Some (Blocks n)) None r s h = let f = (first_two (600 * n + 1) 0 r s 0 0 h).0 in absurd (omega (arith, f))
same_delays (Some (Units n)) None r s h = let f = (first_two (512 * n + 1) 1 r s 0 0 h).0 in absurd (omega (arith, f))
same_delays (Some (Blocks n)) (Some (Blocks m)) r s h =
    let f = first_two (600 * n + 1) 0 r s (600 * m + 1) 0 h in
    let g = f.0 in
    (ap (λ n. Some (Blocks n)) (omega (arith, g)), f.2)
same_delays (Some (Units n)) (Some (Units m)) r s h =
    let f = first_two (512 * n + 1) 1 r s (512 * m + 1) 1 h in
    let g = f.0 in
    (ap (λ n. Some (Units n)) (omega (arith, g)), f.2)
same_delays (Some (Blocks n)) (Some (Units m)) r s h = let f = (first_two (600 * n + 1) 0 r s (512 * m + 1) 1 h).1 in absurd (omega (arith, f))
same_delays (Some (Units n)) (Some (Blocks m)) r s h = let f = (first_two (512 * n + 1) 1 r s (600 * m + 1) 0 h).1 in absurd (omega (arith, f))

pub same_moments : (d e : Option Moment) → IfSome d IsMoment → IfSome e IsMoment → locktime_of d ≡ locktime_of e → d ≡ e
same_moments None None h k e = refl
same_moments None (Some (Height m)) h k e = let l = k.0 in absurd (omega (arith, l, e))
same_moments None (Some (Time m)) h k e = let l = k.0 in absurd (omega (arith, l, e))
same_moments (Some (Height n)) None h k e = let l = h.0 in absurd (omega (arith, l, e))
same_moments (Some (Time n)) None h k e = let l = h.0 in absurd (omega (arith, l, e))
same_moments (Some (Height n)) (Some (Height m)) h k e = ap (λ n. Some (Height n)) e
same_moments (Some (Time n)) (Some (Time m)) h k e = ap (λ n. Some (Time n)) e
same_moments (Some (Height n)) (Some (Time m)) h k e = let l = h.1 in let r = k.0 in absurd (omega (arith, l, r, e))
same_moments (Some (Time n)) (Some (Height m)) h k e = let l = h.0 in let r = k.1 in absurd (omega (arith, l, r, e))

place_step : (s x : Secret) (all : List Secret) (b : Bool) → same s x ≡ b → place s (x ∷ all) ≡ (if b then 0 else place s all + 1)
place_step s x all b e = rw e refl

pub same_place : (all : List Secret) (s t : Secret) → In s all → In t all → place s all ≡ place t all → s ≡ t
same_place [] s t i j e = absurd i
same_place (x ∷ all) s t i j e = elim (cases_Bool (same s x)) [
  | inl f ↦ elim (cases_Bool (same t x)) [
    | inl g ↦ same_is s x f ∙ sym (same_is t x g)
    | inr g ↦
        let a = sym (place_step s x all true f) ∙ e ∙ place_step t x all false g in
        absurd (omega (arith, a))
  ]
  | inr f ↦ elim (cases_Bool (same t x)) [
    | inl g ↦
        let a = sym (place_step s x all false f) ∙ e ∙ place_step t x all true g in
        absurd (omega (arith, a))
    | inr g ↦
        let a = sym (place_step s x all false f) ∙ e ∙ place_step t x all false g in
        same_place all s t (rest s i f) (rest t j g) (omega (arith, a))
  ]
]
  where
    rest : (s : Secret) → In s (x ∷ all) → same s x ≡ false → In s all
    rest s (inl e) f = absurd (false≢true (sym f ∙ subst (λ y. same s y ≡ true) e (same_own s)))
    rest s (inr h) f = h

pub same_places : (all some others : List Secret) → ((s : Secret) → In s some → In s all) → ((s : Secret) → In s others → In s all) →
    map (λ secret. place secret all) some ≡ map (λ secret. place secret all) others → some ≡ others
same_places all [] [] f g e = refl
same_places all [] (y ∷ others) f g e = absurd (no_cons (place y all) (map (λ secret. place secret all) others) e)
  where
    no_cons : (n : ℕ) (ns : List ℕ) → [] ≡ n ∷ ns → ⊥
    no_cons n ns e = let l : 0 ≡ length (n ∷ ns) = ap (λ xs. length xs) e in omega (arith, l)
same_places all (x ∷ some) [] f g e = absurd (no_cons (place x all) (map (λ secret. place secret all) some) e)
  where
    no_cons : (n : ℕ) (ns : List ℕ) → n ∷ ns ≡ [] → ⊥
    no_cons n ns e = let l : length (n ∷ ns) ≡ 0 = ap (λ xs. length xs) e in omega (arith, l)
same_places all (x ∷ some) (y ∷ others) f g e =
    let h = same_head (place y all) (place x all) (map (λ secret. place secret all) others) (map (λ secret. place secret all) some) e in
    let t = same_tail (place y all) (place x all) (map (λ secret. place secret all) others) (map (λ secret. place secret all) some) e in
    ap (λ z. z ∷ some) (same_place all x y (f x (inl refl)) (g y (inl refl)) h)
    ∙ ap (λ zs. y ∷ zs) (same_places all some others (λ s i. f s (inr i)) (λ s i. g s (inr i)) t)

-- two offers of a tree with the same numbers are the same
pub same_numbers : (tree : Tree) (a b : Offer) → IsOffer tree a → IsOffer tree b → numbers tree a ≡ numbers tree b → a ≡ b
same_numbers tree a b i j e =
    let d = same_delays a.delay b.delay _ _ e in
    let t = first_two (locktime_of a.moment) (length (filter is_key a.secrets)) _ _ (locktime_of b.moment) (length (filter is_key b.secrets)) d.1 in
    let m = same_moments a.moment b.moment i.moment j.moment t.0 in
    let s = same_places (secrets tree) a.secrets b.secrets (in_all a.secrets (secrets tree) i.secrets) (in_all b.secrets (secrets tree) j.secrets) t.2 in
    ap (λ x. record { delay = x; moment = a.moment; secrets = a.secrets }) d.0
    ∙ ap (λ x. record { delay = b.delay; moment = x; secrets = a.secrets }) m
    ∙ ap (λ x. record { delay = b.delay; moment = b.moment; secrets = x }) s

-- ---- put in order

module _ (tree : Tree) where
  insert_step : (x y : Offer) (ys : List Offer) (b : Bool) → is_before tree x y ≡ b → insert tree x (y ∷ ys) ≡ (if b then x ∷ y ∷ ys else y ∷ insert tree x ys)
  insert_step x y ys b e = rw e refl

  in_insert : (z x : Offer) (ys : List Offer) → In z (x ∷ ys) → In z (insert tree x ys)
  in_insert z x [] h = h
  in_insert z x (y ∷ ys) h = elim (cases_Bool (is_before tree x y)) [
    | inl e ↦ subst (λ zs. In z zs) (sym (insert_step x y ys true e)) h
    | inr f ↦ subst (λ zs. In z zs) (sym (insert_step x y ys false f)) (go (in_insert z x ys) h)
  ]
    where
      go : (In z (x ∷ ys) → In z (insert tree x ys)) → In z (x ∷ y ∷ ys) → In z (y ∷ insert tree x ys)
      go rest (inl e) = inr (rest (inl e))
      go rest (inr (inl e)) = inl e
      go rest (inr (inr h)) = inr (rest (inr h))

  of_insert : (z x : Offer) (ys : List Offer) → In z (insert tree x ys) → In z (x ∷ ys)
  of_insert z x [] h = h
  of_insert z x (y ∷ ys) h = elim (cases_Bool (is_before tree x y)) [
    | inl e ↦ subst (λ zs. In z zs) (insert_step x y ys true e) h
    | inr f ↦ go (of_insert z x ys) (subst (λ zs. In z zs) (insert_step x y ys false f) h)
  ]
    where
      go : (In z (insert tree x ys) → In z (x ∷ ys)) → In z (y ∷ insert tree x ys) → In z (x ∷ y ∷ ys)
      go rest (inl e) = inr (inl e)
      go rest (inr h) = elim (rest h) [ inl e ↦ inl e | inr i ↦ inr (inr i) ]

  pub in_ordered : (z : Offer) (xs : List Offer) → In z xs → In z (in_order tree xs)
  in_ordered z [] h = h
  in_ordered z (x ∷ xs) (inl e) = in_insert z x (in_order tree xs) (inl e)
  in_ordered z (x ∷ xs) (inr h) = in_insert z x (in_order tree xs) (inr (in_ordered z xs h))

  pub of_ordered : (z : Offer) (xs : List Offer) → In z (in_order tree xs) → In z xs
  of_ordered z [] h = h
  of_ordered z (x ∷ xs) h = elim (of_insert z x (in_order tree xs) h) [ inl e ↦ inl e | inr i ↦ inr (of_ordered z xs i) ]

  -- of two different ones one is before the other
  pub other_before : (x y : Offer) → IsOffer tree x → IsOffer tree y → (x ≡ y → ⊥) → is_before tree x y ≡ false → is_before tree y x ≡ true
  other_before x y i j differ f = elim (one_less (numbers tree x) (numbers tree y)) [
    | inl l ↦ absurd (false≢true (sym f ∙ l))
    | inr r ↦ elim r [ inl e ↦ absurd (differ (same_numbers tree x y i j e)) | inr l ↦ l ]
  ]

  sorted_insert : (x : Offer) (ys : List Offer) → IsOffer tree x → ((y : Offer) → In y ys → IsOffer tree y) → (In x ys → ⊥) →
      IsSorted (is_before tree) ys → IsSorted (is_before tree) (insert tree x ys)
  sorted_insert x [] i are new s = ((λ y h. absurd h), tt)
  sorted_insert x (y ∷ ys) i are new s = elim (cases_Bool (is_before tree x y)) [
    | inl e ↦ subst (IsSorted (is_before tree)) (sym (insert_step x y ys true e)) (
      (λ z h. elim h [
        | inl same ↦ subst (λ w. is_before tree x w ≡ true) (sym same) e
        | inr k ↦ through (numbers tree x) (numbers tree y) (numbers tree z) e (s.0 z k)
      ]),
      s,
    )
    | inr f ↦ subst (IsSorted (is_before tree)) (sym (insert_step x y ys false f)) (
      (λ z h. elim (of_insert z x ys h) [
        | inl same ↦ subst (λ w. is_before tree y w ≡ true) (sym same) (other_before x y i (are y (inl refl)) (λ e. new (inl e)) f)
        | inr k ↦ s.0 z k
      ]),
      sorted_insert x ys i (λ z h. are z (inr h)) (λ h. new (inr h)) s.1,
    )
  ]

  pub sorted_order : (xs : List Offer) → ((x : Offer) → In x xs → IsOffer tree x) → AreOnce xs → IsSorted (is_before tree) (in_order tree xs)
  sorted_order [] are o = tt
  sorted_order (x ∷ xs) are o =
      sorted_insert x (in_order tree xs) (are x (inl refl)) (λ y h. are y (inr (of_ordered y xs h)))
      (λ h. o.0 (of_ordered x xs h)) (sorted_order xs (λ y h. are y (inr h)) o.1)
