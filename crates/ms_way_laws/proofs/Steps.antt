-- What is given just below: the locks in order, and known hash values.
use Rattle.std.proofs.Common.{◌≡◌, ◌⊎◌, inl, inr, ℕ, Bool, true, false, not, ◌&&◌, List, [], ◌∷◌, ◌++◌, Option, Some, None, refl, sym, ◌∙◌, ap, subst, arith, if◌then◌else◌}
use Rattle.std.proofs.lemmas.Bool.{cases_Bool, false≢true, and_parts, and_from}
use Rattle.std.proofs.lemmas.Bool.Decides.{nat_tests}
use Rattle.def_policy.specs.Policy.{Policy}
use Rattle.def_policy.specs.Size.{HasLocks}
use Rattle.def_ways.specs.declared.Delay.{Delay}
use Rattle.def_ways.specs.declared.Delay.TheVariants.{Blocks, Units}
use Rattle.def_ways.specs.declared.Moment.{Moment}
use Rattle.def_ways.specs.declared.Moment.TheVariants.{Height, Time}
use Rattle.def_ways.specs.Secret.{Secret}
use Rattle.def_ways.specs.Offer.{AreSomeOf, locktime_of, no_later, no_later_moment}
use Rattle.def_ways.specs.Order.{delay_numbers, is_less}
use Rattle.def_ways.specs.Tried.{or_none}
use Rattle.def_ways.specs.Bound.{delays, moments}
use Rattle.ms_way_laws.specs.Listed.{In, AreOnce}
use Rattle.ms_way_laws.specs.Reckoned.{knowns, put, sorted, delays_in_order, moments_in_order, last_that, later_or, without_one}
use Rattle.ms_way_laws.proofs.Lists.{in_map, of_map, in_each, of_each, in_some, some_apart, some_same}
use Rattle.ms_way_laws.proofs.SomeOf.{refused, some_later}
use Rattle.ms_way_laws.proofs.NoLater.{AreLocks}
use Rattle.ms_way_laws.proofs.Lowered.{once_delays, once_moments, moment_range}
use Rattle.ms_way_laws.proofs.Sorted.{IsSorted, through, one_less, same_delays, same_moments}
use Rattle.ms_way_laws.proofs.Parts.{same_head}

-- ---- sorted by numbers

module _ {A : Type 0} (numbers : A → List ℕ) where
  abbrev pub before : A → A → Bool
  before x y = is_less (numbers x) (numbers y)

  put_step : (x y : A) (ys : List A) (b : Bool) → before x y ≡ b → put numbers x (y ∷ ys) ≡ (if b then x ∷ y ∷ ys else y ∷ put numbers x ys)
  put_step x y ys b e = rw e refl

  in_put : (z x : A) (ys : List A) → In z (x ∷ ys) → In z (put numbers x ys)
  in_put z x [] h = h
  in_put z x (y ∷ ys) h = elim (cases_Bool (before x y)) [
    | inl e ↦ subst (λ zs. In z zs) (sym (put_step x y ys true e)) h
    | inr f ↦ subst (λ zs. In z zs) (sym (put_step x y ys false f)) (go (in_put z x ys) h)
  ]
    where
      go : (In z (x ∷ ys) → In z (put numbers x ys)) → In z (x ∷ y ∷ ys) → In z (y ∷ put numbers x ys)
      go rest (inl e) = inr (rest (inl e))
      go rest (inr (inl e)) = inl e
      go rest (inr (inr h)) = inr (rest (inr h))

  of_put : (z x : A) (ys : List A) → In z (put numbers x ys) → In z (x ∷ ys)
  of_put z x [] h = h
  of_put z x (y ∷ ys) h = elim (cases_Bool (before x y)) [
    | inl e ↦ subst (λ zs. In z zs) (put_step x y ys true e) h
    | inr f ↦ go (of_put z x ys) (subst (λ zs. In z zs) (put_step x y ys false f) h)
  ]
    where
      go : (In z (put numbers x ys) → In z (x ∷ ys)) → In z (y ∷ put numbers x ys) → In z (x ∷ y ∷ ys)
      go rest (inl e) = inr (inl e)
      go rest (inr h) = elim (rest h) [ inl e ↦ inl e | inr i ↦ inr (inr i) ]

  pub in_sorted : (z : A) (xs : List A) → In z xs → In z (sorted numbers xs)
  in_sorted z [] h = h
  in_sorted z (x ∷ xs) (inl e) = in_put z x (sorted numbers xs) (inl e)
  in_sorted z (x ∷ xs) (inr h) = in_put z x (sorted numbers xs) (inr (in_sorted z xs h))

  pub of_sorted : (z : A) (xs : List A) → In z (sorted numbers xs) → In z xs
  of_sorted z [] h = h
  of_sorted z (x ∷ xs) h = elim (of_put z x (sorted numbers xs) h) [ inl e ↦ inl e | inr i ↦ inr (of_sorted z xs i) ]

  -- different ones have different numbers
  abbrev pub AreApart : List A → Type 0
  AreApart xs = (x y : A) → In x xs → In y xs → numbers x ≡ numbers y → x ≡ y

  sorted_put : (x : A) (ys : List A) → AreApart (x ∷ ys) → (In x ys → ⊥) → IsSorted before ys → IsSorted before (put numbers x ys)
  sorted_put x [] apart new s = ((λ y h. absurd h), tt)
  sorted_put x (y ∷ ys) apart new s = elim (cases_Bool (before x y)) [
    | inl e ↦ subst (IsSorted before) (sym (put_step x y ys true e)) (
      (λ z h. elim h [
        | inl same ↦ subst (λ w. before x w ≡ true) (sym same) e
        | inr k ↦ through (numbers x) (numbers y) (numbers z) e (s.0 z k)
      ]),
      s,
    )
    | inr f ↦ subst (IsSorted before) (sym (put_step x y ys false f)) (
      (λ z h. elim (of_put z x ys h) [
        | inl same ↦ subst (λ w. before y w ≡ true) (sym same) (other f)
        | inr k ↦ s.0 z k
      ]),
      sorted_put x ys (λ a b i j. apart a b (skip a i) (skip b j)) (λ h. new (inr h)) s.1,
    )
  ]
    where
      skip : (a : A) → In a (x ∷ ys) → In a (x ∷ y ∷ ys)
      skip a (inl e) = inl e
      skip a (inr h) = inr (inr h)

      other : before x y ≡ false → before y x ≡ true
      other f = elim (one_less (numbers x) (numbers y)) [
        | inl l ↦ absurd (false≢true (sym f ∙ l))
        | inr r ↦ elim r [ inl e ↦ absurd (new (inl (apart x y (inl refl) (inr (inl refl)) e))) | inr l ↦ l ]
      ]

  pub sorted_is : (xs : List A) → AreApart xs → AreOnce xs → IsSorted before (sorted numbers xs)
  sorted_is [] apart o = tt
  sorted_is (x ∷ xs) apart o =
      sorted_put x (sorted numbers xs) (λ a b i j. apart a b (back a i) (back b j)) (λ h. o.0 (of_sorted x xs h))
      (sorted_is xs (λ a b i j. apart a b (inr i) (inr j)) o.1)
    where
      back : (a : A) → In a (x ∷ sorted numbers xs) → In a (x ∷ xs)
      back a (inl e) = inl e
      back a (inr h) = inr (of_sorted a xs h)

-- ---- the last that passes

module _ {A : Type 0} (test : A → Bool) where
  -- it passes, and all that pass are it or stand before it; or none passes
  abbrev pub IsLast : (before : A → A → Bool) → List A → Option A → Type 0
  IsLast before xs None = (y : A) → In y xs → test y ≡ false
  IsLast before xs (Some x) = In x xs × (test x ≡ true) × ((y : A) → In y xs → test y ≡ true → (y ≡ x) ⊎ (before y x ≡ true))

  pub last_is : (before : A → A → Bool) (xs : List A) → IsSorted before xs → IsLast before xs (last_that test xs)
  last_is before [] s = λ y h. absurd h
  last_is before (x ∷ xs) s = go (last_that test xs) (last_is before xs s.1) (test x) refl
    where
      go : (o : Option A) → IsLast before xs o → (b : Bool) → test x ≡ b → IsLast before (x ∷ xs) (later_or o (if b then Some x else None))
      go (Some z) is b e = (
        inr is.0,
        is.1,
        (λ y h p. elim h [ inl same ↦ inr (subst (λ w. before w z ≡ true) (sym same) (s.0 z is.0)) | inr i ↦ is.2 y i p ]),
      )
      go None is true e = (
        inl refl,
        e,
        (λ y h p. elim h [ inl same ↦ inl same | inr i ↦ absurd (false≢true (sym (is y i) ∙ p)) ]),
      )
      go None is false e = λ y h. elim h [ inl same ↦ subst (λ w. test w ≡ false) (sym same) e | inr i ↦ is y i ]

-- ---- the locks of a policy in order

number_apart : (x y : ℕ) → x ∷ [] ≡ y ∷ [] → x ≡ y
number_apart x y e = same_head y x [] [] e

module _ (p : Policy) (locks : HasLocks p) where
  pub delays_sorted : IsSorted (before (λ d. delay_numbers (Some d))) (delays_in_order p)
  delays_sorted = sorted_is (λ d. delay_numbers (Some d)) (delays p)
      (λ x y i j e. some_same x y (same_delays (Some x) (Some y) [] [] (ap (λ ns. ns ++ []) e)).0) (once_delays p locks)

  pub moments_sorted : IsSorted (before (λ m. locktime_of (Some m) ∷ [])) (moments_in_order p)
  moments_sorted = sorted_is (λ m. locktime_of (Some m) ∷ []) (moments p)
      (λ x y i j e.
      some_same x y (same_moments (Some x) (Some y) (moment_range p locks (Some x) (in_some x (moments p) i)) (moment_range p locks (Some y) (in_some y (moments p) j))
      (number_apart (locktime_of (Some x)) (locktime_of (Some y)) e))) (once_moments p locks)

-- of two locks of one unit the one that stands before is no later
pub before_no_later : (x y d : Delay) → no_later (Some x) (Some d) ≡ true → no_later (Some y) (Some d) ≡ true →
    is_less (delay_numbers (Some x)) (delay_numbers (Some y)) ≡ true → no_later (Some x) (Some y) ≡ true
before_no_later (Blocks n) (Blocks m) d h k l = grind (arith, nat_tests)
before_no_later (Units n) (Units m) d h k l = grind (arith, nat_tests)
before_no_later (Blocks n) (Units m) (Blocks i) h k l = absurd (false≢true k)
before_no_later (Blocks n) (Units m) (Units i) h k l = absurd (false≢true h)
before_no_later (Units n) (Blocks m) (Blocks i) h k l = absurd (false≢true h)
before_no_later (Units n) (Blocks m) (Units i) h k l = absurd (false≢true k)

pub before_no_later_moment : (x y d : Moment) → no_later_moment (Some x) (Some d) ≡ true → no_later_moment (Some y) (Some d) ≡ true →
    is_less (locktime_of (Some x) ∷ []) (locktime_of (Some y) ∷ []) ≡ true → no_later_moment (Some x) (Some y) ≡ true
before_no_later_moment (Height n) (Height m) d h k l = grind (arith, nat_tests)
before_no_later_moment (Time n) (Time m) d h k l = grind (arith, nat_tests)
before_no_later_moment (Height n) (Time m) (Height i) h k l = absurd (false≢true k)
before_no_later_moment (Height n) (Time m) (Time i) h k l = absurd (false≢true h)
before_no_later_moment (Time n) (Height m) (Height i) h k l = absurd (false≢true h)
before_no_later_moment (Time n) (Height m) (Time i) h k l = absurd (false≢true k)

-- ---- a lock one step lower

module _ {X : Type 0} (no_later_of : Option X → Option X → Bool) (are : AreLocks X no_later_of) (same_of : X → X → Bool)
    (same_own : (x : X) → same_of x x ≡ true) (same_is : (x y : X) → same_of x y ≡ true → x ≡ y)
    (before_of : X → X → Bool)
    (before_is : (x y d : X) → no_later_of (Some x) (Some d) ≡ true → no_later_of (Some y) (Some d) ≡ true → before_of x y ≡ true → no_later_of (Some x) (Some y) ≡ true)
    (xs : List X) (sorted_by : IsSorted before_of xs) where
  abbrev lower_of : X → X → Bool
  lower_of x d = no_later_of (Some x) (Some d) && not (same_of x d)

  abbrev step : X → Option X
  step d = last_that (λ x. lower_of x d) xs

  pub record IsStep (d : X) (l : Option X) : Type 0 where
    pub listed : In l (or_none xs)
    pub lower : no_later_of l (Some d) ≡ true
    pub other : l ≡ Some d → ⊥
    pub greatest : (x : X) → In x xs → no_later_of (Some x) (Some d) ≡ true → (x ≡ d → ⊥) → no_later_of (Some x) l ≡ true

  strictly : (x d : X) → no_later_of (Some x) (Some d) ≡ true → (x ≡ d → ⊥) → lower_of x d ≡ true
  strictly x d h differ =
      and_from (no_later_of (Some x) (Some d)) (not (same_of x d)) h (ap not (refused (same_of x d) (λ e. differ (same_is x d e))))

  pub is_step : (d : X) → IsStep d (step d)
  is_step d = go (step d) (last_is (λ x. lower_of x d) before_of xs sorted_by)
    where
      go : (l : Option X) → IsLast (λ x. lower_of x d) before_of xs l → IsStep d l
      go None is = record {
        listed = inl refl;
        lower = are.none_first (Some d);
        other = some_apart d;
        greatest = λ x h k differ. absurd (false≢true (sym (is x h) ∙ strictly x d k differ));
      }
      go (Some l) is =
          let low = and_parts (no_later_of (Some l) (Some d)) (not (same_of l d)) is.1 in
          record {
            listed = in_some l xs is.0;
            lower = low.0;
            other = λ e. false≢true (sym (ap not (subst (λ x. same_of x d ≡ true) (sym (some_same l d e)) (same_own d))) ∙ low.1);
            greatest = λ x h k differ. elim (is.2 x h (strictly x d k differ)) [
              | inl same ↦ subst (λ y. no_later_of (Some y) (Some l) ≡ true) (sym same) (are.own (Some l))
              | inr b ↦ before_is x l d k low.0 b
            ];
          }

  module _ (lowers : Option X → List (Option X)) (at_none : lowers None ≡ []) (at_some : (d : X) → lowers (Some d) ≡ step d ∷ []) where
    pub lowers_are : (d l : Option X) → In l (lowers d) → In l (or_none xs) × (no_later_of l d ≡ true) × (l ≡ d → ⊥)
    lowers_are None l h = absurd (subst (λ ls. In l ls) at_none h)
    lowers_are (Some d) l h = elim (subst (λ ls. In l ls) (at_some d) h) [
      | inl e ↦
          let is = is_step d in (
            subst (λ o. In o (or_none xs)) (sym e) is.listed,
            subst (λ o. no_later_of o (Some d) ≡ true) (sym e) is.lower,
            (λ same. is.other (sym e ∙ same)),
          )
      | inr i ↦ absurd i
    ]

    pub one_step : (g d : Option X) → In g (or_none xs) → no_later_of g d ≡ true →
        (g ≡ d) ⊎ ((l : Option X) × In l (lowers d) × (no_later_of g l ≡ true))
    one_step g None i h = inl (are.both_ways g None h (are.none_first g))
    one_step g (Some d) i h = elim (cases_Bool (no_later_of (Some d) g)) [
      | inl e ↦ inl (are.both_ways g (Some d) h e)
      | inr f ↦ inr (
        step d,
        subst (λ ls. In (step d) ls) (sym (at_some d)) (inl refl),
        elim i [
          | inl e ↦ subst (λ o. no_later_of o (step d) ≡ true) (sym e) (are.none_first (step d))
          | inr j ↦
              let m = of_map (λ x. Some x) g xs j in
              subst (λ o. no_later_of o (step d) ≡ true) (sym m.is)
              ((is_step d).greatest m.source m.listed (subst (λ o. no_later_of o (Some d) ≡ true) m.is h)
              (λ same. false≢true (sym f ∙ subst (λ o. no_later_of (Some d) o ≡ true) (sym (m.is ∙ ap (λ x. Some x) same)) (are.own (Some d)))))
        ],
      )
    ]

-- ---- known hash values

pub known_some : (all known : List Secret) → In known (knowns all) → AreSomeOf known all
known_some [] known (inl e) = subst (λ ss. AreSomeOf ss []) (sym e) tt
known_some [] known (inr h) = absurd h
known_some (x ∷ all) known h =
    let m = of_each (λ known. known ∷ (x ∷ known) ∷ []) known (knowns all) h in
    let rest = known_some all m.maker m.listed in
    elim m.made [
      | inl e ↦ some_later known all x (subst (λ ss. AreSomeOf ss all) (sym e) rest)
      | inr r ↦ elim r [
        | inl e ↦ subst (λ ss. AreSomeOf ss (x ∷ all)) (sym e) (inl (refl, rest))
        | inr i ↦ absurd i
      ]
    ]

pub some_known : (all known : List Secret) → AreSomeOf known all → In known (knowns all)
some_known [] [] are = inl refl
some_known [] (x ∷ known) are = absurd are
some_known (y ∷ all) [] are = in_each (λ known. known ∷ (y ∷ known) ∷ []) [] [] (knowns all) (some_known all [] tt) (inl refl)
some_known (y ∷ all) (x ∷ known) (inl a) =
    in_each (λ known. known ∷ (y ∷ known) ∷ []) known (x ∷ known) (knowns all) (some_known all known a.1) (inr (inl (ap (λ z. z ∷ known) a.0)))
some_known (y ∷ all) (x ∷ known) (inr a) =
    in_each (λ known. known ∷ (y ∷ known) ∷ []) (x ∷ known) (x ∷ known) (knowns all) (some_known all (x ∷ known) a) (inl refl)

-- with one less: no others, and not that one
pub record IsOneLess (xs ys : List Secret) : Type 0 where
  pub gone : Secret
  pub there : In gone xs
  pub away : In gone ys → ⊥
  pub fewer : (s : Secret) → In s ys → In s xs

pub one_less_is : (xs ys : List Secret) → AreOnce xs → In ys (without_one xs) → IsOneLess xs ys
one_less_is [] ys o h = absurd h
one_less_is (x ∷ xs) ys o (inl e) = record {
  gone = x;
  there = inl refl;
  away = λ i. o.0 (subst (λ zs. In x zs) e i);
  fewer = λ s i. inr (subst (λ zs. In s zs) e i);
}
one_less_is (x ∷ xs) ys o (inr h) =
    let m = of_map (λ others. x ∷ others) ys (without_one xs) h in
    let r = one_less_is xs m.source o.1 m.listed in
    record {
      gone = r.gone;
      there = inr r.there;
      away = λ i. elim (subst (λ zs. In r.gone zs) m.is i) [
        | inl e ↦ o.0 (subst (λ z. In z xs) e r.there)
        | inr j ↦ r.away j
      ];
      fewer = λ s i. elim (subst (λ zs. In s zs) m.is i) [ inl e ↦ inl e | inr j ↦ inr (r.fewer s j) ];
    }

-- each of them can be left out, and all others stay
pub left_out : (xs : List Secret) (s : Secret) → In s xs →
    (ys : List Secret) × In ys (without_one xs) × ((t : Secret) → In t xs → (t ≡ s → ⊥) → In t ys)
left_out [] s h = absurd h
left_out (x ∷ xs) s (inl e) = (xs, inl refl, λ t i differ. elim i [ inl f ↦ absurd (differ (f ∙ sym e)) | inr j ↦ j ])
left_out (x ∷ xs) s (inr h) =
    let r = left_out xs s h in
    (x ∷ r.0, inr (in_map (λ others. x ∷ others) r.0 (without_one xs) r.1), λ t i differ. elim i [ inl f ↦ inl f | inr j ↦ inr (r.2 t j differ) ])
