-- What is reckoned is the list of all ways, in order.
use Rattle.std.proofs.Common.{◌≡◌, ◌⊎◌, inl, inr, ℕ, zero, suc, ◌+◌, ◌*◌, ◌<◌, ◌≤◌, ◌==◌, nat_lt, Bool, true, false, ◌&&◌, ◌||◌, List, [], ◌∷◌, ◌++◌, length, map, filter, flat_map, Option, Some, None, refl, sym, ◌∙◌, ap, subst, arith, if◌then◌else◌}
use Rattle.std.proofs.lemmas.Bool.{cases_Bool, false≢true}
use Rattle.std.proofs.lemmas.Bool.Decides.{nat_tests}
use Rattle.def_tree.specs.Tree.{Tree, Key}
use Rattle.def_policy.specs.Policy as policy
use Rattle.def_policy.specs.Policy.{Policy, Policies, never, always, older, after, hash, all, any, thresh, none, more}
use Rattle.def_policy.specs.Size.{HasLocks}
use Rattle.def_ways.specs.declared.Delay.{Delay}
use Rattle.def_ways.specs.declared.Delay.TheVariants.{Blocks, Units}
use Rattle.def_ways.specs.declared.Moment.{Moment}
use Rattle.def_ways.specs.declared.Moment.TheVariants.{Height, Time}
use Rattle.def_ways.specs.Secret as secret
use Rattle.def_ways.specs.Secret.{Secret, same, named, secrets}
use Rattle.def_ways.specs.Offer.{Offer, IsOffer, IsMoment, locktime_of, has}
use Rattle.def_ways.specs.Enough.{policy_of}
use Rattle.def_ways.specs.Order.{delay_numbers, place, is_key, numbers, is_less, is_before}
use Rattle.def_ways.specs.Way.{IsWay, AreWays}
use Rattle.def_ways.specs.Tried.{or_none, ways}
use Rattle.def_ways.specs.Bound.{moments}
use Rattle.ms_way_laws.specs.Listed.{In, AreOnce}
use Rattle.ms_way_laws.specs.Settled.{Choice, Choices, leaf, node, ended, next, is_taken}
use Rattle.ms_way_laws.specs.Leasts.{leasts}
use Rattle.ms_way_laws.specs.Reckoned.{Given, setting_of, knowns, delays_in_order, moments_in_order, when, taken, taken_of, keys_in, is_fresh, fresh, fresh_with, offer_of, merge_before, merge, merged, ways_given, reckoned_with, numbers_from, reckoned, secrets_in, times, IsSettled, IsSettledInOrder}
use Rattle.ms_way_laws.proofs.Lists.{filter_step, in_filter, of_filter, once_filter, in_map, of_map, in_each, of_each}
use Rattle.ms_way_laws.proofs.SomeOf.{in_has, has_in, agree, refused, in_all, same_some}
use Rattle.ms_way_laws.proofs.Lowered.{moment_range}
use Rattle.ms_way_laws.proofs.Sorted.{IsSorted, all_pairs, through, less_of, less_behind, other_before}
use Rattle.ms_way_laws.proofs.SameTruth.{same_own}
use Rattle.ms_way_laws.proofs.OneList.{in_of, contains_of, one_way, one_list_of_ways}
use Rattle.ms_way_laws.proofs.Tried.{tried_are_ways, once_secrets}
use Rattle.ms_way_laws.proofs.OfTree.{Picked, done, with, without}
use Rattle.ms_way_laws.proofs.Named.{times_picked}
use Rattle.ms_way_laws.proofs.Picked.{asked, picked, picked_of, secrets_of, joined_secrets, taken_in, in_times, asks, ask}
use Rattle.ms_way_laws.proofs.Steps.{before, of_sorted, delays_sorted, moments_sorted, known_some, some_known}
use Rattle.ms_way_laws.proofs.Reckoned.{keys_asked, own, least_of_fresh, least_unsettled, in_offer, of_offer, IsGiven, fresh_is_way, way_is_found}
use Rattle.ms_way_laws.proofs.Total.{same_length, once_knowns, known_same}
use Rattle.ms_way_laws.proofs.Flags.{precedes, flags, flags_of, by_flags, sorted_map, sorted_each, sorted_leasts}
use Rattle.ms_way_laws.proofs.Places.{map_same, IsFlagged, extend, of_firsts_too, with_others, less_numbers, rising_places}

-- ---- the numbers of offers

two_less : (a b c d : ℕ) (r s : List ℕ) → is_less (a ∷ b ∷ []) (c ∷ d ∷ []) ≡ true → is_less (a ∷ b ∷ r) (c ∷ d ∷ s) ≡ true
two_less a b c d r s h = step a b c d (is_less r s) h
  where
    step : (a b c d : ℕ) (q : Bool) → (nat_lt a c || (a == c && (nat_lt b d || (b == d && false)))) ≡ true →
        (nat_lt a c || (a == c && (nat_lt b d || (b == d && q)))) ≡ true
    step a b c d q h = grind (arith, nat_tests)

delay_before : (d e : Option Delay) (r s : List ℕ) → is_less (delay_numbers d) (delay_numbers e) ≡ true → is_less (delay_numbers d ++ r) (delay_numbers e ++ s) ≡ true
delay_before None None r s h = two_less 0 0 0 0 r s h
delay_before None (Some (Blocks m)) r s h = two_less 0 0 (600 * m + 1) 0 r s h
delay_before None (Some (Units m)) r s h = two_less 0 0 (512 * m + 1) 1 r s h
delay_before (Some (Blocks n)) None r s h = two_less (600 * n + 1) 0 0 0 r s h
delay_before (Some (Blocks n)) (Some (Blocks m)) r s h = two_less (600 * n + 1) 0 (600 * m + 1) 0 r s h
delay_before (Some (Blocks n)) (Some (Units m)) r s h = two_less (600 * n + 1) 0 (512 * m + 1) 1 r s h
delay_before (Some (Units n)) None r s h = two_less (512 * n + 1) 1 0 0 r s h
delay_before (Some (Units n)) (Some (Blocks m)) r s h = two_less (512 * n + 1) 1 (600 * m + 1) 0 r s h
delay_before (Some (Units n)) (Some (Units m)) r s h = two_less (512 * n + 1) 1 (512 * m + 1) 1 r s h

delay_behind : (d : Option Delay) (r s : List ℕ) → is_less r s ≡ true → is_less (delay_numbers d ++ r) (delay_numbers d ++ s) ≡ true
delay_behind None r s h = less_behind 0 (0 ∷ r) (0 ∷ s) (less_behind 0 r s h)
delay_behind (Some (Blocks n)) r s h = less_behind (600 * n + 1) (0 ∷ r) (0 ∷ s) (less_behind 0 r s h)
delay_behind (Some (Units n)) r s h = less_behind (512 * n + 1) (1 ∷ r) (1 ∷ s) (less_behind 1 r s h)

module _ (tree : Tree) where
  abbrev keys_of : Offer → ℕ
  keys_of o = length (filter is_key o.secrets)

  abbrev places_of : Offer → List ℕ
  places_of o = map (λ secret. place secret (secrets tree)) o.secrets

  abbrev rest_of : Offer → List ℕ
  rest_of o = locktime_of o.moment ∷ keys_of o ∷ places_of o

  by_delay : (a b : Offer) → is_less (delay_numbers a.delay) (delay_numbers b.delay) ≡ true → is_before tree a b ≡ true
  by_delay a b h = delay_before a.delay b.delay (rest_of a) (rest_of b) h

  by_rest : (a b : Offer) → a.delay ≡ b.delay → is_less (rest_of a) (rest_of b) ≡ true → is_before tree a b ≡ true
  by_rest a b d h = subst (λ e. is_less (delay_numbers a.delay ++ rest_of a) (delay_numbers e ++ rest_of b) ≡ true) d (delay_behind a.delay (rest_of a) (rest_of b) h)

  by_moment : (a b : Offer) → a.delay ≡ b.delay → locktime_of a.moment < locktime_of b.moment → is_before tree a b ≡ true
  by_moment a b d h = by_rest a b d (less_of (locktime_of a.moment) (locktime_of b.moment) (keys_of a ∷ places_of a) (keys_of b ∷ places_of b) h)

  by_keys : (a b : Offer) → a.delay ≡ b.delay → a.moment ≡ b.moment → keys_of a < keys_of b → is_before tree a b ≡ true
  by_keys a b d m h =
      by_rest a b d (subst (λ n. is_less (locktime_of a.moment ∷ keys_of a ∷ places_of a) (n ∷ keys_of b ∷ places_of b) ≡ true) (ap locktime_of m)
      (less_behind (locktime_of a.moment) (keys_of a ∷ places_of a) (keys_of b ∷ places_of b) (less_of (keys_of a) (keys_of b) (places_of a) (places_of b) h)))

  by_places : (a b : Offer) → a.delay ≡ b.delay → a.moment ≡ b.moment → keys_of a ≡ keys_of b → is_less (places_of a) (places_of b) ≡ true → is_before tree a b ≡ true
  by_places a b d m k h =
      by_rest a b d (subst (λ n. is_less (locktime_of a.moment ∷ keys_of a ∷ places_of a) (n ∷ keys_of b ∷ places_of b) ≡ true) (ap locktime_of m)
      (less_behind (locktime_of a.moment) (keys_of a ∷ places_of a) (keys_of b ∷ places_of b)
      (subst (λ n. is_less (keys_of a ∷ places_of a) (n ∷ places_of b) ≡ true) k (less_behind (keys_of a) (places_of a) (places_of b) h))))

  -- ---- merged lists

  merge_step : (x : Offer) (rest : List Offer → List Offer) (y : Offer) (ys : List Offer) (b : Bool) → is_before tree x y ≡ b →
      merge_before tree x rest (y ∷ ys) ≡ (if b then x ∷ rest (y ∷ ys) else y ∷ merge_before tree x rest ys)
  merge_step x rest y ys b e = rw e refl

  of_merge_before : (z x : Offer) (xs ys : List Offer) → ((ys : List Offer) → In z (merge tree xs ys) → In z xs ⊎ In z ys) →
      In z (merge_before tree x (merge tree xs) ys) → In z (x ∷ xs) ⊎ In z ys
  of_merge_before z x xs [] ih (inl e) = inl (inl e)
  of_merge_before z x xs [] ih (inr h) = elim (ih [] h) [ inl i ↦ inl (inr i) | inr j ↦ inr j ]
  of_merge_before z x xs (y ∷ ys) ih h = elim (cases_Bool (is_before tree x y)) [
    | inl e ↦ elim (subst (λ zs. In z zs) (merge_step x (merge tree xs) y ys true e) h) [
      | inl same ↦ inl (inl same)
      | inr i ↦ elim (ih (y ∷ ys) i) [ inl j ↦ inl (inr j) | inr j ↦ inr j ]
    ]
    | inr f ↦ elim (subst (λ zs. In z zs) (merge_step x (merge tree xs) y ys false f) h) [
      | inl same ↦ inr (inl same)
      | inr i ↦ elim (of_merge_before z x xs ys ih i) [ inl j ↦ inl j | inr j ↦ inr (inr j) ]
    ]
  ]

  of_merge : (z : Offer) (xs ys : List Offer) → In z (merge tree xs ys) → In z xs ⊎ In z ys
  of_merge z [] ys h = inr h
  of_merge z (x ∷ xs) ys h = of_merge_before z x xs ys (λ ys. of_merge z xs ys) h

  in_merge_before : (z x : Offer) (xs ys : List Offer) → ((ys : List Offer) → In z xs ⊎ In z ys → In z (merge tree xs ys)) →
      In z (x ∷ xs) ⊎ In z ys → In z (merge_before tree x (merge tree xs) ys)
  in_merge_before z x xs [] ih (inl (inl e)) = inl e
  in_merge_before z x xs [] ih (inl (inr i)) = inr (ih [] (inl i))
  in_merge_before z x xs [] ih (inr j) = absurd j
  in_merge_before z x xs (y ∷ ys) ih h = elim (cases_Bool (is_before tree x y)) [
    | inl e ↦ subst (λ zs. In z zs) (sym (merge_step x (merge tree xs) y ys true e)) (elim h [
      | inl l ↦ elim l [ inl same ↦ inl same | inr i ↦ inr (ih (y ∷ ys) (inl i)) ]
      | inr j ↦ inr (ih (y ∷ ys) (inr j))
    ])
    | inr f ↦ subst (λ zs. In z zs) (sym (merge_step x (merge tree xs) y ys false f)) (elim h [
      | inl l ↦ inr (in_merge_before z x xs ys ih (inl l))
      | inr j ↦ elim j [ inl same ↦ inl same | inr k ↦ inr (in_merge_before z x xs ys ih (inr k)) ]
    ])
  ]

  in_merge : (z : Offer) (xs ys : List Offer) → In z xs ⊎ In z ys → In z (merge tree xs ys)
  in_merge z [] ys (inl h) = absurd h
  in_merge z [] ys (inr h) = h
  in_merge z (x ∷ xs) ys h = in_merge_before z x xs ys (λ ys. in_merge z xs ys) h

  abbrev AreOffers : List Offer → Type 0
  AreOffers xs = (x : Offer) → In x xs → IsOffer tree x

  abbrev AreOthers : List Offer → List Offer → Type 0
  AreOthers xs ys = (x : Offer) → In x xs → In x ys → ⊥

  sorted_merge_before : (x : Offer) (xs ys : List Offer) → AreOffers (x ∷ xs) → IsSorted (is_before tree) (x ∷ xs) → AreOffers ys → AreOthers (x ∷ xs) ys →
      IsSorted (is_before tree) ys →
      ((ys : List Offer) → AreOffers ys → AreOthers xs ys → IsSorted (is_before tree) ys → IsSorted (is_before tree) (merge tree xs ys)) →
      IsSorted (is_before tree) (merge_before tree x (merge tree xs) ys)
  sorted_merge_before x xs [] are s others apart t ih = (
    (λ z h. elim (of_merge z xs [] h) [ inl i ↦ s.0 z i | inr j ↦ absurd j ]),
    ih [] others (λ z h i. i) t,
  )
  sorted_merge_before x xs (y ∷ ys) are s others apart t ih = elim (cases_Bool (is_before tree x y)) [
    | inl e ↦ subst (IsSorted (is_before tree)) (sym (merge_step x (merge tree xs) y ys true e)) (
      (λ z h. elim (of_merge z xs (y ∷ ys) h) [
        | inl i ↦ s.0 z i
        | inr j ↦ elim j [
          | inl same ↦ subst (λ w. is_before tree x w ≡ true) (sym same) e
          | inr k ↦ through (numbers tree x) (numbers tree y) (numbers tree z) e (t.0 z k)
        ]
      ]),
      ih (y ∷ ys) others (λ z h i. apart z (inr h) i) t,
    )
    | inr f ↦
        let back = other_before tree x y (are x (inl refl)) (others y (inl refl)) (λ e. apart x (inl refl) (inl e)) f in
        subst (IsSorted (is_before tree)) (sym (merge_step x (merge tree xs) y ys false f)) (
          (λ z h. elim (of_merge_before z x xs ys (λ ys. of_merge z xs ys) h) [
            | inl i ↦ elim i [
              | inl same ↦ subst (λ w. is_before tree y w ≡ true) (sym same) back
              | inr k ↦ through (numbers tree y) (numbers tree x) (numbers tree z) back (s.0 z k)
            ]
            | inr j ↦ t.0 z j
          ]),
          sorted_merge_before x xs ys are s (λ z h. others z (inr h)) (λ z h i. apart z h (inr i)) t.1 ih,
        )
  ]

  sorted_merge : (xs ys : List Offer) → AreOffers xs → IsSorted (is_before tree) xs → AreOffers ys → AreOthers xs ys → IsSorted (is_before tree) ys →
      IsSorted (is_before tree) (merge tree xs ys)
  sorted_merge [] ys are s others apart t = t
  sorted_merge (x ∷ xs) ys are s others apart t =
      sorted_merge_before x xs ys are s others apart t (λ ys. sorted_merge xs ys (λ z h. are z (inr h)) s.1)

  module _ {K : Type 0} (f : K → List Offer) where
    of_merged : (z : Offer) (so_far : List Offer) (ks : List K) → In z (merged tree so_far (map f ks)) → In z so_far ⊎ ((k : K) × In k ks × In z (f k))
    of_merged z so_far [] h = inl h
    of_merged z so_far (k ∷ ks) h = elim (of_merged z (merge tree so_far (f k)) ks h) [
      | inl i ↦ elim (of_merge z so_far (f k) i) [ inl j ↦ inl j | inr j ↦ inr (k, inl refl, j) ]
      | inr i ↦ inr (i.0, inr i.1, i.2)
    ]

    in_merged : (z : Offer) (so_far : List Offer) (ks : List K) → In z so_far ⊎ ((k : K) × In k ks × In z (f k)) → In z (merged tree so_far (map f ks))
    in_merged z so_far [] (inl h) = h
    in_merged z so_far [] (inr h) = absurd h.1
    in_merged z so_far (k ∷ ks) (inl h) = in_merged z (merge tree so_far (f k)) ks (inl (in_merge z so_far (f k) (inl h)))
    in_merged z so_far (k ∷ ks) (inr h) = elim h.1 [
      | inl same ↦ in_merged z (merge tree so_far (f k)) ks (inl (in_merge z so_far (f k) (inr (subst (λ l. In z (f l)) same h.2))))
      | inr i ↦ in_merged z (merge tree so_far (f k)) ks (inr (h.0, i, h.2))
    ]

    sorted_merged : (so_far : List Offer) (ks : List K) → AreOnce ks → ((k : K) → In k ks → AreOffers (f k)) → ((k : K) → In k ks → IsSorted (is_before tree) (f k)) →
        ((k l : K) (z : Offer) → In k ks → In l ks → In z (f k) → In z (f l) → k ≡ l) → AreOffers so_far → IsSorted (is_before tree) so_far →
        ((k : K) → In k ks → AreOthers so_far (f k)) → IsSorted (is_before tree) (merged tree so_far (map f ks))
    sorted_merged so_far [] o are sorted apart offers s others = s
    sorted_merged so_far (k ∷ ks) o are sorted apart offers s others =
        sorted_merged (merge tree so_far (f k)) ks o.1 (λ l i. are l (inr i)) (λ l i. sorted l (inr i)) (λ l m z i j. apart l m z (inr i) (inr j))
        (λ z h. elim (of_merge z so_far (f k) h) [ inl i ↦ offers z i | inr j ↦ are k (inl refl) z j ])
        (sorted_merge so_far (f k) offers s (are k (inl refl)) (others k (inl refl)) (sorted k (inl refl)))
        (λ l i z h j. elim (of_merge z so_far (f k) h) [
          | inl a ↦ others l (inr i) z a j
          | inr b ↦ o.0 (subst (λ m. In m ks) (sym (apart k l z (inl refl) (inr i) b j)) i)
        ])

-- ---- lists of numbers

of_numbers : (n first many : ℕ) → In n (numbers_from first many) → first ≤ n
of_numbers n first zero h = absurd h
of_numbers n first (suc many) (inl e) = omega (arith, e)
of_numbers n first (suc many) (inr h) = let rest = of_numbers n (first + 1) many h in omega (arith, rest)

in_numbers : (n first many : ℕ) → first ≤ n → n < first + many → In n (numbers_from first many)
in_numbers n first zero l m = absurd (omega (arith, l, m))
in_numbers n first (suc many) l m = elim (same_or_more first n l) [
  | inl e ↦ inl (sym e)
  | inr k ↦ inr (in_numbers n (first + 1) many k (omega (arith, m)))
]
  where
    same_or_more : (a b : ℕ) → a ≤ b → (a ≡ b) ⊎ (a + 1 ≤ b)
    same_or_more a b h = grind arith

lt_true : (n m : ℕ) → n < m → nat_lt n m ≡ true
lt_true n m h = grind (arith, nat_tests)

true_lt : (n m : ℕ) → nat_lt n m ≡ true → n < m
true_lt n m h = grind (arith, nat_tests)

numbers_sorted : (first many : ℕ) → IsSorted nat_lt (numbers_from first many)
numbers_sorted first zero = tt
numbers_sorted first (suc many) = (
  (λ n h. let l = of_numbers n (first + 1) many h in lt_true first n (omega (arith, l))),
  numbers_sorted (first + 1) many,
)

one_number : (x y : ℕ) → is_less (x ∷ []) (y ∷ []) ≡ true → x < y
one_number x y h = step x y h
  where
    step : (x y : ℕ) → (nat_lt x y || (x == y && false)) ≡ true → x < y
    step x y h = grind (arith, nat_tests)

none_before : (d : Delay) → is_less (0 ∷ 0 ∷ []) (delay_numbers (Some d)) ≡ true
none_before (Blocks n) = less_of 0 (600 * n + 1) (0 ∷ []) (0 ∷ []) (omega arith)
none_before (Units n) = less_of 0 (512 * n + 1) (0 ∷ []) (1 ∷ []) (omega arith)

sorted_filter : {A : Type 0} (first : A → A → Bool) (test : A → Bool) (xs : List A) → IsSorted first xs → IsSorted first (filter test xs)
sorted_filter first test [] s = tt
sorted_filter first test (x ∷ xs) s = elim (cases_Bool (test x)) [
  | inl t ↦ subst (IsSorted first) (sym (filter_step test x xs true t)) ((λ y i. s.0 y (of_filter test y xs i).0), sorted_filter first test xs s.1)
  | inr f ↦ subst (IsSorted first) (sym (filter_step test x xs false f)) (sorted_filter first test xs s.1)
]

sorted_made : {A B : Type 0} (before : B → B → Bool) (first : A → A → Bool) (f : A → B) (xs : List A) →
    ((x y : A) → In x xs → In y xs → first x y ≡ true → before (f x) (f y) ≡ true) → IsSorted first xs → IsSorted before (map f xs)
sorted_made before first f [] h s = tt
sorted_made before first f (x ∷ xs) h s = (
  (λ y i. let m = of_map f y xs i in subst (λ z. before (f x) z ≡ true) (sym m.is) (h x m.source (inl refl) (inr m.listed) (s.0 m.source m.listed))),
  sorted_made before first f xs (λ y z i j. h y z (inr i) (inr j)) s.1,
)

fewer_pass : {A : Type 0} (test : A → Bool) (xs : List A) → length (filter test xs) ≤ length xs
fewer_pass test [] = omega arith
fewer_pass test (x ∷ xs) = elim (cases_Bool (test x)) [
  | inl t ↦ subst (λ ys. length ys ≤ suc (length xs)) (sym (filter_step test x xs true t)) (let rest = fewer_pass test xs in omega (arith, rest))
  | inr f ↦ subst (λ ys. length ys ≤ suc (length xs)) (sym (filter_step test x xs false f)) (let rest = fewer_pass test xs in omega (arith, rest))
]

-- ---- what a choice takes, as some of the policy's secrets

module _ {A : Type 0} where
  none_picked : (xs : List A) → Picked [] xs
  none_picked [] = done
  none_picked (x ∷ xs) = without x [] xs (none_picked xs)

  picked_joined : (a xs b ys : List A) → Picked a xs → Picked b ys → Picked (a ++ b) (xs ++ ys)
  picked_joined a xs b ys done q = q
  picked_joined a xs b ys (with x c zs p) q = with x (c ++ b) (zs ++ ys) (picked_joined c zs b ys p q)
  picked_joined a xs b ys (without x c zs p) q = without x (a ++ b) (zs ++ ys) (picked_joined a zs b ys p q)

map_joined : {A B : Type 0} (f : A → B) (xs ys : List A) → map f (xs ++ ys) ≡ map f xs ++ map f ys
map_joined f [] ys = refl
map_joined f (x ∷ xs) ys = ap (λ zs. f x ∷ zs) (map_joined f xs ys)

when_some : (b : Bool) (s : Secret) → Picked (when b s) (s ∷ [])
when_some true s = with s [] [] done
when_some false s = without s [] [] done

mutual
  taken_some : (p : Policy) (x : Choice) → Picked (taken p x) (secrets_in p)
  taken_some never x = done
  taken_some always x = done
  taken_some (policy.key k) x = when_some (is_taken x) (secret.key k)
  taken_some (older n) x = done
  taken_some (after n) x = done
  taken_some (hash kind value) x = when_some (is_taken x) (secret.preimage kind value)
  taken_some (all ps) (node xs) = taken_some_of ps xs
  taken_some (any ps) (node xs) = taken_some_of ps xs
  taken_some (thresh k ps) (node xs) = taken_some_of ps xs
  taken_some (all ps) (leaf a) = none_picked (secrets_of ps)
  taken_some (any ps) (leaf a) = none_picked (secrets_of ps)
  taken_some (thresh k ps) (leaf a) = none_picked (secrets_of ps)

  taken_some_of : (ps : Policies) (xs : Choices) → Picked (taken_of ps xs) (secrets_of ps)
  taken_some_of none xs = done
  taken_some_of (more p ps) ended = none_picked (secrets_of (more p ps))
  taken_some_of (more p ps) (next x xs) =
      subst (λ ss. Picked (taken p x ++ taken_of ps xs) ss) (sym (joined_secrets p ps))
      (picked_joined (taken p x) (secrets_in p) (taken_of ps xs) (secrets_of ps) (taken_some p x) (taken_some_of ps xs))

-- the flags of what is picked
module _ (settled : List Secret) (f : Secret → Bool) where
  mutual
    picked_flags : (p : Policy) → flags p (picked settled f p) ≡ map (asked settled f) (secrets_in p)
    picked_flags never = refl
    picked_flags always = refl
    picked_flags (policy.key k) = refl
    picked_flags (older n) = refl
    picked_flags (after n) = refl
    picked_flags (hash kind value) = refl
    picked_flags (all ps) = picked_flags_of ps
    picked_flags (any ps) = picked_flags_of ps
    picked_flags (thresh k ps) = picked_flags_of ps

    picked_flags_of : (ps : Policies) → flags_of ps (picked_of settled f ps) ≡ map (asked settled f) (secrets_of ps)
    picked_flags_of none = refl
    picked_flags_of (more p ps) =
        ap (λ bs. bs ++ flags_of ps (picked_of settled f ps)) (picked_flags p)
        ∙ ap (λ bs. map (asked settled f) (secrets_in p) ++ bs) (picked_flags_of ps)
        ∙ sym (map_joined (asked settled f) (secrets_in p) (secrets_of ps))
        ∙ ap (map (asked settled f)) (sym (joined_secrets p ps))

-- those that pass stand once where each of them does
once_passing : (test : Secret → Bool) (xs : List Secret) → ((s : Secret) → test s ≡ true → times s xs ≤ 1) → AreOnce (filter test xs)
once_passing test [] h = tt
once_passing test (x ∷ xs) h = elim (cases_Bool (test x)) [
  | inl t ↦ subst AreOnce (sym (filter_step test x xs true t)) (
    (λ i. twice (same x x) (times x xs) (same_own x) (in_times x xs (of_filter test x xs i).0) (h x t)),
    once_passing test xs (λ s e. fewer (same s x) (times s xs) (h s e)),
  )
  | inr f ↦ subst AreOnce (sym (filter_step test x xs false f)) (once_passing test xs (λ s e. fewer (same s x) (times s xs) (h s e)))
]
  where
    twice : (b : Bool) (n : ℕ) → b ≡ true → 1 ≤ n → (if b then 1 else 0) + n ≤ 1 → ⊥
    twice b n e l m = grind arith

    fewer : (b : Bool) (n : ℕ) → (if b then 1 else 0) + n ≤ 1 → n ≤ 1
    fewer b n m = grind arith

module _ (tree : Tree) (settled : List Secret) (locks : HasLocks (policy_of tree)) (all_is : IsSettledInOrder tree settled)
    (named_in : (s : Secret) → In s (secrets_in (policy_of tree)) → In s (secrets tree))
    (keys_once : (s : Secret) → is_key s ≡ true → times s (secrets_in (policy_of tree)) ≤ 1)
    (policy_named : Picked (secrets_in (policy_of tree)) (named tree))
    (named_once : (s : Secret) → is_key s ≡ true → times s (named tree) ≤ 1) where
  abbrev p : Policy
  p = policy_of tree

  abbrev is : IsSettled tree settled
  is = all_is.values

  asks_keys : (k : Key) → has settled (secret.key k) ≡ false
  asks_keys = keys_asked tree settled locks is named_in keys_once

  -- ---- of one setting

  module _ (given : Given) (g : IsGiven tree settled locks is named_in keys_once given) where
    unsettled : (x : Choice) → In x (fresh settled p given) → (s : Secret) → In s (taken p x) → has settled s ≡ false
    unsettled x i = least_unsettled tree settled locks is named_in keys_once given x (least_of_fresh tree settled locks is named_in keys_once given x i)

    known_settled : (s : Secret) → In s given.known → In s settled
    known_settled s i = in_all given.known settled g.known s i

    -- what is known isn't taken
    known_away : (x : Choice) → In x (fresh settled p given) → (s : Secret) → has (taken p x) s ≡ true → has given.known s ≡ false
    known_away x i s e = refused (has given.known s) (λ k.
        false≢true (sym (unsettled x i s (has_in s (taken p x) e)) ∙ in_has s settled (known_settled s (has_in s given.known k))))

    asked_same : (x : Choice) → In x (fresh settled p given) → (s : Secret) → asked settled (has (taken p x)) s ≡ has (taken p x) s
    asked_same x i s = agree (asked settled (has (taken p x)) s) (has (taken p x) s)
        (λ e. (asks settled asks_keys (has (taken p x)) s e).0)
        (λ e. ask settled asks_keys (has (taken p x)) s (unsettled x i s (has_in s (taken p x) e)) e)

    its_flags : (x : Choice) → In x (fresh settled p given) → flags p x ≡ map (has (taken p x)) (secrets_in p)
    its_flags x i =
        ap (flags p) (own tree settled locks is named_in keys_once given x (least_of_fresh tree settled locks is named_in keys_once given x i))
        ∙ picked_flags settled (has (taken p x)) p
        ∙ map_same (asked settled (has (taken p x))) (has (taken p x)) (asked_same x i) (secrets_in p)

    in_policy : (x : Choice) (s : Secret) → has (taken p x) s ≡ true → In s (secrets_in p)
    in_policy x s e = taken_in p x s (has_in s (taken p x) e)

    one_place : (x : Choice) → In x (fresh settled p given) → (s : Secret) → has (taken p x) s ≡ true → times s (named tree) ≤ 1
    one_place x i s e = elim (cases_Bool (is_key s)) [
      | inl k ↦ named_once s k
      | inr k ↦ all_is.places s k (unsettled x i s (has_in s (taken p x) e)) (in_has s (secrets_in p) (in_policy x s e))
    ]

    module _ (x y : Choice) (i : In x (fresh settled p given)) (j : In y (fresh settled p given)) where
      abbrev f : Secret → Bool
      f = has (taken p x)

      abbrev h : Secret → Bool
      h = has (taken p y)

      one : (s : Secret) → IsFlagged f h s → times s (named tree) ≤ 1
      one s (inl e) = one_place x i s e
      one s (inr e) = one_place y j s e

      there : (s : Secret) → IsFlagged f h s → In s (secrets_in p)
      there s (inl e) = in_policy x s e
      there s (inr e) = in_policy y s e

      away : (s : Secret) → IsFlagged f h s → has given.known s ≡ false
      away s (inl e) = known_away x i s e
      away s (inr e) = known_away y j s e

      as_often : (s : Secret) → IsFlagged f h s → times s (secrets_in p) ≡ times s (named tree)
      as_often s e =
          let some = in_times s (secrets_in p) (there s e) in
          let few = times_picked s (secrets_in p) (named tree) policy_named in
          let most = one s e in
          omega (arith, some, few, most)

      by_their_places : by_flags (setting_of settled given) p x y ≡ true →
          is_less (places_of tree (offer_of tree given x)) (places_of tree (offer_of tree given y)) ≡ true
      by_their_places e =
          let first : precedes (map f (secrets_in p)) (map h (secrets_in p)) ≡ true =
          subst (λ bs. precedes bs (map h (secrets_in p)) ≡ true) (its_flags x i) (subst (λ bs. precedes (flags p x) bs ≡ true) (its_flags y j) e) in
          let second = extend f h (secrets_in p) (named tree) policy_named as_often first in
          let third = of_firsts_too f h (named tree) one second in
          let fourth = with_others f h (has given.known) away (secrets tree) third in
          less_numbers (λ s. has given.known s || f s) (λ s. has given.known s || h s) (λ s. place s (secrets tree)) (secrets tree)
          (rising_places (λ s. has given.known s || f s) (λ s. has given.known s || h s) (secrets tree) (once_secrets tree)) fourth

    -- the keys of an offer are those that the choice takes
    as_many_keys : (x : Choice) → In x (fresh settled p given) → keys_of tree (offer_of tree given x) ≡ keys_in p x
    as_many_keys x i =
        same_length (filter is_key (offer_of tree given x).secrets) (filter is_key (taken p x))
        (once_filter is_key (offer_of tree given x).secrets
        (once_filter (λ s. has given.known s || has (taken p x) s) (secrets tree) (once_secrets tree)))
        (once_passing is_key (taken p x) (λ s k.
        let few = times_picked s (taken p x) (secrets_in p) (taken_some p x) in
        let most = keys_once s k in
        omega (arith, few, most)))
        (λ s h. let r = of_filter is_key s (offer_of tree given x).secrets h in
        in_filter is_key s (taken p x) (elim (of_offer tree settled locks is named_in keys_once given x s r.0) [
          | inl k ↦ absurd (false≢true (sym (is.hashes s (known_settled s k)).0 ∙ r.1))
          | inr t ↦ t
        ]) r.1)
        (λ s h. let r = of_filter is_key s (taken p x) h in
        in_filter is_key s (offer_of tree given x).secrets
        (in_offer tree settled locks is named_in keys_once given x s (named_in s (taken_in p x s r.0)) (inr r.0)) r.1)

    of_fresh_with : (n : ℕ) (x : Choice) → In x (fresh_with settled p given n) → In x (fresh settled p given) × (keys_in p x ≡ n)
    of_fresh_with n x h = let r = of_filter (λ x. keys_in p x == n) x (fresh settled p given) h in (r.0, number (keys_in p x) n r.1)
      where
        number : (a b : ℕ) → (a == b) ≡ true → a ≡ b
        number a b e = grind (arith, nat_tests)

    sorted_given : (n : ℕ) → IsSorted (is_before tree) (ways_given tree settled given n)
    sorted_given n =
        sorted_made (is_before tree) (by_flags (setting_of settled given) p) (offer_of tree given) (fresh_with settled p given n)
        (λ x y i j e.
        let a = of_fresh_with n x i in
        let b = of_fresh_with n y j in
        by_places tree (offer_of tree given x) (offer_of tree given y) refl refl
        (as_many_keys x a.0 ∙ a.1 ∙ sym b.1 ∙ sym (as_many_keys y b.0))
        (by_their_places x y a.0 b.0 e))
        (sorted_filter (by_flags (setting_of settled given) p) (λ x. keys_in p x == n) (fresh settled p given)
        (sorted_filter (by_flags (setting_of settled given) p) (is_fresh settled p given) (leasts (setting_of settled given) p)
        (sorted_leasts (setting_of settled given) p)))

    pub record IsMade (n : ℕ) (o : Offer) : Type 0 where
      pub choice : Choice
      pub fresh_one : In choice (fresh settled p given)
      pub same : o ≡ offer_of tree given choice
      pub way : IsWay tree o
      pub keys : keys_of tree o ≡ n

    of_given : (n : ℕ) (o : Offer) → In o (ways_given tree settled given n) → IsMade n o
    of_given n o h =
        let m = of_map (offer_of tree given) o (fresh_with settled p given n) h in
        let x = of_fresh_with n m.source m.listed in
        record {
          choice = m.source;
          fresh_one = x.0;
          same = m.is;
          way = subst (IsWay tree) (sym m.is) (fresh_is_way tree settled locks is named_in keys_once given m.source g x.0);
          keys = ap (keys_of tree) m.is ∙ as_many_keys m.source x.0 ∙ x.1;
        }

  -- ---- of one pair of locks, and so many keys

  abbrev given_at : Option Delay → Option Moment → List Secret → Given
  given_at delay moment known = record { delay = delay; moment = moment; known = known }

  given_is : (delay : Option Delay) (moment : Option Moment) → In delay (or_none (delays_in_order p)) → In moment (or_none (moments_in_order p)) →
      (known : List Secret) → In known (knowns settled) → IsGiven tree settled locks is named_in keys_once (given_at delay moment known)
  given_is delay moment d m known k = record { delay = d; moment = m; known = known_some settled known k }

  module _ (delay : Option Delay) (moment : Option Moment) (d : In delay (or_none (delays_in_order p))) (m : In moment (or_none (moments_in_order p))) (n : ℕ) where
    abbrev of_known : List Secret → List Offer
    of_known = λ known. ways_given tree settled (given_at delay moment known) n

    made_with : (known : List Secret) (k : In known (knowns settled)) (o : Offer) → In o (of_known known) →
        IsMade (given_at delay moment known) (given_is delay moment d m known k) n o
    made_with known k o h = of_given (given_at delay moment known) (given_is delay moment d m known k) n o h

    known_one : (k l : List Secret) (o : Offer) → In k (knowns settled) → In l (knowns settled) → In o (of_known k) → In o (of_known l) → k ≡ l
    known_one k l o i j a b =
        let x = made_with k i o a in
        let y = made_with l j o b in
        let e = sym x.same ∙ y.same in
        same_some settled k l is.once (known_some settled k i) (known_some settled l j)
        (known_same tree settled locks is named_in keys_once (given_at delay moment k) (given_at delay moment l) x.choice y.choice i x.fresh_one y.fresh_one e)
        (known_same tree settled locks is named_in keys_once (given_at delay moment l) (given_at delay moment k) y.choice x.choice j y.fresh_one x.fresh_one (sym e))

    sorted_with : IsSorted (is_before tree) (reckoned_with tree settled delay moment n)
    sorted_with =
        sorted_merged tree of_known [] (knowns settled) (once_knowns settled is.once)
        (λ k i o h. (made_with k i o h).way.fits)
        (λ k i. sorted_given (given_at delay moment k) (given_is delay moment d m k i) n)
        known_one (λ o h. absurd h) tt (λ k i o h. absurd h)

    pub record IsWith (o : Offer) : Type 0 where
      pub delay_same : o.delay ≡ delay
      pub moment_same : o.moment ≡ moment
      pub keys_same : keys_of tree o ≡ n
      pub way : IsWay tree o

    of_with : (o : Offer) → In o (reckoned_with tree settled delay moment n) → IsWith o
    of_with o h = elim (of_merged tree of_known o [] (knowns settled) h) [
      | inl i ↦ absurd i
      | inr k ↦
          let x = made_with k.0 k.1 o k.2 in
          record { delay_same = ap (λ a. a.delay) x.same; moment_same = ap (λ a. a.moment) x.same; keys_same = x.keys; way = x.way }
    ]

  -- ---- all

  abbrev of_moment : Option Delay → Option Moment → List Offer
  of_moment delay = λ moment. flat_map (reckoned_with tree settled delay moment) (numbers_from 0 (length (secrets tree) + 1))

  abbrev of_delay : Option Delay → List Offer
  of_delay = λ delay. flat_map (of_moment delay) (or_none (moments_in_order p))

  sorted_moment : (delay : Option Delay) (moment : Option Moment) → In delay (or_none (delays_in_order p)) → In moment (or_none (moments_in_order p)) →
      IsSorted (is_before tree) (of_moment delay moment)
  sorted_moment delay moment d m =
      sorted_each (is_before tree) nat_lt (reckoned_with tree settled delay moment) (numbers_from 0 (length (secrets tree) + 1))
      (numbers_sorted 0 (length (secrets tree) + 1)) (λ n i. sorted_with delay moment d m n)
      (λ n k i j e a b s t.
      let x = of_with delay moment d m n a s in
      let y = of_with delay moment d m k b t in
      let less = true_lt n k e in
      let u = x.keys_same in
      let v = y.keys_same in
      by_keys tree a b (x.delay_same ∙ sym y.delay_same) (x.moment_same ∙ sym y.moment_same) (omega (arith, less, u, v)))

  of_moment_is : (delay : Option Delay) (moment : Option Moment) → In delay (or_none (delays_in_order p)) → In moment (or_none (moments_in_order p)) →
      (o : Offer) → In o (of_moment delay moment) → (o.delay ≡ delay) × (o.moment ≡ moment) × IsWay tree o
  of_moment_is delay moment d m o h =
      let n = of_each (reckoned_with tree settled delay moment) o (numbers_from 0 (length (secrets tree) + 1)) h in
      let x = of_with delay moment d m n.maker o n.made in
      (x.delay_same, x.moment_same, x.way)

  abbrev moment_before : Option Moment → Option Moment → Bool
  moment_before = λ a b. is_less (locktime_of a ∷ []) (locktime_of b ∷ [])

  moments_or_none : IsSorted moment_before (or_none (moments_in_order p))
  moments_or_none = (
    (λ o i.
        let m = of_map (λ x. Some x) o (moments_in_order p) i in
        subst (λ o. moment_before None o ≡ true) (sym m.is)
        (less_of 0 (locktime_of (Some m.source)) [] [] (positive m.source
        (moment_range p locks (Some m.source) (inr (in_map (λ x. Some x) m.source (moments p) (of_sorted (λ x. locktime_of (Some x) ∷ []) m.source (moments p) m.listed))))))),
    sorted_map moment_before (before (λ x. locktime_of (Some x) ∷ [])) (λ x. Some x) (λ x y e. e) (moments_in_order p) (moments_sorted p locks),
  )
    where
      positive : (m : Moment) → IsMoment m → 0 < locktime_of (Some m)
      positive (Height n) h = let l = h.0 in omega (arith, l)
      positive (Time n) h = let l = h.0 in omega (arith, l)

  sorted_delay : (delay : Option Delay) → In delay (or_none (delays_in_order p)) → IsSorted (is_before tree) (of_delay delay)
  sorted_delay delay d =
      sorted_each (is_before tree) moment_before (of_moment delay) (or_none (moments_in_order p)) moments_or_none
      (λ m i. sorted_moment delay m d i)
      (λ m n i j e a b s t.
      let x = of_moment_is delay m d i a s in
      let y = of_moment_is delay n d j b t in
      let less = one_number (locktime_of m) (locktime_of n) e in
      let u = ap locktime_of x.1 in
      let v = ap locktime_of y.1 in
      by_moment tree a b (x.0 ∙ sym y.0) (omega (arith, less, u, v)))

  of_delay_is : (delay : Option Delay) → In delay (or_none (delays_in_order p)) → (o : Offer) → In o (of_delay delay) → (o.delay ≡ delay) × IsWay tree o
  of_delay_is delay d o h =
      let m = of_each (of_moment delay) o (or_none (moments_in_order p)) h in
      let x = of_moment_is delay m.maker d m.listed o m.made in
      (x.0, x.2)

  abbrev delay_first : Option Delay → Option Delay → Bool
  delay_first = λ a b. is_less (delay_numbers a) (delay_numbers b)

  delays_or_none : IsSorted delay_first (or_none (delays_in_order p))
  delays_or_none = (
    (λ o i.
        let m = of_map (λ x. Some x) o (delays_in_order p) i in
        subst (λ o. delay_first None o ≡ true) (sym m.is) (none_before m.source)),
    sorted_map delay_first (before (λ x. delay_numbers (Some x))) (λ x. Some x) (λ x y e. e) (delays_in_order p) (delays_sorted p locks),
  )

  sorted_reckoned : IsSorted (is_before tree) (reckoned tree settled)
  sorted_reckoned =
      sorted_each (is_before tree) delay_first of_delay (or_none (delays_in_order p)) delays_or_none sorted_delay
      (λ d c i j e a b s t.
      let x = of_delay_is d i a s in
      let y = of_delay_is c j b t in
      by_delay tree a b (subst (λ f. delay_first f b.delay ≡ true) (sym x.0) (subst (λ f. delay_first d f ≡ true) (sym y.0) e)))

  reckoned_is_way : (o : Offer) → In o (reckoned tree settled) → IsWay tree o
  reckoned_is_way o h =
      let d = of_each of_delay o (or_none (delays_in_order p)) h in
      (of_delay_is d.maker d.listed o d.made).1

  way_is_reckoned : (o : Offer) → IsWay tree o → In o (reckoned tree settled)
  way_is_reckoned o w =
      let found = way_is_found tree settled locks is named_in keys_once o w in
      let given = found.given in
      let x = found.choice in
      let n = keys_in p x in
      let few = fewer_pass is_key (offer_of tree given x).secrets in
      let fewer = fewer_pass (λ s. has given.known s || has (taken p x) s) (secrets tree) in
      let same = as_many_keys given found.is_given x found.listed in
      subst (λ a. In a (reckoned tree settled)) found.same
      (in_each of_delay given.delay (offer_of tree given x) (or_none (delays_in_order p)) found.is_given.delay
      (in_each (of_moment given.delay) given.moment (offer_of tree given x) (or_none (moments_in_order p)) found.is_given.moment
      (in_each (reckoned_with tree settled given.delay given.moment) n (offer_of tree given x) (numbers_from 0 (length (secrets tree) + 1))
      (in_numbers n 0 (length (secrets tree) + 1) (omega arith) (omega (arith, few, fewer, same)))
      (in_merged tree (λ known. ways_given tree settled (given_at given.delay given.moment known) n) (offer_of tree given x) [] (knowns settled)
      (inr (
        given.known,
        some_known settled given.known found.is_given.known,
        in_map (offer_of tree given) x (fresh_with settled p given n)
            (in_filter (λ y. keys_in p y == n) x (fresh settled p given) found.listed (own_number n)),
      ))))))
    where
      own_number : (n : ℕ) → (n == n) ≡ true
      own_number n = grind (arith, nat_tests)

  abbrev in_before : Offer → Offer → Bool
  in_before = is_before tree

  pub reckoned_are : AreWays tree (reckoned tree settled)
  reckoned_are = record {
    each = λ o. (
      (λ c. reckoned_is_way o (in_of Offer in_before (λ x y. one_way (numbers tree x) (numbers tree y)) (reckoned tree settled) o c)),
      (λ w. contains_of Offer in_before (λ x y. one_way (numbers tree x) (numbers tree y)) (reckoned tree settled) o (way_is_reckoned o w)),
    );
    ordered = all_pairs in_before (reckoned tree settled) sorted_reckoned;
  }

  pub reckoned_are_ways : reckoned tree settled ≡ ways tree
  reckoned_are_ways = one_list_of_ways tree (reckoned tree settled) (ways tree) reckoned_are (tried_are_ways tree locks)
