-- The number of ways is what is reckoned.
use Rattle.std.proofs.Common.{◌≡◌, ◌⊎◌, inl, inr, ℕ, suc, ◌+◌, ◌≤◌, Bool, true, List, [], ◌∷◌, ◌++◌, length, map, flat_map, Option, Some, refl, sym, ◌∙◌, ap, subst, arith}
use Rattle.std.specs.Prelude.{sum}
use Rattle.std.proofs.lemmas.Bool.{false≢true}
use Rattle.std.proofs.lemmas.List.{length-map, length-append}
use Rattle.std.proofs.lemmas.List.Sums.{sum_by-append}
use Rattle.def_tree.specs.Tree.{Tree}
use Rattle.def_policy.specs.Policy.{Policy}
use Rattle.def_policy.specs.Size.{HasLocks}
use Rattle.def_ways.specs.declared.Delay.{Delay}
use Rattle.def_ways.specs.declared.Moment.{Moment}
use Rattle.def_ways.specs.Secret.{Secret, secrets}
use Rattle.def_ways.specs.Offer.{Offer, locktime_of, has}
use Rattle.def_ways.specs.Enough.{policy_of}
use Rattle.def_ways.specs.Order.{delay_numbers, is_key, numbers, is_less, is_before}
use Rattle.def_ways.specs.Way.{IsWay}
use Rattle.def_ways.specs.Tried.{or_none, ways, count}
use Rattle.ms_way_laws.specs.Listed.{In, AreOnce}
use Rattle.ms_way_laws.specs.Settled.{Choice}
use Rattle.ms_way_laws.specs.Leasts.{leasts}
use Rattle.ms_way_laws.specs.Reckoned.{Given, setting_of, knowns, delays_in_order, moments_in_order, is_fresh, fresh, offer_of, secrets_in, taken, times, total, IsSettled}
use Rattle.ms_way_laws.proofs.Lists.{in_map, of_map, once_map, in_each, of_each, once_each, once_filter, once_or_none}
use Rattle.ms_way_laws.proofs.SomeOf.{in_has, has_in, in_all, same_some}
use Rattle.ms_way_laws.proofs.Sorted.{IsSorted}
use Rattle.ms_way_laws.proofs.OneList.{one_way}
use Rattle.ms_way_laws.proofs.Tried.{ways_are, are_ways, sorted_ways}
use Rattle.ms_way_laws.proofs.Leasts.{leasts_are_least}
use Rattle.ms_way_laws.proofs.Picked.{asked, picked, picked_more, both_within, taken_in, asks, ask}
use Rattle.ms_way_laws.proofs.Steps.{before, delays_sorted, moments_sorted, known_some, some_known}
use Rattle.ms_way_laws.proofs.Reckoned.{keys_asked, own, least_of_fresh, least_unsettled, in_offer, of_offer, IsGiven, fresh_is_way, way_is_found}

-- ---- how long lists are

sum_first : (x : ℕ) (xs : List ℕ) → sum (x ∷ xs) ≡ x + sum xs
sum_first x xs = sum_by-append (λ x. x) (x ∷ []) xs ∙ ap (λ n. n + sum xs) (one x)
  where
    one : (x : ℕ) → sum (x ∷ []) ≡ x
    one x = omega arith

sum_joined : (xs ys : List ℕ) → sum (xs ++ ys) ≡ sum xs + sum ys
sum_joined xs ys = sum_by-append (λ x. x) xs ys

length_each : {A B : Type 0} (f : A → List B) (g : A → List ℕ) → ((a : A) → length (f a) ≡ sum (g a)) → (xs : List A) →
    length (flat_map f xs) ≡ sum (flat_map g xs)
length_each f g h [] = refl
length_each f g h (x ∷ xs) =
    length-append (f x) (flat_map f xs)
    ∙ ap (λ n. n + length (flat_map f xs)) (h x)
    ∙ ap (λ n. sum (g x) + n) (length_each f g h xs)
    ∙ sym (sum_joined (g x) (flat_map g xs))

length_every : {A B : Type 0} (f : A → List B) (g : A → ℕ) → ((a : A) → length (f a) ≡ g a) → (xs : List A) →
    length (flat_map f xs) ≡ sum (map g xs)
length_every f g h [] = refl
length_every f g h (x ∷ xs) =
    length-append (f x) (flat_map f xs)
    ∙ ap (λ n. n + length (flat_map f xs)) (h x)
    ∙ ap (λ n. g x + n) (length_every f g h xs)
    ∙ sym (sum_first (g x) (map g xs))

module _ {A : Type 0} where
  pub record IsTakenOut (x : A) (ys zs : List A) : Type 0 where
    pub shorter : length ys ≡ suc (length zs)
    pub others : (y : A) → In y ys → (y ≡ x) ⊎ In y zs

  take_out : (x : A) (ys : List A) → In x ys → (zs : List A) × IsTakenOut x ys zs
  take_out x [] h = absurd h
  take_out x (y ∷ ys) (inl e) = (
    ys,
    record {
      shorter = refl;
      others = λ z h. elim h [ inl f ↦ inl (f ∙ sym e) | inr i ↦ inr i ];
    },
  )
  take_out x (y ∷ ys) (inr h) =
      let r = take_out x ys h in (
        y ∷ r.0,
        record {
          shorter = ap (λ n. suc n) r.1.shorter;
          others = λ z h. elim h [
            | inl f ↦ inr (inl f)
            | inr i ↦ elim (r.1.others z i) [ inl g ↦ inl g | inr j ↦ inr (inr j) ]
          ];
        },
      )

  -- a list in which each stands once is no longer than one that has all of it
  no_longer : (xs ys : List A) → AreOnce xs → ((a : A) → In a xs → In a ys) → length xs ≤ length ys
  no_longer [] ys o h = omega arith
  no_longer (x ∷ xs) ys o h =
      let r = take_out x ys (h x (inl refl)) in
      let rest = no_longer xs r.0 o.1 (λ a i. elim (r.1.others a (h a (inr i))) [
        | inl e ↦ absurd (o.0 (subst (λ b. In b xs) e i))
        | inr j ↦ j
      ]) in
      let shorter = r.1.shorter in
      omega (arith, rest, shorter)

  pub same_length : (xs ys : List A) → AreOnce xs → AreOnce ys → ((a : A) → In a xs → In a ys) → ((a : A) → In a ys → In a xs) → length xs ≡ length ys
  same_length xs ys o p f g = let a = no_longer xs ys o f in let b = no_longer ys xs p g in omega (arith, a, b)

  -- in order each stands once
  pub once_sorted : (before : A → A → Bool) → ((a : A) → before a a ≡ true → ⊥) → (xs : List A) → IsSorted before xs → AreOnce xs
  once_sorted before never [] s = tt
  once_sorted before never (x ∷ xs) s = ((λ h. never x (s.0 x h)), once_sorted before never xs s.1)

not_less : (xs : List ℕ) → is_less xs xs ≡ true → ⊥
not_less xs e = one_way xs xs e e

-- ---- known hash values

first_known : (s : Secret) (known all : List Secret) → AreOnce (s ∷ all) → In known (knowns all) → (other : List Secret) → known ≡ s ∷ other → ⊥
first_known s known all o h other e = o.0 (in_all known all (known_some all known h) s (subst (λ ss. In s ss) (sym e) (inl refl)))

tail_of : (s t : Secret) (xs ys : List Secret) → s ∷ xs ≡ t ∷ ys → xs ≡ ys
tail_of s t xs ys e = ap rest e
  where
    rest : List Secret → List Secret
    rest [] = []
    rest (x ∷ xs) = xs

pub once_knowns : (all : List Secret) → AreOnce all → AreOnce (knowns all)
once_knowns [] o = ((λ h. h), tt)
once_knowns (s ∷ all) o =
    once_each (λ known. known ∷ (s ∷ known) ∷ []) (knowns all) (once_knowns all o.1)
    (λ known i. ((λ h. elim h [ inl e ↦ first_known s known all o i known e | inr j ↦ j ]), ((λ h. h), tt)))
    (λ known other b i j l r. elim l [
      | inl e ↦ elim r [
        | inl f ↦ sym e ∙ f
        | inr g ↦ elim g [ inl f ↦ absurd (first_known s known all o i other (sym e ∙ f)) | inr k ↦ absurd k ]
      ]
      | inr g ↦ elim g [
        | inl e ↦ elim r [
          | inl f ↦ absurd (first_known s other all o j known (sym f ∙ e))
          | inr g ↦ elim g [ inl f ↦ tail_of s s known other (sym e ∙ f) | inr k ↦ absurd k ]
        ]
        | inr k ↦ absurd k
      ]
    ])

module _ (tree : Tree) (settled : List Secret) (locks : HasLocks (policy_of tree)) (is : IsSettled tree settled)
    (named_in : (s : Secret) → In s (secrets_in (policy_of tree)) → In s (secrets tree))
    (keys_once : (s : Secret) → is_key s ≡ true → times s (secrets_in (policy_of tree)) ≤ 1) where
  abbrev p : Policy
  p = policy_of tree

  abbrev given_at : Option Delay → Option Moment → List Secret → Given
  given_at delay moment known = record { delay = delay; moment = moment; known = known }

  -- all that are reckoned
  abbrev of_known : Option Delay → Option Moment → List Secret → List Offer
  of_known delay moment = λ known. map (offer_of tree (given_at delay moment known)) (fresh settled p (given_at delay moment known))

  abbrev of_moment : Option Delay → Option Moment → List Offer
  of_moment delay = λ moment. flat_map (of_known delay moment) (knowns settled)

  abbrev of_delay : Option Delay → List Offer
  of_delay = λ delay. flat_map (of_moment delay) (or_none (moments_in_order p))

  abbrev found : List Offer
  found = flat_map of_delay (or_none (delays_in_order p))

  pub found_total : length found ≡ total p settled
  found_total =
      length_each of_delay
      (λ delay. flat_map (λ moment. map (λ known. length (fresh settled p (given_at delay moment known))) (knowns settled)) (or_none (moments_in_order p)))
      (λ delay. length_each (of_moment delay) (λ moment. map (λ known. length (fresh settled p (given_at delay moment known))) (knowns settled))
      (λ moment. length_every (of_known delay moment) (λ known. length (fresh settled p (given_at delay moment known)))
      (λ known. length-map (fresh settled p (given_at delay moment known)) (offer_of tree (given_at delay moment known))) (knowns settled))
      (or_none (moments_in_order p))) (or_none (delays_in_order p))

  given_is : (delay : Option Delay) (moment : Option Moment) (known : List Secret) → In delay (or_none (delays_in_order p)) →
      In moment (or_none (moments_in_order p)) → In known (knowns settled) →
      IsGiven tree settled locks is named_in keys_once (given_at delay moment known)
  given_is delay moment known d m k = record { delay = d; moment = m; known = known_some settled known k }

  found_is_way : (o : Offer) → In o found → IsWay tree o
  found_is_way o h =
      let d = of_each of_delay o (or_none (delays_in_order p)) h in
      let m = of_each (of_moment d.maker) o (or_none (moments_in_order p)) d.made in
      let k = of_each (of_known d.maker m.maker) o (knowns settled) m.made in
      let given = given_at d.maker m.maker k.maker in
      let x = of_map (offer_of tree given) o (fresh settled p given) k.made in
      subst (IsWay tree) (sym x.is)
      (fresh_is_way tree settled locks is named_in keys_once given x.source (given_is d.maker m.maker k.maker d.listed m.listed k.listed) x.listed)

  way_in_found : (o : Offer) → IsWay tree o → In o found
  way_in_found o w =
      let f = way_is_found tree settled locks is named_in keys_once o w in
      let given = f.given in
      subst (λ a. In a found) f.same
      (in_each of_delay given.delay (offer_of tree given f.choice) (or_none (delays_in_order p)) f.is_given.delay
      (in_each (of_moment given.delay) given.moment (offer_of tree given f.choice) (or_none (moments_in_order p)) f.is_given.moment
      (in_each (of_known given.delay given.moment) given.known (offer_of tree given f.choice) (knowns settled) (some_known settled given.known f.is_given.known)
      (in_map (offer_of tree given) f.choice (fresh settled p given) f.listed))))

  -- ---- each once

  pub known_same : (a b : Given) (x y : Choice) → In a.known (knowns settled) → In x (fresh settled p a) → In y (fresh settled p b) →
      offer_of tree a x ≡ offer_of tree b y → (s : Secret) → In s a.known → In s b.known
  known_same a b x y k i j e s h =
      let there = in_all a.known settled (known_some settled a.known k) s h in
      elim (of_offer tree settled locks is named_in keys_once b y s (subst (λ o. In s o.secrets) e
      (in_offer tree settled locks is named_in keys_once a x s (has_in s (secrets tree) (is.hashes s there).1) (inl h)))) [
        | inl known ↦ known
        | inr t ↦
            let un = least_unsettled tree settled locks is named_in keys_once b y (least_of_fresh tree settled locks is named_in keys_once b y j) s t in
            absurd (false≢true (sym un ∙ in_has s settled there))
      ]

  choice_within : (a : Given) (x y : Choice) → In a.known (knowns settled) → In x (fresh settled p a) → In y (fresh settled p a) →
      offer_of tree a x ≡ offer_of tree a y → (s : Secret) → asked settled (has (taken p x)) s ≡ true → asked settled (has (taken p y)) s ≡ true
  choice_within a x y k i j e s h =
      let keys = keys_asked tree settled locks is named_in keys_once in
      let both = asks settled keys (has (taken p x)) s h in
      let t = has_in s (taken p x) both.0 in
      ask settled keys (has (taken p y)) s both.1 (elim (of_offer tree settled locks is named_in keys_once a y s (subst (λ o. In s o.secrets) e
      (in_offer tree settled locks is named_in keys_once a x s (named_in s (taken_in p x s t)) (inr t)))) [
        | inl known ↦ absurd (false≢true (sym both.1 ∙ in_has s settled (in_all a.known settled (known_some settled a.known k) s known)))
        | inr u ↦ in_has s (taken p y) u
      ])

  choice_same : (a : Given) (x y : Choice) → In a.known (knowns settled) → In x (fresh settled p a) → In y (fresh settled p a) →
      offer_of tree a x ≡ offer_of tree a y → x ≡ y
  choice_same a x y k i j e =
      own tree settled locks is named_in keys_once a x (least_of_fresh tree settled locks is named_in keys_once a x i)
      ∙ both_within (picked settled (has (taken p x)) p) (picked settled (has (taken p y)) p)
      (picked_more settled (has (taken p x)) (has (taken p y)) (choice_within a x y k i j e) p)
      (picked_more settled (has (taken p y)) (has (taken p x)) (choice_within a y x k j i (sym e)) p)
      ∙ sym (own tree settled locks is named_in keys_once a y (least_of_fresh tree settled locks is named_in keys_once a y j))

  pub once_fresh : (a : Given) → AreOnce (fresh settled p a)
  once_fresh a = once_filter (is_fresh settled p a) (leasts (setting_of settled a) p) (leasts_are_least (setting_of settled a) p).1

  once_of_known : (delay : Option Delay) (moment : Option Moment) (known : List Secret) → In known (knowns settled) → AreOnce (of_known delay moment known)
  once_of_known delay moment known k =
      once_map (offer_of tree (given_at delay moment known)) (fresh settled p (given_at delay moment known))
      (λ x y i j e. choice_same (given_at delay moment known) x y k i j e) (once_fresh (given_at delay moment known))

  pub once_delays_in_order : AreOnce (delays_in_order p)
  once_delays_in_order =
      once_sorted (before (λ d. delay_numbers (Some d))) (λ d e. not_less (delay_numbers (Some d)) e) (delays_in_order p) (delays_sorted p locks)

  pub once_moments_in_order : AreOnce (moments_in_order p)
  once_moments_in_order =
      once_sorted (before (λ m. locktime_of (Some m) ∷ [])) (λ m e. not_less (locktime_of (Some m) ∷ []) e) (moments_in_order p) (moments_sorted p locks)

  once_found : AreOnce found
  once_found =
      once_each of_delay (or_none (delays_in_order p)) (once_or_none (delays_in_order p) once_delays_in_order)
      (λ d i. once_each (of_moment d) (or_none (moments_in_order p)) (once_or_none (moments_in_order p) once_moments_in_order)
      (λ m j. once_each (of_known d m) (knowns settled) (once_knowns settled is.once) (once_of_known d m)
      (λ k l o i j a b.
      let x = of_map (offer_of tree (given_at d m k)) o (fresh settled p (given_at d m k)) a in
      let y = of_map (offer_of tree (given_at d m l)) o (fresh settled p (given_at d m l)) b in
      let e = sym x.is ∙ y.is in
      same_some settled k l is.once (known_some settled k i) (known_some settled l j)
      (known_same (given_at d m k) (given_at d m l) x.source y.source i x.listed y.listed e)
      (known_same (given_at d m l) (given_at d m k) y.source x.source j y.listed x.listed (sym e))))
      (λ m n o i j a b.
      let k = of_each (of_known d m) o (knowns settled) a in
      let l = of_each (of_known d n) o (knowns settled) b in
      let x = of_map (offer_of tree (given_at d m k.maker)) o (fresh settled p (given_at d m k.maker)) k.made in
      let y = of_map (offer_of tree (given_at d n l.maker)) o (fresh settled p (given_at d n l.maker)) l.made in
      sym (ap (λ o. o.moment) x.is) ∙ ap (λ o. o.moment) y.is))
      (λ d c o i j a b.
      let m = of_each (of_moment d) o (or_none (moments_in_order p)) a in
      let n = of_each (of_moment c) o (or_none (moments_in_order p)) b in
      let k = of_each (of_known d m.maker) o (knowns settled) m.made in
      let l = of_each (of_known c n.maker) o (knowns settled) n.made in
      let x = of_map (offer_of tree (given_at d m.maker k.maker)) o (fresh settled p (given_at d m.maker k.maker)) k.made in
      let y = of_map (offer_of tree (given_at c n.maker l.maker)) o (fresh settled p (given_at c n.maker l.maker)) l.made in
      sym (ap (λ o. o.delay) x.is) ∙ ap (λ o. o.delay) y.is)

  pub once_ways : AreOnce (ways tree)
  once_ways = once_sorted (is_before tree) (λ o e. not_less (numbers tree o) e) (ways tree) (sorted_ways tree locks)

  pub total_is_count : total p settled ≡ count tree
  total_is_count =
      sym found_total
      ∙ same_length found (ways tree) once_found once_ways
      (λ o i. are_ways tree locks o (found_is_way o i)) (λ o i. way_in_found o (ways_are tree locks o i))
