-- Trying each set with each pair of locks finds all ways, and each offer that is enough has one that is no more.
use Rattle.std.proofs.Common.{◌≡◌, inl, inr, ℕ, zero, suc, ◌+◌, ◌<◌, ◌≤◌, Bool, true, false, not, ◌&&◌, List, [], ◌∷◌, map, filter, flat_map, Option, sym, ◌∙◌, ap, subst, arith, if◌then◌else◌}
use Rattle.std.specs.List.{list_any, list_all}
use Rattle.std.proofs.lemmas.Bool.{cases_Bool, false≢true, and_parts, and_from}
use Rattle.def_tree.specs.Tree.{Tree}
use Rattle.def_policy.specs.Size.{HasLocks}
use Rattle.def_ways.specs.declared.Delay.{Delay}
use Rattle.def_ways.specs.declared.Moment.{Moment}
use Rattle.def_ways.specs.Secret.{Secret, named, secrets}
use Rattle.def_ways.specs.Offer.{Offer, IsOffer, AreSomeOf, has, no_later, no_later_moment, no_more}
use Rattle.def_ways.specs.Enough.{policy_of, enough}
use Rattle.def_ways.specs.Order.{numbers, is_before}
use Rattle.def_ways.specs.Way.{IsWay, AreWays}
use Rattle.def_ways.specs.Tried.{choices, or_none, with_locks, tried, is_less_than, least_of, ways}
use Rattle.def_ways.specs.Bound.{delays, moments}
use Rattle.ms_way_laws.specs.Listed.{In, AreOnce}
use Rattle.ms_way_laws.specs.More.{AreInRange}
use Rattle.ms_way_laws.proofs.Lists.{in_filter, of_filter, once_filter, any_of, one_of, all_of, each_of, in_map, of_map, once_map, in_each, of_each, once_each, once_or_none}
use Rattle.ms_way_laws.proofs.SomeOf.{has_in, in_has, refused, same_some, some_chosen, chosen_some, once_chosen, once_firsts}
use Rattle.ms_way_laws.proofs.NoLater.{delays_are, moments_are}
use Rattle.ms_way_laws.proofs.Lowered.{once_delays, once_moments, delay_range, moment_range, low, lower_delay, lower_moment, low_range, low_meets}
use Rattle.ms_way_laws.proofs.Sorted.{IsSorted, all_pairs, in_ordered, of_ordered, sorted_order}
use Rattle.ms_way_laws.proofs.OneList.{in_of, contains_of, one_way}

-- ---- one offer is no more than another one

pub record IsNoMore (a b : Offer) : Type 0 where
  pub secrets : (s : Secret) → In s a.secrets → In s b.secrets
  pub delay : no_later a.delay b.delay ≡ true
  pub moment : no_later_moment a.moment b.moment ≡ true

pub is_no_more : (a b : Offer) → no_more a b ≡ true → IsNoMore a b
is_no_more a b e =
    let outer = and_parts (list_all (has b.secrets) a.secrets && no_later a.delay b.delay) (no_later_moment a.moment b.moment) e in
    let inner = and_parts (list_all (has b.secrets) a.secrets) (no_later a.delay b.delay) outer.0 in
    record {
      secrets = λ s i. has_in s b.secrets (each_of (has b.secrets) a.secrets inner.0 s i);
      delay = inner.1;
      moment = outer.1;
    }

pub no_more_is : (a b : Offer) → IsNoMore a b → no_more a b ≡ true
no_more_is a b h =
    and_from (list_all (has b.secrets) a.secrets && no_later a.delay b.delay) (no_later_moment a.moment b.moment)
    (and_from (list_all (has b.secrets) a.secrets) (no_later a.delay b.delay)
    (all_of (has b.secrets) a.secrets (λ s i. in_has s b.secrets (h.secrets s i))) h.delay) h.moment

pub no_more_own : (a : Offer) → IsNoMore a a
no_more_own a = record { secrets = λ s i. i; delay = delays_are.own a.delay; moment = moments_are.own a.moment }

pub no_more_through : (a b c : Offer) → IsNoMore a b → IsNoMore b c → IsNoMore a c
no_more_through a b c h k = record {
  secrets = λ s i. k.secrets s (h.secrets s i);
  delay = delays_are.through a.delay b.delay c.delay h.delay k.delay;
  moment = moments_are.through a.moment b.moment c.moment h.moment k.moment;
}

pub once_secrets : (tree : Tree) → AreOnce (secrets tree)
once_secrets tree = once_firsts (named tree)

pub no_more_both : (tree : Tree) (a b : Offer) → IsOffer tree a → IsOffer tree b → IsNoMore a b → IsNoMore b a → a ≡ b
no_more_both tree a b i j h k =
    let d = delays_are.both_ways a.delay b.delay h.delay k.delay in
    let m = moments_are.both_ways a.moment b.moment h.moment k.moment in
    let s = same_some (secrets tree) a.secrets b.secrets (once_secrets tree) i.secrets j.secrets h.secrets k.secrets in
    ap (λ x. record { delay = x; moment = a.moment; secrets = a.secrets }) d
    ∙ ap (λ x. record { delay = b.delay; moment = x; secrets = a.secrets }) m
    ∙ ap (λ x. record { delay = b.delay; moment = b.moment; secrets = x }) s

pub in_range : (tree : Tree) (a : Offer) → IsOffer tree a → AreInRange a
in_range tree a i = (i.delay, i.moment)

module _ (tree : Tree) (locks : HasLocks (policy_of tree)) where
  -- ---- lowered offers

  pub low_is : (a : Offer) → IsOffer tree a → IsOffer tree (low (policy_of tree) locks a)
  low_is a i = record {
    delay = (low_range (policy_of tree) locks a).0;
    moment = (low_range (policy_of tree) locks a).1;
    secrets = i.secrets;
  }

  pub low_no_more : (a : Offer) → IsNoMore (low (policy_of tree) locks a) a
  low_no_more a = record {
    secrets = λ s i. i;
    delay = (lower_delay (policy_of tree) locks a.delay).lower;
    moment = (lower_moment (policy_of tree) locks a.moment).lower;
  }

  pub low_enough : (a : Offer) → IsOffer tree a → enough tree a ≡ true → enough tree (low (policy_of tree) locks a) ≡ true
  low_enough a i e = low_meets (policy_of tree) locks a (in_range tree a i) ∙ e

  -- ---- what is tried

  abbrev of_moment : Option Delay → Option Moment → List Offer
  of_moment delay moment = map (with_locks delay moment) (choices (secrets tree))

  abbrev of_delay : Option Delay → List Offer
  of_delay delay = flat_map (of_moment delay) (or_none (moments (policy_of tree)))

  pub in_tried : (delay : Option Delay) (moment : Option Moment) (some : List Secret) → In delay (or_none (delays (policy_of tree))) →
      In moment (or_none (moments (policy_of tree))) → AreSomeOf some (secrets tree) → In (with_locks delay moment some) (tried tree)
  in_tried delay moment some d m s =
      in_each of_delay delay (with_locks delay moment some) (or_none (delays (policy_of tree))) d
      (in_each (of_moment delay) moment (with_locks delay moment some) (or_none (moments (policy_of tree))) m
      (in_map (with_locks delay moment) some (choices (secrets tree)) (some_chosen some (secrets tree) s)))

  low_tried : (a : Offer) → IsOffer tree a → In (low (policy_of tree) locks a) (tried tree)
  low_tried a i =
      in_tried (low (policy_of tree) locks a).delay (low (policy_of tree) locks a).moment a.secrets
      (lower_delay (policy_of tree) locks a.delay).listed (lower_moment (policy_of tree) locks a.moment).listed i.secrets

  tried_is : (a : Offer) → In a (tried tree) → IsOffer tree a
  tried_is a h =
      let d = of_each of_delay a (or_none (delays (policy_of tree))) h in
      let m = of_each (of_moment d.maker) a (or_none (moments (policy_of tree))) d.made in
      let s = of_map (with_locks d.maker m.maker) a (choices (secrets tree)) m.made in
      subst (IsOffer tree) (sym s.is) (record {
        delay = delay_range (policy_of tree) locks d.maker d.listed;
        moment = moment_range (policy_of tree) locks m.maker m.listed;
        secrets = chosen_some s.source (secrets tree) s.listed;
      })

  once_tried : AreOnce (tried tree)
  once_tried =
      once_each of_delay (or_none (delays (policy_of tree))) (once_or_none (delays (policy_of tree)) (once_delays (policy_of tree) locks))
      (λ d i. once_each (of_moment d) (or_none (moments (policy_of tree))) (once_or_none (moments (policy_of tree)) (once_moments (policy_of tree) locks))
      (λ m j. once_map (with_locks d m) (choices (secrets tree)) (λ a b k l e. ap (λ o. o.secrets) e) (once_chosen (secrets tree) (once_secrets tree)))
      (λ m n a j k l r.
      let s = of_map (with_locks d m) a (choices (secrets tree)) l in
      let t = of_map (with_locks d n) a (choices (secrets tree)) r in
      sym (ap (λ o. o.moment) s.is) ∙ ap (λ o. o.moment) t.is))
      (λ d e a i j l r.
      let m = of_each (of_moment d) a (or_none (moments (policy_of tree))) l in
      let n = of_each (of_moment e) a (or_none (moments (policy_of tree))) r in
      let s = of_map (with_locks d m.maker) a (choices (secrets tree)) m.made in
      let t = of_map (with_locks e n.maker) a (choices (secrets tree)) n.made in
      sym (ap (λ o. o.delay) s.is) ∙ ap (λ o. o.delay) t.is)

  -- those that are enough
  abbrev enoughs : List Offer
  enoughs = filter (enough tree) (tried tree)

  enough_is : (a : Offer) → In a enoughs → IsOffer tree a × (enough tree a ≡ true)
  enough_is a h = let f = of_filter (enough tree) a (tried tree) h in (tried_is a f.0, f.1)

  low_in : (a : Offer) → IsOffer tree a → enough tree a ≡ true → In (low (policy_of tree) locks a) enoughs
  low_in a i e = in_filter (enough tree) (low (policy_of tree) locks a) (tried tree) (low_tried a i) (low_enough a i e)

  less_is : (a b : Offer) → is_less_than a b ≡ true → IsNoMore a b × (IsNoMore b a → ⊥)
  less_is a b e =
      let p = and_parts (no_more a b) (not (no_more b a)) e in
      (is_no_more a b p.0, λ k. false≢true (sym (ap not (no_more_is b a k)) ∙ p.1))

  is_less : (a b : Offer) → IsNoMore a b → (IsNoMore b a → ⊥) → is_less_than a b ≡ true
  is_less a b h k = and_from (no_more a b) (not (no_more b a)) (no_more_is a b h) (ap not (refused (no_more b a) (λ e. k (is_no_more b a e))))

  -- ---- the least of them

  abbrev is_least : Offer → Bool
  is_least a = not (list_any (λ other. is_less_than other a) enoughs)

  none_less : (a : Offer) → is_least a ≡ true → (b : Offer) → In b enoughs → IsNoMore b a → IsNoMore a b
  none_less a e b i h = elim (cases_Bool (no_more a b)) [
    | inl k ↦ is_no_more a b k
    | inr f ↦
        let less = is_less b a h (λ k. false≢true (sym f ∙ no_more_is a b k)) in
        absurd (false≢true (sym (ap not (any_of (λ other. is_less_than other a) b enoughs i less)) ∙ e))
  ]

  least_is_way : (a : Offer) → In a enoughs → is_least a ≡ true → IsWay tree a
  least_is_way a i e = record {
    fits = (enough_is a i).0;
    suffices = (enough_is a i).1;
    least = λ b j f h.
        let more = is_no_more b a h in
        let down = low_no_more b in
        let up = none_less a e (low (policy_of tree) locks b) (low_in b j f) (no_more_through (low (policy_of tree) locks b) b a down more) in
        no_more_both tree b a j (enough_is a i).0 more (no_more_through a (low (policy_of tree) locks b) b up down);
  }

  pub way_low : (a : Offer) → IsWay tree a → low (policy_of tree) locks a ≡ a
  way_low a w =
      w.least (low (policy_of tree) locks a) (low_is a w.fits) (low_enough a w.fits w.suffices)
      (no_more_is (low (policy_of tree) locks a) a (low_no_more a))

  way_is_least : (a : Offer) → IsWay tree a → In a enoughs × (is_least a ≡ true)
  way_is_least a w = (
    subst (λ b. In b enoughs) (way_low a w) (low_in a w.fits w.suffices),
    ap not (refused (list_any (λ other. is_less_than other a) enoughs) (λ e.
        let o = one_of (λ other. is_less_than other a) enoughs e in
        let is = enough_is o.one o.listed in
        let less = less_is o.one a o.passes in
        let same = w.least o.one is.0 is.1 (no_more_is o.one a less.0) in
        less.1 (subst (λ b. IsNoMore a b) (sym same) (no_more_own a)))),
  )

  pub ways_are : (a : Offer) → In a (ways tree) → IsWay tree a
  unfolding ways
  ways_are a h =
      let f = of_filter is_least a enoughs (of_ordered tree a (least_of enoughs) h) in
      least_is_way a f.0 f.1

  pub are_ways : (a : Offer) → IsWay tree a → In a (ways tree)
  unfolding ways
  are_ways a w =
      let l = way_is_least a w in
      in_ordered tree a (least_of enoughs) (in_filter is_least a enoughs l.0 l.1)

  pub sorted_ways : IsSorted (is_before tree) (ways tree)
  unfolding ways
  sorted_ways =
      sorted_order tree (least_of enoughs) (λ a h. (enough_is a (of_filter is_least a enoughs h).0).0)
      (once_filter is_least enoughs (once_filter (enough tree) (tried tree) once_tried))

  pub tried_are_ways : AreWays tree (ways tree)
  tried_are_ways = record {
    each = λ a. (
      (λ c. ways_are a (in_of Offer (is_before tree) (λ x y. one_way (numbers tree x) (numbers tree y)) (ways tree) a c)),
      (λ w. contains_of Offer (is_before tree) (λ x y. one_way (numbers tree x) (numbers tree y)) (ways tree) a (are_ways a w)),
    );
    ordered = all_pairs (is_before tree) (ways tree) sorted_ways;
  }

  -- ---- below each that is enough

  -- how many of a list are less
  abbrev how_many_less : Offer → List Offer → ℕ
  how_many_less a [] = 0
  how_many_less a (b ∷ bs) = (if is_less_than b a then 1 else 0) + how_many_less a bs

  fewer : (p q : Bool) → (p ≡ true → q ≡ true) → (if p then 1 else 0) ≤ (if q then 1 else 0)
  fewer p q f = grind arith

  less_through : (a b c : Offer) → is_less_than a b ≡ true → is_less_than b c ≡ true → is_less_than a c ≡ true
  less_through a b c e f =
      let h = less_is a b e in
      let k = less_is b c f in
      is_less a c (no_more_through a b c h.0 k.0) (λ back. k.1 (no_more_through c a b back h.0))

  less_own : (a : Offer) → is_less_than a a ≡ false
  less_own a = refused (is_less_than a a) (λ e. (less_is a a e).1 (no_more_own a))

  no_fewer : (a b : Offer) → is_less_than b a ≡ true → (bs : List Offer) → how_many_less b bs ≤ how_many_less a bs
  no_fewer a b e [] = omega arith
  no_fewer a b e (c ∷ bs) =
      let here = fewer (is_less_than c b) (is_less_than c a) (λ f. less_through c b a f e) in
      let rest = no_fewer a b e bs in
      omega (arith, here, rest)

  one_fewer : (a b : Offer) → is_less_than b a ≡ true → (bs : List Offer) → In b bs → how_many_less b bs < how_many_less a bs
  one_fewer a b e [] h = absurd h
  one_fewer a b e (c ∷ bs) (inl same) =
      let none : is_less_than c b ≡ false = subst (λ x. is_less_than x b ≡ false) same (less_own b) in
      let one : is_less_than c a ≡ true = subst (λ x. is_less_than x a ≡ true) same e in
      let rest = no_fewer a b e bs in
      apart (is_less_than c b) (is_less_than c a) (how_many_less b bs) (how_many_less a bs) none one rest
    where
      apart : (p q : Bool) (m n : ℕ) → p ≡ false → q ≡ true → m ≤ n → (if p then 1 else 0) + m < (if q then 1 else 0) + n
      apart p q m n e f h = grind arith
  one_fewer a b e (c ∷ bs) (inr h) =
      let here = fewer (is_less_than c b) (is_less_than c a) (λ f. less_through c b a f e) in
      let rest = one_fewer a b e bs h in
      omega (arith, here, rest)

  find_least : (fuel : ℕ) (a : Offer) → how_many_less a enoughs < fuel → In a enoughs → (way : Offer) × In way enoughs × (is_least way ≡ true) × IsNoMore way a
  find_least zero a h i = absurd (none h)
    where
      none : {n : ℕ} → n < 0 → ⊥
      none h = omega (arith, h)
  find_least (suc fuel) a h i = elim (cases_Bool (list_any (λ other. is_less_than other a) enoughs)) [
    | inl e ↦
        let o = one_of (λ other. is_less_than other a) enoughs e in
        let few = one_fewer a o.one o.passes enoughs o.listed in
        let r = find_least fuel o.one (omega (arith, few, h)) o.listed in
        (r.0, r.1, r.2, no_more_through r.0 o.one a r.3 (less_is o.one a o.passes).0)
    | inr f ↦ (a, i, ap not f, no_more_own a)
  ]

  pub each_has_way : (a : Offer) → IsOffer tree a → enough tree a ≡ true → (way : Offer) × IsWay tree way × (no_more way a ≡ true)
  each_has_way a i e =
      let first = low (policy_of tree) locks a in
      let r = find_least (suc (how_many_less first enoughs)) first (omega arith) (low_in a i e) in
      (r.0, least_is_way r.0 r.1 r.2, no_more_is r.0 a (no_more_through r.0 first a r.3 (low_no_more a)))
