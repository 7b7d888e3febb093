-- What is reckoned setting by setting are the ways.
use Rattle.std.proofs.Common.{◌≡◌, ◌⊎◌, inl, inr, ◌≤◌, Bool, true, false, not, ◌&&◌, ◌||◌, List, [], ◌∷◌, ◌++◌, map, filter, Option, Some, None, refl, sym, ◌∙◌, ap, subst, arith, if◌then◌else◌}
use Rattle.std.specs.List.{list_any}
use Rattle.std.proofs.lemmas.Bool.{cases_Bool, false≢true}
use Rattle.def_tree.specs.Tree.{Tree, Key}
use Rattle.def_policy.specs.Policy as policy
use Rattle.def_policy.specs.Policy.{Policy, older, after, hash}
use Rattle.def_policy.specs.Size.{HasLocks}
use Rattle.def_ways.specs.declared.Delay.{Delay}
use Rattle.def_ways.specs.declared.Moment.{Moment}
use Rattle.def_ways.specs.Secret.{Secret, key, preimage, secrets}
use Rattle.def_ways.specs.Offer.{Offer, IsOffer, AreSomeOf, numbers_of, no_later, no_later_moment, has}
use Rattle.def_ways.specs.Enough.{policy_of, facts_with, meets, enough}
use Rattle.def_ways.specs.Order.{delay_numbers, is_key}
use Rattle.def_ways.specs.Offer.{locktime_of}
use Rattle.def_ways.specs.Way.{IsWay}
use Rattle.def_ways.specs.Tried.{or_none}
use Rattle.def_ways.specs.Bound.{leaves, delay_of, moment_of, same_delay, same_moment, delays, moments}
use Rattle.ms_way_laws.specs.Parts.{IsLeast}
use Rattle.ms_way_laws.specs.Listed.{In, AreOnce}
use Rattle.ms_way_laws.specs.More.{AreInRange}
use Rattle.ms_way_laws.specs.Settled.{Choice, IsWithin, fits, holds, part}
use Rattle.ms_way_laws.specs.Leasts.{leasts}
use Rattle.ms_way_laws.specs.Below.{IsEarlier, IsKnownLater}
use Rattle.ms_way_laws.specs.Reckoned.{Given, setting_of, delays_in_order, moments_in_order, lower_delays, lower_moments, without_one, below, taken, is_fresh, fresh, offer_of, secret_in, secrets_in, times, IsSettled}
use Rattle.ms_way_laws.proofs.Listed.{in_left, in_right, in_either}
use Rattle.ms_way_laws.proofs.Lists.{in_filter, of_filter, once_filter, any_of, one_of, in_map, of_map, in_some, in_found}
use Rattle.ms_way_laws.proofs.SomeOf.{has_in, in_has, agree, refused, in_all, filter_some}
use Rattle.ms_way_laws.proofs.NoLater.{delays_are, moments_are}
use Rattle.ms_way_laws.proofs.LocksHeld.{older_held, after_held}
use Rattle.ms_way_laws.proofs.Lowered.{same_truth, locks_of, delay_range, moment_range, low, lower_delay, lower_moment, same_delay_own, same_delay_is, same_moment_own, same_moment_is}
use Rattle.ms_way_laws.proofs.Tried.{IsNoMore, is_no_more, no_more_is, no_more_through, no_more_both, in_range, low_is, low_no_more, low_enough, way_low}
use Rattle.ms_way_laws.proofs.Settled.{policy_is_part}
use Rattle.ms_way_laws.proofs.Leasts.{leasts_are_least}
use Rattle.ms_way_laws.proofs.Below.{holds_later}
use Rattle.ms_way_laws.proofs.Picked.{asked, picked, clean, picked_fits, picked_more, taken_picked, picked_taken, picked_holds, clean_fits, clean_within, clean_holds, clean_picked, picked_within, taken_more, both_within, facts_given, asks, ask}
use Rattle.ms_way_laws.proofs.Steps.{before, in_sorted, of_sorted, delays_sorted, moments_sorted, before_no_later, before_no_later_moment, lowers_are, one_step, one_less_is, left_out}

or_none_more : {A : Type 0} (xs ys : List A) → ((x : A) → In x xs → In x ys) → (o : Option A) → In o (or_none xs) → In o (or_none ys)
or_none_more xs ys h o (inl e) = inl e
or_none_more xs ys h o (inr i) =
    let m = of_map (λ x. Some x) o xs i in subst (λ o. In o (or_none ys)) (sym m.is) (in_some m.source ys (h m.source m.listed))

and_true : (f b : Bool) → b ≡ false → (f && not b) ≡ f
and_true f b e = grind arith

either : (a b : Bool) → (a || b) ≡ true → (a ≡ true) ⊎ (b ≡ true)
either a b e = grind arith

or_first : (a b : Bool) → a ≡ true → (a || b) ≡ true
or_first a b e = grind arith

or_second : (a b : Bool) → b ≡ true → (a || b) ≡ true
or_second a b e = grind arith

module _ (tree : Tree) (settled : List Secret) (locks : HasLocks (policy_of tree)) (is : IsSettled tree settled)
    (named_in : (s : Secret) → In s (secrets_in (policy_of tree)) → In s (secrets tree))
    (keys_once : (s : Secret) → is_key s ≡ true → times s (secrets_in (policy_of tree)) ≤ 1) where
  abbrev pub P : Policy
  P = policy_of tree

  abbrev pub all : List Secret
  all = secrets tree

  pub keys_asked : (k : Key) → has settled (key k) ≡ false
  keys_asked k = refused (has settled (key k)) (λ e. false≢true (sym (is.hashes (key k) (has_in (key k) settled e)).0))

  once : (s : Secret) → has settled s ≡ false → times s (secrets_in P) ≤ 1
  once s h = elim (cases_Bool (is_key s)) [ inl e ↦ keys_once s e | inr f ↦ is.others s f h ]

  settled_in : (s : Secret) → In s settled → In s all
  settled_in s i = has_in s all (is.hashes s i).1

  -- ---- what is given, and an offer

  pub record Matches (given : Given) (f : Secret → Bool) (o : Offer) : Type 0 where
    pub delay : given.delay ≡ o.delay
    pub moment : given.moment ≡ o.moment
    pub known : (s : Secret) → In s (secrets_in P) → has settled s ≡ true → has given.known s ≡ has o.secrets s
    pub asked : (s : Secret) → In s (secrets_in P) → has settled s ≡ false → f s ≡ has o.secrets s

  meets_given : (given : Given) (f : Secret → Bool) (o : Offer) → Matches given f o → AreInRange o →
      holds (setting_of settled given) P (picked settled f P) ≡ meets P o
  meets_given given f o m range =
      picked_holds settled given f P ∙ same_truth (facts_given settled given f) (facts_with o.secrets (numbers_of o)) P (record {
        signs = λ k i.
            let s = in_found secret_in (policy.key k) (key k) (leaves P) i refl in
            and_true (f (key k)) (has settled (key k)) (keys_asked k) ∙ m.asked (key k) s (keys_asked k);
        older = λ n i.
            let lock = locks_of P locks (older n) i in
            let most = lock.most in
            ap (λ d. no_later (Some (delay_of n)) d) m.delay ∙ sym (older_held o n range.0 most);
        after = λ n i.
            let lock = locks_of P locks (after n) i in
            let least = lock.least in
            ap (λ d. no_later_moment (Some (moment_of n)) d) m.moment ∙ sym (after_held o n range.0 range.1 least);
        knows = λ kind value i.
            let s = in_found secret_in (hash kind value) (preimage kind value) (leaves P) i refl in
            elim (cases_Bool (has settled (preimage kind value))) [
              | inl t ↦ let k = m.known (preimage kind value) s t in rw t k
              | inr n ↦ let k = and_true (f (preimage kind value)) (has settled (preimage kind value)) n ∙ m.asked (preimage kind value) s n in
                  chosen (has settled (preimage kind value)) (has given.known (preimage kind value)) (asked settled f (preimage kind value)) n ∙ k
            ];
      })
    where
      chosen : (b x y : Bool) → b ≡ false → (if b then x else y) ≡ y
      chosen b x y e = rw e refl

  pub in_offer : (given : Given) (x : Choice) (s : Secret) → In s all → (In s given.known) ⊎ (In s (taken P x)) → In s (offer_of tree given x).secrets
  in_offer given x s i h = in_filter (λ s. has given.known s || has (taken P x) s) s all i (elim h [
    | inl k ↦ or_first (has given.known s) (has (taken P x) s) (in_has s given.known k)
    | inr t ↦ or_second (has given.known s) (has (taken P x) s) (in_has s (taken P x) t)
  ])

  pub of_offer : (given : Given) (x : Choice) (s : Secret) → In s (offer_of tree given x).secrets → (In s given.known) ⊎ (In s (taken P x))
  of_offer given x s i =
      let f = of_filter (λ s. has given.known s || has (taken P x) s) s all i in
      elim (either (has given.known s) (has (taken P x) s) f.1) [
        | inl k ↦ inl (has_in s given.known k)
        | inr t ↦ inr (has_in s (taken P x) t)
      ]

  -- what a choice takes isn't settled
  abbrev pub IsUnsettled : Choice → Type 0
  IsUnsettled x = (s : Secret) → In s (taken P x) → has settled s ≡ false

  abbrev pub AreSettled : List Secret → Type 0
  AreSettled known = (s : Secret) → In s known → In s settled

  both : {A : Type 0} (s : Secret) → In s settled → has settled s ≡ false → A
  both s i e = absurd (false≢true (sym e ∙ in_has s settled i))

  offer_matches : (given : Given) (f : Secret → Bool) (x : Choice) → AreSettled given.known → IsUnsettled x →
      ((s : Secret) → In s (secrets_in P) → has settled s ≡ false → f s ≡ has (taken P x) s) → Matches given f (offer_of tree given x)
  offer_matches given f x are un same = record {
    delay = refl;
    moment = refl;
    known = λ s i t. agree (has given.known s) (has (offer_of tree given x).secrets s)
        (λ e. in_has s (offer_of tree given x).secrets (in_offer given x s (settled_in s (has_in s settled t)) (inl (has_in s given.known e))))
        (λ e. elim (of_offer given x s (has_in s (offer_of tree given x).secrets e)) [
          | inl k ↦ in_has s given.known k
          | inr u ↦ both s (has_in s settled t) (un s u)
        ]);
    asked = λ s i n. same s i n ∙ agree (has (taken P x) s) (has (offer_of tree given x).secrets s)
        (λ e. in_has s (offer_of tree given x).secrets (in_offer given x s (named_in s i) (inr (has_in s (taken P x) e))))
        (λ e. elim (of_offer given x s (has_in s (offer_of tree given x).secrets e)) [
          | inl k ↦ both s (are s k) n
          | inr u ↦ in_has s (taken P x) u
        ]);
  }

  picked_unsettled : (f : Secret → Bool) → IsUnsettled (picked settled f P)
  picked_unsettled f s i = (asks settled keys_asked f s (taken_picked settled f P s i)).1

  picked_same : (f : Secret → Bool) (s : Secret) → In s (secrets_in P) → has settled s ≡ false → f s ≡ has (taken P (picked settled f P)) s
  picked_same f s i n = agree (f s) (has (taken P (picked settled f P)) s)
      (λ e. in_has s (taken P (picked settled f P)) (picked_taken settled f P s i (ask settled keys_asked f s n e)))
      (λ e. (asks settled keys_asked f s (taken_picked settled f P s (has_in s (taken P (picked settled f P)) e))).0)

  -- ---- least choices

  abbrev pub IsLeastWith : Given → Choice → Type 0
  IsLeastWith given x = IsLeast Choice IsWithin (part (setting_of settled given) P) x

  pub own : (given : Given) (x : Choice) → IsLeastWith given x → x ≡ picked settled (has (taken P x)) P
  own given x l =
      let same : clean settled P x ≡ x =
      l.least (clean settled P x) (clean_fits settled P x l.fits) (clean_holds settled given P x ∙ l.holds) (clean_within settled P x l.fits) in
      both_within x (picked settled (has (taken P x)) P)
      (subst (λ y. IsWithin y (picked settled (has (taken P x)) P)) same
      (clean_picked settled keys_asked (has (taken P x)) P x l.fits (λ s n i. in_has s (taken P x) i)))
      (picked_within settled keys_asked (has (taken P x)) P x l.fits once (λ s n i e. has_in s (taken P x) e))

  pub least_unsettled : (given : Given) (x : Choice) → IsLeastWith given x → IsUnsettled x
  least_unsettled given x l s i =
      picked_unsettled (has (taken P x)) s (subst (λ y. In s (taken P y)) (own given x l) i)

  pub least_meets : (given : Given) (x : Choice) → IsLeastWith given x → AreSettled given.known → AreInRange (offer_of tree given x) →
      enough tree (offer_of tree given x) ≡ true
  least_meets given x l are range =
      sym (meets_given given (has (taken P x)) (offer_of tree given x) (offer_matches given (has (taken P x)) x are (least_unsettled given x l) (λ s i n. refl)) range)
      ∙ subst (λ y. holds (setting_of settled given) P y ≡ true) (own given x l) l.holds

  -- ---- earlier settings

  pub record IsEarlierGiven (a b : Given) : Type 0 where
    pub delay : no_later a.delay b.delay ≡ true
    pub moment : no_later_moment a.moment b.moment ≡ true
    pub known : (s : Secret) → In s a.known → In s b.known

  earlier : (a b : Given) → IsEarlierGiven a b → IsEarlier (setting_of settled a) (setting_of settled b)
  earlier a b e = record {
    older = λ n h. delays_are.through (Some (delay_of n)) a.delay b.delay h e.delay;
    after = λ n h. moments_are.through (Some (moment_of n)) a.moment b.moment h e.moment;
    known = λ kind value. go (has settled (preimage kind value)) (has a.known (preimage kind value)) (has b.known (preimage kind value))
        (λ h. in_has (preimage kind value) b.known (e.known (preimage kind value) (has_in (preimage kind value) a.known h)));
  }
    where
      go : (b x y : Bool) → (x ≡ true → y ≡ true) → IsKnownLater (if b then Some x else None) (if b then Some y else None)
      go true x y f = f
      go false x y f = tt

  holds_more : (a b : Given) (x y : Choice) → IsEarlierGiven a b → fits P x ≡ true → fits P y ≡ true → IsWithin x y →
      holds (setting_of settled a) P x ≡ true → holds (setting_of settled b) P y ≡ true
  holds_more a b x y e f g w h =
      (policy_is_part (setting_of settled b) P).more x y f g w (holds_later (setting_of settled a) (setting_of settled b) (earlier a b e) P x h)

  -- ---- what is given

  pub record IsGiven (given : Given) : Type 0 where
    pub delay : In given.delay (or_none (delays_in_order P))
    pub moment : In given.moment (or_none (moments_in_order P))
    pub known : AreSomeOf given.known settled

  delay_listed : (d : Option Delay) → In d (or_none (delays_in_order P)) → In d (or_none (delays P))
  delay_listed d i = or_none_more (delays_in_order P) (delays P) (λ x. of_sorted (λ d. delay_numbers (Some d)) x (delays P)) d i

  moment_listed : (m : Option Moment) → In m (or_none (moments_in_order P)) → In m (or_none (moments P))
  moment_listed m i = or_none_more (moments_in_order P) (moments P) (λ x. of_sorted (λ m. locktime_of (Some m) ∷ []) x (moments P)) m i

  delay_ordered : (d : Option Delay) → In d (or_none (delays P)) → In d (or_none (delays_in_order P))
  delay_ordered d i = or_none_more (delays P) (delays_in_order P) (λ x. in_sorted (λ d. delay_numbers (Some d)) x (delays P)) d i

  moment_ordered : (m : Option Moment) → In m (or_none (moments P)) → In m (or_none (moments_in_order P))
  moment_ordered m i = or_none_more (moments P) (moments_in_order P) (λ x. in_sorted (λ m. locktime_of (Some m) ∷ []) x (moments P)) m i

  pub offer_is : (given : Given) (x : Choice) → In given.delay (or_none (delays_in_order P)) → In given.moment (or_none (moments_in_order P)) →
      IsOffer tree (offer_of tree given x)
  offer_is given x d m = record {
    delay = delay_range P locks given.delay (delay_listed given.delay d);
    moment = moment_range P locks given.moment (moment_listed given.moment m);
    secrets = filter_some (λ s. has given.known s || has (taken P x) s) all;
  }

  -- ---- below

  delay_steps : (g d : Option Delay) → In g (or_none (delays_in_order P)) → no_later g d ≡ true →
      (g ≡ d) ⊎ ((l : Option Delay) × In l (lower_delays (delays_in_order P) d) × (no_later g l ≡ true))
  delay_steps =
      one_step no_later delays_are same_delay same_delay_own same_delay_is (before (λ d. delay_numbers (Some d))) before_no_later
      (delays_in_order P) (delays_sorted P locks) (lower_delays (delays_in_order P)) refl (λ d. refl)

  moment_steps : (g d : Option Moment) → In g (or_none (moments_in_order P)) → no_later_moment g d ≡ true →
      (g ≡ d) ⊎ ((l : Option Moment) × In l (lower_moments (moments_in_order P) d) × (no_later_moment g l ≡ true))
  moment_steps =
      one_step no_later_moment moments_are same_moment same_moment_own same_moment_is (before (λ m. locktime_of (Some m) ∷ [])) before_no_later_moment
      (moments_in_order P) (moments_sorted P locks) (lower_moments (moments_in_order P)) refl (λ d. refl)

  delay_lowers : (d l : Option Delay) → In l (lower_delays (delays_in_order P) d) → In l (or_none (delays_in_order P)) × (no_later l d ≡ true) × (l ≡ d → ⊥)
  delay_lowers =
      lowers_are no_later delays_are same_delay same_delay_own same_delay_is (before (λ d. delay_numbers (Some d))) before_no_later
      (delays_in_order P) (delays_sorted P locks) (lower_delays (delays_in_order P)) refl (λ d. refl)

  moment_lowers : (d l : Option Moment) → In l (lower_moments (moments_in_order P) d) →
      In l (or_none (moments_in_order P)) × (no_later_moment l d ≡ true) × (l ≡ d → ⊥)
  moment_lowers =
      lowers_are no_later_moment moments_are same_moment same_moment_own same_moment_is (before (λ m. locktime_of (Some m) ∷ [])) before_no_later_moment
      (moments_in_order P) (moments_sorted P locks) (lower_moments (moments_in_order P)) refl (λ d. refl)

  abbrev at_delay : Given → Option Delay → Given
  at_delay given = λ delay. record { delay = delay; moment = given.moment; known = given.known }

  abbrev at_moment : Given → Option Moment → Given
  at_moment given = λ moment. record { delay = given.delay; moment = moment; known = given.known }

  abbrev at_known : Given → List Secret → Given
  at_known given = λ known. record { delay = given.delay; moment = given.moment; known = known }

  abbrev below_delays : Given → List Given
  below_delays given = map (at_delay given) (lower_delays (delays_in_order P) given.delay)

  abbrev below_moments : Given → List Given
  below_moments given = map (at_moment given) (lower_moments (moments_in_order P) given.moment)

  abbrev below_knowns : Given → List Given
  below_knowns given = map (at_known given) (without_one given.known)

  -- a setting just below: it isn't this one
  pub record IsBelow (given less : Given) : Type 0 where
    pub is_earlier : IsEarlierGiven less given
    pub delay : In less.delay (or_none (delays_in_order P))
    pub moment : In less.moment (or_none (moments_in_order P))
    pub differs : (less.delay ≡ given.delay → ⊥) ⊎ ((less.moment ≡ given.moment → ⊥) ⊎ ((s : Secret) × In s given.known × (In s less.known → ⊥)))

  below_is : (given less : Given) → IsGiven given → AreOnce given.known → In less (below P given) → IsBelow given less
  below_is given less g o h = elim (in_either less (below_delays given ++ below_moments given) (below_knowns given) h) [
    | inr k ↦
        let m = of_map (at_known given) less (without_one given.known) k in
        let is = one_less_is given.known m.source o m.listed in
        subst (IsBelow given) (sym m.is) (record {
          is_earlier = record { delay = delays_are.own given.delay; moment = moments_are.own given.moment; known = is.fewer };
          delay = g.delay;
          moment = g.moment;
          differs = inr (inr (is.gone, is.there, is.away));
        })
    | inl r ↦ elim (in_either less (below_delays given) (below_moments given) r) [
      | inl l ↦
          let m = of_map (at_delay given) less (lower_delays (delays_in_order P) given.delay) l in
          let is = delay_lowers given.delay m.source m.listed in
          subst (IsBelow given) (sym m.is) (record {
            is_earlier = record { delay = is.1; moment = moments_are.own given.moment; known = λ s i. i };
            delay = is.0;
            moment = g.moment;
            differs = inl is.2;
          })
      | inr l ↦
          let m = of_map (at_moment given) less (lower_moments (moments_in_order P) given.moment) l in
          let is = moment_lowers given.moment m.source m.listed in
          subst (IsBelow given) (sym m.is) (record {
            is_earlier = record { delay = delays_are.own given.delay; moment = is.1; known = λ s i. i };
            delay = g.delay;
            moment = is.0;
            differs = inr (inl is.2);
          })
    ]
  ]

  -- what is earlier is the same, or no later than one just below
  missing : (known some : List Secret) → ((s : Secret) → In s known → In s some) ⊎ ((s : Secret) × In s known × (In s some → ⊥))
  missing [] some = inl (λ s h. absurd h)
  missing (x ∷ known) some = elim (cases_Bool (has some x)) [
    | inl e ↦ elim (missing known some) [
      | inl h ↦ inl (λ s i. elim i [ inl same ↦ subst (λ t. In t some) (sym same) (has_in x some e) | inr j ↦ h s j ])
      | inr m ↦ inr (m.0, inr m.1, m.2)
    ]
    | inr f ↦ inr (x, inl refl, λ i. false≢true (sym f ∙ in_has x some i))
  ]

  pub record IsSameGiven (a b : Given) : Type 0 where
    pub delay : a.delay ≡ b.delay
    pub moment : a.moment ≡ b.moment
    pub known : (s : Secret) → In s b.known → In s a.known

  steps : (a given : Given) → In a.delay (or_none (delays_in_order P)) → In a.moment (or_none (moments_in_order P)) → IsEarlierGiven a given →
      (IsSameGiven a given) ⊎ ((less : Given) × In less (below P given) × IsEarlierGiven a less)
  steps a given d m e = elim (delay_steps a.delay given.delay d e.delay) [
    | inr l ↦ inr (
      at_delay given l.0,
      in_left (at_delay given l.0) (below_delays given ++ below_moments given) (below_knowns given)
          (in_left (at_delay given l.0) (below_delays given) (below_moments given) (in_map (at_delay given) l.0 (lower_delays (delays_in_order P) given.delay) l.1)),
      record { delay = l.2; moment = e.moment; known = e.known },
    )
    | inl delays_same ↦ elim (moment_steps a.moment given.moment m e.moment) [
      | inr l ↦ inr (
        at_moment given l.0,
        in_left (at_moment given l.0) (below_delays given ++ below_moments given) (below_knowns given)
            (in_right (at_moment given l.0) (below_delays given) (below_moments given)
            (in_map (at_moment given) l.0 (lower_moments (moments_in_order P) given.moment) l.1)),
        record { delay = e.delay; moment = l.2; known = e.known },
      )
      | inl moments_same ↦ elim (missing given.known a.known) [
        | inl h ↦ inl (record { delay = delays_same; moment = moments_same; known = h })
        | inr s ↦
            let r = left_out given.known s.0 s.1 in
            inr (
              at_known given r.0,
              in_right (at_known given r.0) (below_delays given ++ below_moments given) (below_knowns given)
                  (in_map (at_known given) r.0 (without_one given.known) r.1),
              record {
                delay = e.delay;
                moment = e.moment;
                known = λ t i. r.2 t (e.known t i) (λ same. s.2 (subst (λ u. In u a.known) same i));
              },
            )
      ]
    ]
  ]

  -- ---- each fresh choice makes a way

  pub least_of_fresh : (given : Given) (x : Choice) → In x (fresh settled P given) → IsLeastWith given x
  least_of_fresh given x h =
      ((leasts_are_least (setting_of settled given) P).0 x).0 (of_filter (is_fresh settled P given) x (leasts (setting_of settled given) P) h).0

  not_below : (given : Given) (x : Choice) → In x (fresh settled P given) → (less : Given) → In less (below P given) →
      holds (setting_of settled less) P x ≡ true → ⊥
  not_below given x h less i e =
      let f = of_filter (is_fresh settled P given) x (leasts (setting_of settled given) P) h in
      false≢true (sym (ap not (any_of (λ less. holds (setting_of settled less) P x) less (below P given) i e)) ∙ f.1)

  abbrev given_by : Offer → Given
  given_by o = record { delay = o.delay; moment = o.moment; known = filter (has o.secrets) settled }

  known_by : (o : Offer) (s : Secret) → In s (given_by o).known → In s settled × In s o.secrets
  known_by o s i = let f = of_filter (has o.secrets) s settled i in (f.0, has_in s o.secrets f.1)

  by_known : (o : Offer) (s : Secret) → In s settled → In s o.secrets → In s (given_by o).known
  by_known o s i j = in_filter (has o.secrets) s settled i (in_has s o.secrets j)

  given_matches : (o : Offer) → Matches (given_by o) (has o.secrets) o
  given_matches o = record {
    delay = refl;
    moment = refl;
    known = λ s i t. agree (has (given_by o).known s) (has o.secrets s)
        (λ e. in_has s o.secrets (known_by o s (has_in s (given_by o).known e)).1)
        (λ e. in_has s (given_by o).known (by_known o s (has_in s settled t) (has_in s o.secrets e)));
    asked = λ s i n. refl;
  }

  given_holds : (o : Offer) → AreInRange o → holds (setting_of settled (given_by o)) P (picked settled (has o.secrets) P) ≡ meets P o
  given_holds o range = meets_given (given_by o) (has o.secrets) o (given_matches o) range

  module _ (given : Given) (x : Choice) (g : IsGiven given) (h : In x (fresh settled P given)) where
    abbrev offer : Offer
    offer = offer_of tree given x

    least : IsLeastWith given x
    least = least_of_fresh given x h

    are_settled : AreSettled given.known
    are_settled s i = in_all given.known settled g.known s i

    fits_tree : IsOffer tree offer
    fits_tree = offer_is given x g.delay g.moment

    -- an offer with its locks among those of the policy, that is no more
    module _ (b : Offer) (i : IsOffer tree b) (e : enough tree b ≡ true) (n : IsNoMore b offer)
        (d : In b.delay (or_none (delays_in_order P))) (m : In b.moment (or_none (moments_in_order P))) where
      abbrev y : Choice
      y = picked settled (has b.secrets) P

      y_fits : fits P y ≡ true
      y_fits = picked_fits settled (has b.secrets) P

      y_holds : holds (setting_of settled (given_by b)) P y ≡ true
      y_holds = given_holds b (in_range tree b i) ∙ e

      y_within : IsWithin y x
      y_within = subst (λ z. IsWithin y z) (sym (own given x least))
          (picked_more settled (has b.secrets) (has (taken P x)) (λ s a.
          let is = asks settled keys_asked (has b.secrets) s a in
          ask settled keys_asked (has (taken P x)) s is.1 (elim (of_offer given x s (n.secrets s (has_in s b.secrets is.0))) [
            | inl k ↦ both s (are_settled s k) is.1
            | inr t ↦ in_has s (taken P x) t
          ])) P)

      b_earlier : IsEarlierGiven (given_by b) given
      b_earlier = record {
        delay = n.delay;
        moment = n.moment;
        known = λ s k. let is = known_by b s k in elim (of_offer given x s (n.secrets s is.1)) [
          | inl known ↦ known
          | inr t ↦ both s is.0 (least_unsettled given x least s t)
        ];
      }

      same_given : IsSameGiven (given_by b) given
      same_given = elim (steps (given_by b) given d m b_earlier) [
        | inl same ↦ same
        | inr l ↦ absurd (not_below given x h l.0 l.1 (holds_more (given_by b) l.0 y x l.2 y_fits least.fits y_within y_holds))
      ]

      y_same : y ≡ x
      y_same = least.least y y_fits (holds_more (given_by b) given y y b_earlier y_fits y_fits (picked_more settled (has b.secrets) (has b.secrets) (λ s a. a) P) y_holds) y_within

      back : IsNoMore offer b
      back = record {
        secrets = λ s j. elim (of_offer given x s j) [
          | inl k ↦ (known_by b s (same_given.known s k)).1
          | inr t ↦
              let a = taken_picked settled (has b.secrets) P s (subst (λ z. In s (taken P z)) (sym y_same) t) in
              has_in s b.secrets (asks settled keys_asked (has b.secrets) s a).0
        ];
        delay = subst (λ o. no_later o b.delay ≡ true) same_given.delay (delays_are.own b.delay);
        moment = subst (λ o. no_later_moment o b.moment ≡ true) same_given.moment (moments_are.own b.moment);
      }

    pub fresh_is_way : IsWay tree offer
    fresh_is_way = record {
      fits = fits_tree;
      suffices = least_meets given x least are_settled (in_range tree offer fits_tree);
      least = λ b i e h.
          let more = is_no_more b offer h in
          let down = low_no_more tree locks b in
          let low_b = low P locks b in
          let up = back low_b (low_is tree locks b i) (low_enough tree locks b i e) (no_more_through low_b b offer down more)
          (delay_ordered low_b.delay (lower_delay P locks b.delay).listed) (moment_ordered low_b.moment (lower_moment P locks b.moment).listed) in
          no_more_both tree b offer i fits_tree more (no_more_through offer low_b b up down);
    }

  -- ---- each way is made by one

  pub record IsFound (o : Offer) : Type 0 where
    pub given : Given
    pub choice : Choice
    pub is_given : IsGiven given
    pub listed : In choice (fresh settled P given)
    pub same : offer_of tree given choice ≡ o

  module _ (o : Offer) (w : IsWay tree o) where
    abbrev given : Given
    given = given_by o

    abbrev x : Choice
    x = picked settled (has o.secrets) P

    range : AreInRange o
    range = in_range tree o w.fits

    delay_there : In o.delay (or_none (delays_in_order P))
    delay_there =
        delay_ordered o.delay (subst (λ b. In b (or_none (delays P))) (ap (λ b. b.delay) (way_low tree locks o w)) (lower_delay P locks o.delay).listed)

    moment_there : In o.moment (or_none (moments_in_order P))
    moment_there =
        moment_ordered o.moment (subst (λ b. In b (or_none (moments P))) (ap (λ b. b.moment) (way_low tree locks o w)) (lower_moment P locks o.moment).listed)

    given_there : IsGiven given
    given_there = record { delay = delay_there; moment = moment_there; known = filter_some (has o.secrets) settled }

    x_fits : fits P x ≡ true
    x_fits = picked_fits settled (has o.secrets) P

    x_holds : holds (setting_of settled given) P x ≡ true
    x_holds = given_holds o range ∙ w.suffices

    -- what is enough with no more of what is given, and a choice within, is the offer
    abbrev is_same : (less : Given) (y : Choice) → Type 0
    is_same less y = offer_of tree less y ≡ o

    all_same : (less : Given) (y : Choice) → IsEarlierGiven less given → In less.delay (or_none (delays_in_order P)) → In less.moment (or_none (moments_in_order P)) →
        fits P y ≡ true → IsWithin y x → holds (setting_of settled less) P y ≡ true → is_same less y
    all_same less y e d m f v held =
        let fits_tree = offer_is less y d m in
        let known_settled : AreSettled less.known = λ s i. (known_by o s (e.known s i)).0 in
        let un : IsUnsettled y = λ s i. picked_unsettled (has o.secrets) s (taken_more P y x v s i) in
        let z = picked settled (has (taken P y)) P in
        let clean_z = clean_picked settled keys_asked (has (taken P y)) P y f (λ s n i. in_has s (taken P y) i) in
        let z_holds = (policy_is_part (setting_of settled less) P).more (clean settled P y) z (clean_fits settled P y f) (picked_fits settled (has (taken P y)) P) clean_z
        (clean_holds settled less P y ∙ held) in
        let enough_too = sym (meets_given less (has (taken P y)) (offer_of tree less y) (offer_matches less (has (taken P y)) y known_settled un (λ s i n. refl))
        (in_range tree (offer_of tree less y) fits_tree)) ∙ z_holds in
        w.least (offer_of tree less y) fits_tree enough_too (no_more_is (offer_of tree less y) o (record {
          secrets = λ s i. elim (of_offer less y s i) [
            | inl k ↦ (known_by o s (e.known s k)).1
            | inr t ↦ has_in s o.secrets (asks settled keys_asked (has o.secrets) s (taken_picked settled (has o.secrets) P s (taken_more P y x v s t))).0
          ];
          delay = e.delay;
          moment = e.moment;
        }))

    own_earlier : IsEarlierGiven given given
    own_earlier = record { delay = delays_are.own o.delay; moment = moments_are.own o.moment; known = λ s i. i }

    own_within : IsWithin x x
    own_within = picked_more settled (has o.secrets) (has o.secrets) (λ s a. a) P

    x_least : IsLeastWith given x
    x_least = record {
      fits = x_fits;
      holds = x_holds;
      least = λ y f held v.
          let same = all_same given y own_earlier delay_there moment_there f v held in
          both_within y x v (picked_within settled keys_asked (has o.secrets) P y f once (λ s n i e.
          elim (of_offer given y s (subst (λ b. In s b.secrets) (sym same) (has_in s o.secrets e))) [
            | inl k ↦ both s (known_by o s k).0 n
            | inr t ↦ t
          ]));
    }

    x_fresh : is_fresh settled P given x ≡ true
    x_fresh = ap not (refused (list_any (λ less. holds (setting_of settled less) P x) (below P given)) (λ e.
        let l = one_of (λ less. holds (setting_of settled less) P x) (below P given) e in
        let b = below_is given l.one given_there (once_known settled is.once) l.listed in
        let same = all_same l.one x b.is_earlier b.delay b.moment x_fits own_within l.passes in
        elim b.differs [
          | inl differ ↦ differ (ap (λ a. a.delay) same)
          | inr r ↦ elim r [
            | inl differ ↦ differ (ap (λ a. a.moment) same)
            | inr s ↦
                let known = known_by o s.0 s.1 in
                elim (of_offer l.one x s.0 (subst (λ a. In s.0 a.secrets) (sym same) known.1)) [
                  | inl k ↦ s.2 k
                  | inr t ↦ both s.0 known.0 (picked_unsettled (has o.secrets) s.0 t)
                ]
          ]
        ]))
      where
        once_known : (all : List Secret) → AreOnce all → AreOnce (filter (has o.secrets) all)
        once_known all h = once_filter (has o.secrets) all h

    pub way_is_found : IsFound o
    way_is_found = record {
      given = given;
      choice = x;
      is_given = given_there;
      listed = in_filter (is_fresh settled P given) x (leasts (setting_of settled given) P)
          (((leasts_are_least (setting_of settled given) P).0 x).1 x_least) x_fresh;
      same = all_same given x own_earlier delay_there moment_there x_fits own_within x_holds;
    }
