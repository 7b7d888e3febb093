-- An offer's locks may be lowered to the greatest of a policy's that are no later: the policy is met as before.
use Rattle.std.proofs.Common.{◌≡◌, inl, inr, ℕ, ◌%◌, ◌^◌, ◌<◌, ◌≤◌, ◌==◌, nat_lt, nat_le, Bool, true, false, not, List, [], ◌∷◌, filter_map, Option, Some, refl, sym, ◌∙◌, ap, subst, arith, if◌then◌else◌}
use Rattle.std.specs.Prelude.{bit_and, IfSome}
use Rattle.std.specs.List.{list_any, list_all}
use Rattle.std.proofs.lemmas.Bool.{cases_Bool, false≢true}
use Rattle.std.proofs.lemmas.Bool.Decides.{nat_tests}
use Rattle.def_machine.specs.Locks.{LOCKTIME_THRESHOLD, SEQUENCE_LOCKTIME_TYPE_FLAG}
use Rattle.def_hash.specs.declared.HashKind.{HashKind}
use Rattle.def_script.specs.Bytes.{Bytes}
use Rattle.def_tree.specs.Tree.{Key}
use Rattle.def_policy.specs.Policy.{Policy, Policies, never, always, key, older, after, hash, all, any, thresh, none, more}
use Rattle.def_policy.specs.Size.{IsLock, HasLocks, HaveLocks}
use Rattle.def_policy.specs.Truth.{Facts, how_many, is_true, truths}
use Rattle.def_ways.specs.declared.Delay.{Delay}
use Rattle.def_ways.specs.declared.Delay.TheVariants.{Blocks, Units}
use Rattle.def_ways.specs.declared.Moment.{Moment}
use Rattle.def_ways.specs.declared.Moment.TheVariants.{Height, Time}
use Rattle.def_ways.specs.Offer.{Offer, IsDelay, IsMoment, numbers_of, no_later, no_later_moment}
use Rattle.def_ways.specs.Enough.{facts_with, meets}
use Rattle.def_ways.specs.Tried.{or_none, with_locks}
use Rattle.def_ways.specs.Bound.{leaves, leaves_of, delay_of, moment_of, delay_in, moment_in, same_delay, same_moment, once, delays, moments}
use Rattle.ms_way_laws.specs.Listed.{In, AreOnce}
use Rattle.ms_way_laws.specs.More.{AreInRange}
use Rattle.ms_way_laws.proofs.Listed.{in_left, in_right, in_either}
use Rattle.ms_way_laws.proofs.Lists.{in_filter, of_filter, once_filter, in_found, of_found, of_map}
use Rattle.ms_way_laws.proofs.SomeOf.{agree}
use Rattle.ms_way_laws.proofs.LocksHeld.{older_held, after_held}
use Rattle.ms_way_laws.proofs.NoLater.{delays_are, moments_are, IsLowered, lowered}

-- ---- leaves

-- what is true of a policy is told by its leaves
pub record Agree (few many : Facts) (parts : List Policy) : Type 0 where
  pub signs : (k : Key) → In (key k) parts → few.signs k ≡ many.signs k
  pub older : (n : ℕ) → In (older n) parts → few.older n ≡ many.older n
  pub after : (n : ℕ) → In (after n) parts → few.after n ≡ many.after n
  pub knows : (kind : HashKind) (value : Bytes) → In (hash kind value) parts → few.knows kind value ≡ many.knows kind value

module _ (few many : Facts) where
  fewer : (parts whole : List Policy) → ((part : Policy) → In part parts → In part whole) → Agree few many whole → Agree few many parts
  fewer parts whole within h = record {
    signs = λ k i. h.signs k (within (key k) i);
    older = λ n i. h.older n (within (older n) i);
    after = λ n i. h.after n (within (after n) i);
    knows = λ kind value i. h.knows kind value (within (hash kind value) i);
  }

  mutual
    pub same_truth : (p : Policy) → Agree few many (leaves p) → is_true few p ≡ is_true many p
    same_truth never h = refl
    same_truth always h = refl
    same_truth (key k) h = h.signs k (inl refl)
    same_truth (older n) h = h.older n (inl refl)
    same_truth (after n) h = h.after n (inl refl)
    same_truth (hash kind value) h = h.knows kind value (inl refl)
    same_truth (all parts) h = ap (λ bs. list_all (λ b. b) bs) (same_truths parts h)
    same_truth (any parts) h = ap (λ bs. list_any (λ b. b) bs) (same_truths parts h)
    same_truth (thresh k parts) h = ap (λ bs. nat_le k (how_many bs)) (same_truths parts h)

    same_truths : (ps : Policies) → Agree few many (leaves_of ps) → truths few ps ≡ truths many ps
    same_truths none h = refl
    same_truths (more x xs) h =
        ap (λ b. b ∷ truths few xs) (same_truth x (fewer (leaves x) (leaves_of (more x xs)) (λ part i. in_left part (leaves x) (leaves_of xs) i) h))
        ∙ ap (λ bs. is_true many x ∷ bs) (same_truths xs (fewer (leaves_of xs) (leaves_of (more x xs)) (λ part i. in_right part (leaves x) (leaves_of xs) i) h))

-- the operands of leaves are in range
mutual
  pub locks_of : (p : Policy) → HasLocks p → (part : Policy) → In part (leaves p) → HasLocks part
  locks_of never l part (inl e) = subst HasLocks (sym e) tt
  locks_of always l part (inl e) = subst HasLocks (sym e) tt
  locks_of (key k) l part (inl e) = subst HasLocks (sym e) tt
  locks_of (older n) l part (inl e) = subst HasLocks (sym e) l
  locks_of (after n) l part (inl e) = subst HasLocks (sym e) l
  locks_of (hash kind value) l part (inl e) = subst HasLocks (sym e) tt
  locks_of never l part (inr h) = absurd h
  locks_of always l part (inr h) = absurd h
  locks_of (key k) l part (inr h) = absurd h
  locks_of (older n) l part (inr h) = absurd h
  locks_of (after n) l part (inr h) = absurd h
  locks_of (hash kind value) l part (inr h) = absurd h
  locks_of (all parts) l part h = locks_of_parts parts l part h
  locks_of (any parts) l part h = locks_of_parts parts l part h
  locks_of (thresh k parts) l part h = locks_of_parts parts l part h

  locks_of_parts : (ps : Policies) → HaveLocks ps → (part : Policy) → In part (leaves_of ps) → HasLocks part
  locks_of_parts none l part h = absurd h
  locks_of_parts (more x xs) l part h = elim (in_either part (leaves x) (leaves_of xs) h) [
    | inl i ↦ locks_of x l.0 part i
    | inr i ↦ locks_of_parts xs l.1 part i
  ]

-- ---- each once

module _ {A : Type 0} (equal : A → A → Bool) (is : (x y : A) → equal x y ≡ true → x ≡ y) (own : (x : A) → equal x x ≡ true) where
  pub in_once : (x : A) (xs : List A) → In x xs → In x (once equal xs)
  in_once x [] h = absurd h
  in_once x (y ∷ ys) (inl e) = inl e
  in_once x (y ∷ ys) (inr h) = elim (cases_Bool (equal y x)) [
    | inl e ↦ inl (sym (is y x e))
    | inr f ↦ inr (in_filter (λ z. not (equal y z)) x (once equal ys) (in_once x ys h) (ap not f))
  ]

  pub of_once : (x : A) (xs : List A) → In x (once equal xs) → In x xs
  of_once x [] h = h
  of_once x (y ∷ ys) (inl e) = inl e
  of_once x (y ∷ ys) (inr h) = inr (of_once x ys (of_filter (λ z. not (equal y z)) x (once equal ys) h).0)

  pub once_once : (xs : List A) → AreOnce (once equal xs)
  once_once [] = tt
  once_once (y ∷ ys) = (
    (λ h. let f = of_filter (λ z. not (equal y z)) y (once equal ys) h in false≢true (sym (ap not (own y)) ∙ f.1)),
    once_filter (λ z. not (equal y z)) (once equal ys) (once_once ys),
  )

num_same : (n m : ℕ) → (n == m) ≡ true → n ≡ m
num_same n m e = grind (arith, nat_tests)

num_own : (n : ℕ) → (n == n) ≡ true
num_own n = grind (arith, nat_tests)

pub same_delay_is : (x y : Delay) → same_delay x y ≡ true → x ≡ y
same_delay_is (Blocks n) (Blocks m) e = ap Blocks (num_same n m e)
same_delay_is (Units n) (Units m) e = ap Units (num_same n m e)
same_delay_is (Blocks n) (Units m) e = absurd (false≢true e)
same_delay_is (Units n) (Blocks m) e = absurd (false≢true e)

pub same_delay_own : (x : Delay) → same_delay x x ≡ true
same_delay_own (Blocks n) = num_own n
same_delay_own (Units n) = num_own n

pub same_moment_is : (x y : Moment) → same_moment x y ≡ true → x ≡ y
same_moment_is (Height n) (Height m) e = ap Height (num_same n m e)
same_moment_is (Time n) (Time m) e = ap Time (num_same n m e)
same_moment_is (Height n) (Time m) e = absurd (false≢true e)
same_moment_is (Time n) (Height m) e = absurd (false≢true e)

pub same_moment_own : (x : Moment) → same_moment x x ≡ true
same_moment_own (Height n) = num_own n
same_moment_own (Time n) = num_own n

-- ---- the locks of a policy

delay_in_range : (n : ℕ) → IsDelay (delay_of n)
delay_in_range n = go (bit_and n SEQUENCE_LOCKTIME_TYPE_FLAG == 0)
  where
    go : (b : Bool) → IsDelay (if b then Blocks (n % 2 ^ 16) else Units (n % 2 ^ 16))
    go true = omega arith
    go false = omega arith

moment_in_range : (n : ℕ) → IsLock n → IsMoment (moment_of n)
moment_in_range n is = let l = is.least in let m = is.most in go (nat_lt n LOCKTIME_THRESHOLD) refl l m
  where
    below : (n : ℕ) → nat_lt n 500000000 ≡ true → n < 500000000
    below n e = grind (arith, nat_tests)

    above : (n : ℕ) → nat_lt n 500000000 ≡ false → 500000000 ≤ n
    above n e = grind (arith, nat_tests)

    go : (b : Bool) → nat_lt n LOCKTIME_THRESHOLD ≡ b → 1 ≤ n → n < 2 ^ 31 → IsMoment (if b then Height n else Time n)
    go true e l m = (l, below n e)
    go false e l m = (above n e, m)

delay_of_part : (part : Policy) (d : Delay) → delay_in part ≡ Some d → IsDelay d
delay_of_part (older n) d e = subst (λ o. IfSome o IsDelay) e (delay_in_range n)
delay_of_part never d e = subst (λ o. IfSome o IsDelay) e tt
delay_of_part always d e = subst (λ o. IfSome o IsDelay) e tt
delay_of_part (key k) d e = subst (λ o. IfSome o IsDelay) e tt
delay_of_part (after n) d e = subst (λ o. IfSome o IsDelay) e tt
delay_of_part (hash kind value) d e = subst (λ o. IfSome o IsDelay) e tt
delay_of_part (all parts) d e = subst (λ o. IfSome o IsDelay) e tt
delay_of_part (any parts) d e = subst (λ o. IfSome o IsDelay) e tt
delay_of_part (thresh k parts) d e = subst (λ o. IfSome o IsDelay) e tt

moment_of_part : (part : Policy) → HasLocks part → (m : Moment) → moment_in part ≡ Some m → IsMoment m
moment_of_part (after n) l m e = subst (λ o. IfSome o IsMoment) e (moment_in_range n l)
moment_of_part never l m e = subst (λ o. IfSome o IsMoment) e tt
moment_of_part always l m e = subst (λ o. IfSome o IsMoment) e tt
moment_of_part (key k) l m e = subst (λ o. IfSome o IsMoment) e tt
moment_of_part (older n) l m e = subst (λ o. IfSome o IsMoment) e tt
moment_of_part (hash kind value) l m e = subst (λ o. IfSome o IsMoment) e tt
moment_of_part (all parts) l m e = subst (λ o. IfSome o IsMoment) e tt
moment_of_part (any parts) l m e = subst (λ o. IfSome o IsMoment) e tt
moment_of_part (thresh k parts) l m e = subst (λ o. IfSome o IsMoment) e tt

module _ (p : Policy) (locks : HasLocks p) where
  pub once_delays : AreOnce (delays p)
  once_delays = once_once same_delay same_delay_is same_delay_own (filter_map delay_in (leaves p))

  pub once_moments : AreOnce (moments p)
  once_moments = once_once same_moment same_moment_is same_moment_own (filter_map moment_in (leaves p))

  has_delay : (n : ℕ) → In (older n) (leaves p) → In (delay_of n) (delays p)
  has_delay n h =
      in_once same_delay same_delay_is same_delay_own (delay_of n) (filter_map delay_in (leaves p))
      (in_found delay_in (older n) (delay_of n) (leaves p) h refl)

  has_moment : (n : ℕ) → In (after n) (leaves p) → In (moment_of n) (moments p)
  has_moment n h =
      in_once same_moment same_moment_is same_moment_own (moment_of n) (filter_map moment_in (leaves p))
      (in_found moment_in (after n) (moment_of n) (leaves p) h refl)

  pub delay_range : (d : Option Delay) → In d (or_none (delays p)) → IfSome d IsDelay
  delay_range d (inl e) = subst (λ o. IfSome o IsDelay) (sym e) tt
  delay_range d (inr h) =
      let s = of_map (λ x. Some x) d (delays p) h in
      let f = of_found delay_in s.source (leaves p)
      (of_once same_delay same_delay_is same_delay_own s.source (filter_map delay_in (leaves p)) s.listed) in
      subst (λ o. IfSome o IsDelay) (sym s.is) (delay_of_part f.source s.source f.is)

  pub moment_range : (m : Option Moment) → In m (or_none (moments p)) → IfSome m IsMoment
  moment_range m (inl e) = subst (λ o. IfSome o IsMoment) (sym e) tt
  moment_range m (inr h) =
      let s = of_map (λ x. Some x) m (moments p) h in
      let f = of_found moment_in s.source (leaves p)
      (of_once same_moment same_moment_is same_moment_own s.source (filter_map moment_in (leaves p)) s.listed) in
      subst (λ o. IfSome o IsMoment) (sym s.is) (moment_of_part f.source (locks_of p locks f.source f.listed) s.source f.is)

  abbrev delay_low : Option Delay → Option Delay
  delay_low d = (lowered no_later delays_are (delays p) d).0

  abbrev moment_low : Option Moment → Option Moment
  moment_low m = (lowered no_later_moment moments_are (moments p) m).0

  pub lower_delay : (d : Option Delay) → IsLowered no_later delays_are (delays p) d (delay_low d)
  lower_delay d = (lowered no_later delays_are (delays p) d).1

  pub lower_moment : (m : Option Moment) → IsLowered no_later_moment moments_are (moments p) m (moment_low m)
  lower_moment m = (lowered no_later_moment moments_are (moments p) m).1

  abbrev pub low : Offer → Offer
  low offer = with_locks (delay_low offer.delay) (moment_low offer.moment) offer.secrets

  pub low_range : (offer : Offer) → AreInRange (low offer)
  low_range offer = (
    delay_range (delay_low offer.delay) (lower_delay offer.delay).listed,
    moment_range (moment_low offer.moment) (lower_moment offer.moment).listed,
  )

  -- lowered it meets the policy as before
  pub low_meets : (offer : Offer) → AreInRange offer → meets p (low offer) ≡ meets p offer
  low_meets offer range = same_truth (facts_with offer.secrets (numbers_of (low offer))) (facts_with offer.secrets (numbers_of offer)) p (record {
    signs = λ k i. refl;
    older = λ n i.
        let lock = locks_of p locks (older n) i in
        let most = lock.most in
        let is = lower_delay offer.delay in
        older_held (low offer) n (low_range offer).0 most
        ∙ agree (no_later (Some (delay_of n)) (delay_low offer.delay)) (no_later (Some (delay_of n)) offer.delay)
        (λ e. delays_are.through (Some (delay_of n)) (delay_low offer.delay) offer.delay e is.lower)
        (λ e. is.greatest (delay_of n) (has_delay n i) e)
        ∙ sym (older_held offer n range.0 most);
    after = λ n i.
        let lock = locks_of p locks (after n) i in
        let least = lock.least in
        let is = lower_moment offer.moment in
        after_held (low offer) n (low_range offer).0 (low_range offer).1 least
        ∙ agree (no_later_moment (Some (moment_of n)) (moment_low offer.moment)) (no_later_moment (Some (moment_of n)) offer.moment)
        (λ e. moments_are.through (Some (moment_of n)) (moment_low offer.moment) offer.moment e is.lower)
        (λ e. is.greatest (moment_of n) (has_moment n i) e)
        ∙ sym (after_held offer n range.0 range.1 least);
    knows = λ kind value i. refl;
  })
