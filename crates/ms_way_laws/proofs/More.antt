-- A policy that is true stays true where more atoms are.
use Rattle.std.proofs.Common.{◌≡◌, ◌≤◌, Bool, true, false, ◌&&◌, ◌||◌, List, [], ◌∷◌, Option, Some, None, sym, ◌∙◌, subst, inl, inr, arith, if◌then◌else◌}
use Rattle.std.specs.List.{list_any, list_all}
use Rattle.std.proofs.lemmas.Bool.{cases_Bool, and_parts, leb-true, le-leb, false≢true}
use Rattle.std.proofs.lemmas.Bool.Decides.{nat_tests}
use Rattle.def_policy.specs.Policy.{Policy, Policies, never, always, key, older, after, hash, all, any, thresh, none, more}
use Rattle.def_policy.specs.Size.{HasLocks, HaveLocks}
use Rattle.def_policy.specs.Truth.{Facts, how_many, is_true, truths}
use Rattle.def_ways.specs.declared.Delay.{Delay}
use Rattle.def_ways.specs.declared.Delay.TheVariants.{Blocks, Units}
use Rattle.def_ways.specs.declared.Moment.{Moment}
use Rattle.def_ways.specs.declared.Moment.TheVariants.{Height, Time}
use Rattle.def_ways.specs.Secret.{Secret, preimage, same}
use Rattle.def_ways.specs.Secret as secret
use Rattle.def_ways.specs.Offer.{numbers_of, has, no_later, no_later_moment}
use Rattle.def_ways.specs.Enough.{facts_with}
use Rattle.def_ways.specs.Bound.{delay_of, moment_of}
use Rattle.ms_way_laws.specs.More.{AreMore, TrueWithMore, MoreMeet}
use Rattle.ms_way_laws.proofs.SameTruth.{same_is}
use Rattle.ms_way_laws.proofs.LocksHeld.{older_held, after_held}

or_more : (a b c d : Bool) → (a ≡ true → c ≡ true) → (b ≡ true → d ≡ true) → (a || b) ≡ true → (c || d) ≡ true
or_more a b c d f g h = grind arith

and_more : (a b c d : Bool) → (a ≡ true → c ≡ true) → (b ≡ true → d ≡ true) → (a && b) ≡ true → (c && d) ≡ true
and_more a b c d f g h = grind arith

one_more : (a b : Bool) → (a ≡ true → b ≡ true) → (if a then 1 else 0) ≤ (if b then 1 else 0)
one_more a b f = grind arith

module _ (few many : Facts) (are : AreMore few many) where
  mutual
    true_with_more : (p : Policy) → HasLocks p → is_true few p ≡ true → is_true many p ≡ true
    true_with_more never l e = e
    true_with_more always l e = e
    true_with_more (key k) l e = are.signs k e
    true_with_more (older n) l e = are.older n l e
    true_with_more (after n) l e = are.after n l e
    true_with_more (hash kind value) l e = are.knows kind value e
    true_with_more (all parts) l e = all_with_more parts l e
    true_with_more (any parts) l e = any_with_more parts l e
    true_with_more (thresh k parts) l e =
        let enough = leb-true _ _ e in
        let rest = many_with_more parts l in
        le-leb _ _ (omega (arith, enough, rest))

    all_with_more : (xs : Policies) → HaveLocks xs → list_all (λ b. b) (truths few xs) ≡ true → list_all (λ b. b) (truths many xs) ≡ true
    all_with_more none l e = e
    all_with_more (more x xs) l e =
        and_more (is_true few x) (list_all (λ b. b) (truths few xs)) (is_true many x) (list_all (λ b. b) (truths many xs))
        (true_with_more x l.0) (all_with_more xs l.1) e

    any_with_more : (xs : Policies) → HaveLocks xs → list_any (λ b. b) (truths few xs) ≡ true → list_any (λ b. b) (truths many xs) ≡ true
    any_with_more none l e = e
    any_with_more (more x xs) l e =
        or_more (is_true few x) (list_any (λ b. b) (truths few xs)) (is_true many x) (list_any (λ b. b) (truths many xs))
        (true_with_more x l.0) (any_with_more xs l.1) e

    many_with_more : (xs : Policies) → HaveLocks xs → how_many (truths few xs) ≤ how_many (truths many xs)
    many_with_more none l = omega arith
    many_with_more (more x xs) l =
        let here = one_more (is_true few x) (is_true many x) (true_with_more x l.0) in
        let rest = many_with_more xs l.1 in
        omega (arith, here, rest)

pub more_is_true : TrueWithMore
more_is_true few many policy l are e = true_with_more few many are policy l e

-- ---- offers

-- what is held by those that are held is held
has_all : (some more_of : List Secret) (s : Secret) → list_all (has more_of) some ≡ true → has some s ≡ true → has more_of s ≡ true
has_all [] more_of s e h = absurd (false≢true h)
has_all (t ∷ some) more_of s e h =
    let both = and_parts (has more_of t) (list_all (has more_of) some) e in
    elim (cases_Bool (same s t)) [
      | inl is ↦ subst (λ u. has more_of u ≡ true) (sym (same_is s t is)) both.0
      | inr differs ↦ has_all some more_of s both.1 (rest (same s t) (has some s) differs h)
    ]
  where
    rest : (a b : Bool) → a ≡ false → (a || b) ≡ true → b ≡ true
    rest a b e h = grind arith

pub later : (x : Delay) (d e : Option Delay) → no_later (Some x) d ≡ true → no_later d e ≡ true → no_later (Some x) e ≡ true
later x None e h k = absurd (none x h)
  where
    none : (x : Delay) → no_later (Some x) None ≡ true → ⊥
    none (Blocks n) h = false≢true h
    none (Units n) h = false≢true h
later (Blocks n) (Some (Blocks m)) None h k = k
later (Blocks n) (Some (Blocks m)) (Some (Blocks l)) h k = grind (arith, nat_tests)
later (Blocks n) (Some (Blocks m)) (Some (Units l)) h k = k
later (Blocks n) (Some (Units m)) e h k = absurd (false≢true h)
later (Units n) (Some (Blocks m)) e h k = absurd (false≢true h)
later (Units n) (Some (Units m)) None h k = k
later (Units n) (Some (Units m)) (Some (Blocks l)) h k = k
later (Units n) (Some (Units m)) (Some (Units l)) h k = grind (arith, nat_tests)

pub later_moment : (x : Moment) (d e : Option Moment) → no_later_moment (Some x) d ≡ true → no_later_moment d e ≡ true → no_later_moment (Some x) e ≡ true
later_moment x None e h k = absurd (none x h)
  where
    none : (x : Moment) → no_later_moment (Some x) None ≡ true → ⊥
    none (Height n) h = false≢true h
    none (Time n) h = false≢true h
later_moment (Height n) (Some (Height m)) None h k = k
later_moment (Height n) (Some (Height m)) (Some (Height l)) h k = grind (arith, nat_tests)
later_moment (Height n) (Some (Height m)) (Some (Time l)) h k = k
later_moment (Height n) (Some (Time m)) e h k = absurd (false≢true h)
later_moment (Time n) (Some (Height m)) e h k = absurd (false≢true h)
later_moment (Time n) (Some (Time m)) None h k = k
later_moment (Time n) (Some (Time m)) (Some (Height l)) h k = k
later_moment (Time n) (Some (Time m)) (Some (Time l)) h k = grind (arith, nat_tests)

pub more_meet : MoreMeet
more_meet policy few many l few_in many_in h e =
    let secrets = and_parts (list_all (has many.secrets) few.secrets && no_later few.delay many.delay) (no_later_moment few.moment many.moment) h in
    let first = and_parts (list_all (has many.secrets) few.secrets) (no_later few.delay many.delay) secrets.0 in
    more_is_true (facts_with few.secrets (numbers_of few)) (facts_with many.secrets (numbers_of many)) policy l
    (record {
      signs = λ k. has_all few.secrets many.secrets (secret.key k) first.0;
      older = λ n lock held.
          let below = lock.most in
          older_held many n many_in.0 below
          ∙ later (delay_of n) few.delay many.delay (sym (older_held few n few_in.0 below) ∙ held) first.1;
      after = λ n lock held.
          let some = lock.least in
          after_held many n many_in.0 many_in.1 some
          ∙ later_moment (moment_of n) few.moment many.moment (sym (after_held few n few_in.0 few_in.1 some) ∙ held) secrets.1;
      knows = λ kind value. has_all few.secrets many.secrets (preimage kind value) first.0;
    }) e
