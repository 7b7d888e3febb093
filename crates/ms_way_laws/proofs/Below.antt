-- A least set of so many parts is enough in an earlier setting exactly where each part still holds that holds here.
use Rattle.std.proofs.Common.{◌≡◌, ℕ, ◌+◌, ◌-◌, ◌<◌, ◌≤◌, nat_le, Bool, true, false, not, ◌&&◌, ◌||◌, Option, Some, None, refl, sym, ◌∙◌, ap, arith, if◌then◌else◌}
use Rattle.std.proofs.lemmas.Bool.Decides.{nat_tests}
use Rattle.def_policy.specs.Policy.{Policy, Policies, never, always, key, older, after, hash, all, any, thresh, none, more}
use Rattle.def_policy.specs.Truth.{how_many}
use Rattle.def_policy.specs.Laws.{count}
use Rattle.ms_way_laws.specs.Parts.{IsLeast, free}
use Rattle.ms_way_laws.specs.Settled.{Setting, Choice, Choices, leaf, node, ended, next, list_of_choices, IsWithin, is_taken, settled_or, holds, hold, part, parts}
use Rattle.ms_way_laws.specs.Below.{IsKnownLater, IsEarlier, all_still, MetBelow}
use Rattle.ms_way_laws.proofs.Parts.{chosen_hold, least_are_chosen}
use Rattle.ms_way_laws.proofs.Settled.{refuse, still, one_more, least_each, counted, policies_are_parts}
use Rattle.ms_way_laws.proofs.Leasts.{within}

known_later : (o p : Option Bool) (taken : Bool) → IsKnownLater o p → settled_or o taken ≡ true → settled_or p taken ≡ true
known_later None None taken is e = e
known_later None (Some b) taken is e = absurd is
known_later (Some a) None taken is e = absurd is
known_later (Some a) (Some b) taken is e = is e

step : (a b r : Bool) (m n : ℕ) → (a ≡ true → b ≡ true) → m ≤ n → nat_le n m ≡ r →
    nat_le ((if b then 1 else 0) + n) ((if a then 1 else 0) + m) ≡ ((not b || a) && r)
step true true r m n f h e = sym (plus n m) ∙ e
  where
    plus : (n m : ℕ) → nat_le n m ≡ nat_le (1 + n) (1 + m)
    plus n m = grind (arith, nat_tests)
step true false r m n f h e = refuse (f refl)
step false true r m n f h e = grind (arith, nat_tests)
step false false r m n f h e = e' n m ∙ e
  where
    e' : (n m : ℕ) → nat_le (0 + n) (0 + m) ≡ nat_le n m
    e' n m = grind (arith, nat_tests)

module _ (t s : Setting) (is : IsEarlier t s) where
  mutual
    pub holds_later : (p : Policy) (x : Choice) → holds t p x ≡ true → holds s p x ≡ true
    holds_later never x h = h
    holds_later always x h = h
    holds_later (key k) x h = h
    holds_later (older n) x h = is.older n h
    holds_later (after n) x h = is.after n h
    holds_later (hash kind value) x h = known_later (t.known kind value) (s.known kind value) (is_taken x) (is.known kind value) h
    holds_later (all ps) (node xs) h = still (count ps) _ _ (hold_later ps xs) h
    holds_later (any ps) (node xs) h = still 1 _ _ (hold_later ps xs) h
    holds_later (thresh k ps) (node xs) h = still k _ _ (hold_later ps xs) h
    holds_later (all ps) (leaf a) h = h
    holds_later (any ps) (leaf a) h = h
    holds_later (thresh k ps) (leaf a) h = h

    hold_later : (ps : Policies) (xs : Choices) → how_many (hold t ps xs) ≤ how_many (hold s ps xs)
    hold_later none xs = omega arith
    hold_later (more p ps) ended = omega arith
    hold_later (more p ps) (next x xs) =
        let here = one_more (holds t p x) (holds s p x) (holds_later p x) in
        let rest = hold_later ps xs in
        omega (arith, here, rest)

  none_less : nat_le 0 0 ≡ true
  none_less = refl

  as_many : (ps : Policies) (xs : Choices) → nat_le (how_many (hold s ps xs)) (how_many (hold t ps xs)) ≡ all_still t s ps xs
  as_many none xs = none_less
  as_many (more p ps) ended = none_less
  as_many (more p ps) (next x xs) =
      step (holds t p x) (holds s p x) (all_still t s ps xs) (how_many (hold t ps xs)) (how_many (hold s ps xs))
      (holds_later p x) (hold_later ps xs) (as_many ps xs)

-- exactly so many hold
exactly : (s : Setting) (k : ℕ) (ps : Policies) (xs : Choices) → free (parts s ps) < k →
    IsLeast Choice IsWithin (part s (thresh k ps)) (node xs) → how_many (hold s ps xs) ≡ k
exactly s k ps xs few l =
    let chosen = least_are_chosen Choice IsWithin within (parts s ps) k (list_of_choices xs) (policies_are_parts s ps) (least_each s k ps xs l) in
    let held = chosen_hold Choice IsWithin within (k - free (parts s ps)) (parts s ps) (list_of_choices xs) chosen in
    let same = counted s ps xs in
    omega (arith, few, held, same)

pub met_below : MetBelow
met_below t s k ps xs is few l =
    ap (λ n. nat_le n (how_many (hold t ps xs))) (sym (exactly s k ps xs few l)) ∙ as_many t s is ps xs
