-- A policy in a setting is a part, whose least sets are those of its parts.
use Rattle.std.proofs.Common.{◌≡◌, ℕ, ◌+◌, ◌≤◌, nat_le, Bool, true, false, List, [], ◌∷◌, Option, Some, None, refl, sym, ◌∙◌, ap, subst, arith, if◌then◌else◌}
use Rattle.std.proofs.lemmas.Bool.{and_parts, and_from, leb-true, le-leb, false≢true}
use Rattle.def_policy.specs.Policy.{Policy, Policies, never, always, key, older, after, hash, all, any, thresh, none, more}
use Rattle.def_policy.specs.Truth.{how_many}
use Rattle.def_policy.specs.Laws.{count}
use Rattle.ms_way_laws.specs.Parts.{IsPart, IsLeast, AreParts, AreLeast, Fit, AreWithin, one, so_many}
use Rattle.ms_way_laws.specs.Leasts.{choices_of}
use Rattle.ms_way_laws.specs.Settled.{Setting, Choice, Choices, leaf, node, ended, next, list_of_choices, IsWithin, AreAllWithin, fits, fit, nothing, nothings, is_taken, settled_or, holds, hold, part, parts, LeastOfThreshold}

pub refuse : {A : Type 0} → false ≡ true → A
refuse e = absurd (false≢true e)

mutual
  pub empty_fits : (p : Policy) → fits p (nothing p) ≡ true
  empty_fits (all ps) = empty_fit ps
  empty_fits (any ps) = empty_fit ps
  empty_fits (thresh k ps) = empty_fit ps
  empty_fits p = refl

  empty_fit : (ps : Policies) → fit ps (nothings ps) ≡ true
  empty_fit none = refl
  empty_fit (more p ps) = and_from (fits p (nothing p)) (fit ps (nothings ps)) (empty_fits p) (empty_fit ps)

mutual
  pub nothing_within : (p : Policy) (x : Choice) → fits p x ≡ true → IsWithin (nothing p) x
  nothing_within (all ps) (node xs) e = nothings_within ps xs e
  nothing_within (any ps) (node xs) e = nothings_within ps xs e
  nothing_within (thresh k ps) (node xs) e = nothings_within ps xs e
  nothing_within (all ps) (leaf a) e = refuse e
  nothing_within (any ps) (leaf a) e = refuse e
  nothing_within (thresh k ps) (leaf a) e = refuse e
  nothing_within p (leaf a) e = λ f. refuse f
  nothing_within p (node xs) e = refuse e

  nothings_within : (ps : Policies) (xs : Choices) → fit ps xs ≡ true → AreAllWithin (nothings ps) xs
  nothings_within none ended e = tt
  nothings_within none (next x xs) e = refuse e
  nothings_within (more p ps) ended e = refuse e
  nothings_within (more p ps) (next x xs) e =
      let both = and_parts (fits p x) (fit ps xs) e in (nothing_within p x both.0, nothings_within ps xs both.1)

none_taken : (a : Bool) → (a ≡ true → false ≡ true) → a ≡ false
none_taken a f = grind arith

mutual
  pub only_nothing : (p : Policy) (x : Choice) → fits p x ≡ true → IsWithin x (nothing p) → x ≡ nothing p
  only_nothing (all ps) (node xs) e w = ap node (only_nothings ps xs e w)
  only_nothing (any ps) (node xs) e w = ap node (only_nothings ps xs e w)
  only_nothing (thresh k ps) (node xs) e w = ap node (only_nothings ps xs e w)
  only_nothing (all ps) (leaf a) e w = refuse e
  only_nothing (any ps) (leaf a) e w = refuse e
  only_nothing (thresh k ps) (leaf a) e w = refuse e
  only_nothing p (leaf a) e w = ap leaf (none_taken a w)
  only_nothing p (node xs) e w = refuse e

  only_nothings : (ps : Policies) (xs : Choices) → fit ps xs ≡ true → AreAllWithin xs (nothings ps) → xs ≡ nothings ps
  only_nothings none ended e w = refl
  only_nothings none (next x xs) e w = refuse e
  only_nothings (more p ps) ended e w = refuse e
  only_nothings (more p ps) (next x xs) e w =
      let both = and_parts (fits p x) (fit ps xs) e in
      ap (λ y. next y xs) (only_nothing p x both.0 w.0) ∙ ap (λ ys. next (nothing p) ys) (only_nothings ps xs both.1 w.1)

taken_more : (x y : Choice) → IsWithin x y → is_taken x ≡ true → is_taken y ≡ true
taken_more (leaf a) (leaf b) w e = w e
taken_more (leaf a) (node ys) w e = absurd w
taken_more (node xs) (leaf b) w e = absurd w
taken_more (node xs) (node ys) w e = e

settled_more : (o : Option Bool) (a b : Bool) → (a ≡ true → b ≡ true) → settled_or o a ≡ true → settled_or o b ≡ true
settled_more None a b f e = f e
settled_more (Some known) a b f e = e

pub one_more : (a b : Bool) → (a ≡ true → b ≡ true) → (if a then 1 else 0) ≤ (if b then 1 else 0)
one_more a b f = grind arith

pub still : (k m n : ℕ) → m ≤ n → nat_le k m ≡ true → nat_le k n ≡ true
still k m n h e = let l = leb-true k m e in le-leb k n (omega (arith, h, l))

module _ (s : Setting) where
  mutual
    holds_more : (p : Policy) (x y : Choice) → fits p x ≡ true → fits p y ≡ true → IsWithin x y → holds s p x ≡ true → holds s p y ≡ true
    holds_more never x y e f w h = h
    holds_more always x y e f w h = h
    holds_more (key k) x y e f w h = taken_more x y w h
    holds_more (older n) x y e f w h = h
    holds_more (after n) x y e f w h = h
    holds_more (hash kind value) x y e f w h = settled_more (s.known kind value) (is_taken x) (is_taken y) (taken_more x y w) h
    holds_more (all ps) (node xs) (node ys) e f w h = still (count ps) _ _ (hold_more ps xs ys e f w) h
    holds_more (any ps) (node xs) (node ys) e f w h = still 1 _ _ (hold_more ps xs ys e f w) h
    holds_more (thresh k ps) (node xs) (node ys) e f w h = still k _ _ (hold_more ps xs ys e f w) h
    holds_more (all ps) (leaf a) y e f w h = refuse e
    holds_more (any ps) (leaf a) y e f w h = refuse e
    holds_more (thresh k ps) (leaf a) y e f w h = refuse e
    holds_more (all ps) (node xs) (leaf b) e f w h = refuse f
    holds_more (any ps) (node xs) (leaf b) e f w h = refuse f
    holds_more (thresh k ps) (node xs) (leaf b) e f w h = refuse f

    hold_more : (ps : Policies) (xs ys : Choices) → fit ps xs ≡ true → fit ps ys ≡ true → AreAllWithin xs ys → how_many (hold s ps xs) ≤ how_many (hold s ps ys)
    hold_more none xs ys e f w = omega arith
    hold_more (more p ps) ended ys e f w = refuse e
    hold_more (more p ps) (next x xs) ended e f w = refuse f
    hold_more (more p ps) (next x xs) (next y ys) e f w =
        let first = and_parts (fits p x) (fit ps xs) e in
        let second = and_parts (fits p y) (fit ps ys) f in
        let here = one_more (holds s p x) (holds s p y) (holds_more p x y first.0 second.0 w.0) in
        let rest = hold_more ps xs ys first.1 second.1 w.1 in
        omega (arith, here, rest)

  pub policy_is_part : (p : Policy) → IsPart Choice IsWithin (part s p)
  policy_is_part p = record { empty = empty_fits p; least = nothing_within p; only = only_nothing p; more = holds_more p }

  pub policies_are_parts : (ps : Policies) → AreParts Choice IsWithin (parts s ps)
  policies_are_parts none = tt
  policies_are_parts (more p ps) = (policy_is_part p, policies_are_parts ps)

  -- ---- a threshold

  fit_each : (ps : Policies) (xs : Choices) → fit ps xs ≡ true → Fit (parts s ps) (list_of_choices xs)
  fit_each none ended e = tt
  fit_each none (next x xs) e = refuse e
  fit_each (more p ps) ended e = refuse e
  fit_each (more p ps) (next x xs) e = let both = and_parts (fits p x) (fit ps xs) e in (both.0, fit_each ps xs both.1)

  each_fits : (ps : Policies) (xs : Choices) → Fit (parts s ps) (list_of_choices xs) → fit ps xs ≡ true
  each_fits none ended f = refl
  each_fits none (next x xs) f = absurd f
  each_fits (more p ps) ended f = absurd f
  each_fits (more p ps) (next x xs) f = and_from (fits p x) (fit ps xs) f.0 (each_fits ps xs f.1)

  pub counted : (ps : Policies) (xs : Choices) → so_many (parts s ps) (list_of_choices xs) ≡ how_many (hold s ps xs)
  counted none xs = refl
  counted (more p ps) ended = refl
  counted (more p ps) (next x xs) = ap (λ n. one (holds s p x) + n) (counted ps xs)

within_each : (xs ys : Choices) → AreAllWithin xs ys → AreWithin Choice IsWithin (list_of_choices xs) (list_of_choices ys)
within_each ended ended w = tt
within_each ended (next y ys) w = absurd w
within_each (next x xs) ended w = absurd w
within_each (next x xs) (next y ys) w = (w.0, within_each xs ys w.1)

each_within : (xs ys : Choices) → AreWithin Choice IsWithin (list_of_choices xs) (list_of_choices ys) → AreAllWithin xs ys
each_within ended ended w = tt
each_within ended (next y ys) w = absurd w
each_within (next x xs) ended w = absurd w
each_within (next x xs) (next y ys) w = (w.0, each_within xs ys w.1)

pub back : (xs : List Choice) → list_of_choices (choices_of xs) ≡ xs
back [] = refl
back (x ∷ xs) = ap (λ ys. x ∷ ys) (back xs)

pub forth : (xs : Choices) → choices_of (list_of_choices xs) ≡ xs
forth ended = refl
forth (next x xs) = ap (λ ys. next x ys) (forth xs)

abbrev pub below : Choice → Choices
below (leaf a) = ended
below (node xs) = xs

module _ (s : Setting) (k : ℕ) (ps : Policies) where
  pub least_each : (xs : Choices) → IsLeast Choice IsWithin (part s (thresh k ps)) (node xs) → AreLeast Choice IsWithin k (parts s ps) (list_of_choices xs)
  least_each xs l = record {
    fit = fit_each s ps xs l.fits;
    hold = let e = leb-true _ _ l.holds in let c = counted s ps xs in omega (arith, e, c);
    least = λ ts f h w. go ts (back ts) f h w;
  }
    where
      go : (ts : List Choice) → list_of_choices (choices_of ts) ≡ ts → Fit (parts s ps) ts → k ≤ so_many (parts s ps) ts →
          AreWithin Choice IsWithin ts (list_of_choices xs) → ts ≡ list_of_choices xs
      go ts e f h w =
          let fitting = each_fits s ps (choices_of ts) (subst (Fit (parts s ps)) (sym e) f) in
          let c = counted s ps (choices_of ts) in
          let many : k ≤ so_many (parts s ps) (list_of_choices (choices_of ts)) = subst (λ ts. k ≤ so_many (parts s ps) ts) (sym e) h in
          let held = le-leb k (how_many (hold s ps (choices_of ts))) (omega (arith, c, many)) in
          let inside = each_within (choices_of ts) xs (subst (λ ts. AreWithin Choice IsWithin ts (list_of_choices xs)) (sym e) w) in
          sym e ∙ ap (λ x. list_of_choices (below x)) (l.least (node (choices_of ts)) fitting held inside)

  pub each_least : (xs : Choices) → AreLeast Choice IsWithin k (parts s ps) (list_of_choices xs) → IsLeast Choice IsWithin (part s (thresh k ps)) (node xs)
  each_least xs l = record {
    fits = each_fits s ps xs l.fit;
    holds = let h = l.hold in let c = counted s ps xs in le-leb k _ (omega (arith, h, c));
    least = go;
  }
    where
      go : (y : Choice) → fits (thresh k ps) y ≡ true → holds s (thresh k ps) y ≡ true → IsWithin y (node xs) → y ≡ node xs
      go (leaf b) f h w = refuse f
      go (node ys) f h w =
          let many = leb-true _ _ h in
          let c = counted s ps ys in
          let same = l.least (list_of_choices ys) (fit_each s ps ys f) (omega (arith, many, c)) (within_each ys xs w) in
          ap node (sym (forth ys) ∙ ap choices_of same ∙ forth xs)

pub least_of_threshold : LeastOfThreshold
least_of_threshold s k ps xs = (least_each s k ps xs, each_least s k ps xs)
