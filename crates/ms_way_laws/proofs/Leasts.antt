-- The least sets of a policy in a setting are those that are listed.
use Rattle.std.proofs.Common.{◌≡◌, inl, inr, ℕ, ◌-◌, nat_le, Bool, true, false, List, [], ◌∷◌, map, Option, Some, None, refl, sym, ◌∙◌, ap, subst}
use Rattle.def_policy.specs.Policy.{Policy, Policies, never, always, key, older, after, hash, all, any, thresh, none, more}
use Rattle.def_policy.specs.Truth.{how_many}
use Rattle.def_policy.specs.Laws.{count}
use Rattle.ms_way_laws.specs.Parts.{IsLeast, AreLeast, free, Chosen}
use Rattle.ms_way_laws.specs.Listed.{parts_of, listed, In, AreOnce, AreCounted}
use Rattle.ms_way_laws.specs.Settled.{Setting, Choice, Choices, leaf, node, ended, next, list_of_choices, IsWithin, AreAllWithin, fits, fit, nothing, is_taken, settled_or, holds, hold, part, parts}
use Rattle.ms_way_laws.specs.Leasts.{choices_of, of_settled, of_hash, of_parts, leasts, each, LeastsAreLeast}
use Rattle.ms_way_laws.proofs.Parts.{chosen_are_least, least_are_chosen}
use Rattle.ms_way_laws.proofs.Listed.{listed_are_chosen}
use Rattle.ms_way_laws.proofs.Settled.{refuse, empty_fits, nothing_within, only_nothing, least_each, each_least, back, forth, below, policies_are_parts}

-- ---- lists

in_map : {A B : Type 0} (f : A → B) (x : A) (xs : List A) → In x xs → In (f x) (map f xs)
in_map f x [] h = absurd h
in_map f x (y ∷ ys) (inl e) = inl (ap f e)
in_map f x (y ∷ ys) (inr h) = inr (in_map f x ys h)

record HasSource {A B : Type 0} (f : A → B) (y : B) (xs : List A) : Type 0 where
  source : A
  listed : In source xs
  is : y ≡ f source

of_map : {A B : Type 0} (f : A → B) (y : B) (xs : List A) → In y (map f xs) → HasSource f y xs
of_map f y [] h = absurd h
of_map f y (x ∷ xs) (inl e) = record { source = x; listed = inl refl; is = e }
of_map f y (x ∷ xs) (inr h) = let s = of_map f y xs h in record { source = s.source; listed = inr s.listed; is = s.is }

once_map : {A B : Type 0} (f : A → B) (apart : (x y : A) → f x ≡ f y → x ≡ y) (xs : List A) → AreOnce xs → AreOnce (map f xs)
once_map f apart [] h = tt
once_map f apart (x ∷ xs) h = (
  (λ again. let s = of_map f (f x) xs again in h.0 (subst (λ y. In y xs) (sym (apart x s.source s.is)) s.listed)),
  once_map f apart xs h.1,
)

mutual
  pub within : (x : Choice) → IsWithin x x
  within (leaf a) = λ e. e
  within (node xs) = all_within xs

  all_within : (xs : Choices) → AreAllWithin xs xs
  all_within ended = tt
  all_within (next x xs) = (within x, all_within xs)

-- ---- leaves

abbrev Are : Setting → Policy → List Choice → Type 0
Are s p xs =
    ((x : Choice) → (In x xs → IsLeast Choice IsWithin (part s p) x) × (IsLeast Choice IsWithin (part s p) x → In x xs)) × AreOnce xs

-- what never holds has none
never_least : (s : Setting) (p : Policy) → ((x : Choice) → holds s p x ≡ false) → Are s p []
never_least s p h = ((λ x. ((λ i. absurd i), (λ l. refuse (sym (h x) ∙ l.holds)))), tt)

-- what holds with nothing has that alone
free_least : (s : Setting) (p : Policy) → holds s p (nothing p) ≡ true → Are s p (nothing p ∷ [])
free_least s p h = (
  (λ x. (
    (λ i. elim i [
      | inl e ↦ subst (λ y. IsLeast Choice IsWithin (part s p) y) (sym e) (record {
        fits = empty_fits p;
        holds = h;
        least = λ b f held w. only_nothing p b f w;
      })
      | inr j ↦ absurd j
    ]),
    (λ l. inl (sym (l.least (nothing p) (empty_fits p) h (nothing_within p x l.fits)))),
  )),
  ((λ i. i), tt),
)

-- a leaf that is asked for has itself alone
record IsAsked (s : Setting) (p : Policy) : Type 0 where
  leaves : (a : Bool) → fits p (leaf a) ≡ true
  nodes : (xs : Choices) → fits p (node xs) ≡ false
  held : (x : Choice) → holds s p x ≡ is_taken x

taken_leaf : (s : Setting) (p : Policy) → IsAsked s p → (x : Choice) → fits p x ≡ true → holds s p x ≡ true → x ≡ leaf true
taken_leaf s p is (leaf a) f h = ap leaf (sym (is.held (leaf a)) ∙ h)
taken_leaf s p is (node xs) f h = refuse (sym (is.nodes xs) ∙ f)

asked_least : (s : Setting) (p : Policy) → IsAsked s p → Are s p (leaf true ∷ [])
asked_least s p is = (
  (λ x. (
    (λ i. elim i [
      | inl e ↦ subst (λ y. IsLeast Choice IsWithin (part s p) y) (sym e) (record {
        fits = is.leaves true;
        holds = is.held (leaf true);
        least = λ b f h w. taken_leaf s p is b f h;
      })
      | inr j ↦ absurd j
    ]),
    (λ l. inl (taken_leaf s p is x l.fits l.holds)),
  )),
  ((λ i. i), tt),
)

settled_least : (s : Setting) (p : Policy) (b : Bool) → nothing p ≡ leaf false → ((x : Choice) → holds s p x ≡ b) → Are s p (of_settled b)
settled_least s p true e h = subst (λ x. Are s p (x ∷ [])) e (free_least s p (h (nothing p)))
settled_least s p false e h = never_least s p h

hash_least : (s : Setting) (p : Policy) (o : Option Bool) → nothing p ≡ leaf false → ((a : Bool) → fits p (leaf a) ≡ true) →
    ((xs : Choices) → fits p (node xs) ≡ false) → ((x : Choice) → holds s p x ≡ settled_or o (is_taken x)) → Are s p (of_hash o)
hash_least s p None e f g h = asked_least s p (record { leaves = f; nodes = g; held = h })
hash_least s p (Some b) e f g h = settled_least s p b e h

-- ---- parts

-- a policy that is met as a threshold
record IsGate (s : Setting) (p : Policy) (k : ℕ) (ps : Policies) : Type 0 where
  leaves : (a : Bool) → fits p (leaf a) ≡ false
  nodes : (xs : Choices) → fits p (node xs) ≡ fit ps xs
  held : (xs : Choices) → holds s p (node xs) ≡ nat_le k (how_many (hold s ps xs))

to_threshold : (s : Setting) (p : Policy) (k : ℕ) (ps : Policies) → IsGate s p k ps → (xs : Choices) →
    IsLeast Choice IsWithin (part s p) (node xs) → IsLeast Choice IsWithin (part s (thresh k ps)) (node xs)
to_threshold s p k ps is xs l = record { fits = sym (is.nodes xs) ∙ l.fits; holds = sym (is.held xs) ∙ l.holds; least = go }
  where
    go : (y : Choice) → fits (thresh k ps) y ≡ true → holds s (thresh k ps) y ≡ true → IsWithin y (node xs) → y ≡ node xs
    go (leaf a) f h w = refuse f
    go (node ys) f h w = l.least (node ys) (is.nodes ys ∙ f) (is.held ys ∙ h) w

of_threshold : (s : Setting) (p : Policy) (k : ℕ) (ps : Policies) → IsGate s p k ps → (xs : Choices) →
    IsLeast Choice IsWithin (part s (thresh k ps)) (node xs) → IsLeast Choice IsWithin (part s p) (node xs)
of_threshold s p k ps is xs l = record { fits = is.nodes xs ∙ l.fits; holds = is.held xs ∙ l.holds; least = go }
  where
    go : (y : Choice) → fits p y ≡ true → holds s p y ≡ true → IsWithin y (node xs) → y ≡ node xs
    go (leaf a) f h w = refuse (sym (is.leaves a) ∙ f)
    go (node ys) f h w = l.least (node ys) (sym (is.nodes ys) ∙ f) (sym (is.held ys) ∙ h) w

each_parts : (s : Setting) (ps : Policies) → parts_of (each s ps) ≡ parts s ps
each_parts s none = refl
each_parts s (more p ps) = ap (λ xs. part s p ∷ xs) (each_parts s ps)

gate_least : (s : Setting) (p : Policy) (k : ℕ) (ps : Policies) → IsGate s p k ps → AreCounted Choice IsWithin (each s ps) →
    Are s p (of_parts k (parts s ps) (each s ps))
gate_least s p k ps is are = ((λ x. (to x, from x)), once_map made apart choices all.1)
  where
    made : List Choice → Choice
    made ss = node (choices_of ss)

    m : ℕ
    m = k - free (parts s ps)

    choices : List (List Choice)
    choices = listed m (each s ps)

    all : ((ss : List Choice) → (In ss choices → Chosen Choice IsWithin m (parts_of (each s ps)) ss) × (Chosen Choice IsWithin m (parts_of (each s ps)) ss → In ss choices)) ×
        AreOnce choices
    all = let l = listed_are_chosen Choice IsWithin (each s ps) m are in (l.0, l.1)

    apart : (ss ts : List Choice) → made ss ≡ made ts → ss ≡ ts
    apart ss ts e = sym (back ss) ∙ ap (λ x. list_of_choices (below x)) e ∙ back ts

    to : (x : Choice) → In x (of_parts k (parts s ps) (each s ps)) → IsLeast Choice IsWithin (part s p) x
    to x h =
        let source = of_map made x choices h in
        let chosen = subst (λ xs. Chosen Choice IsWithin m xs source.source) (each_parts s ps) ((all.0 source.source).0 source.listed) in
        let least = chosen_are_least Choice IsWithin within (parts s ps) k source.source (policies_are_parts s ps) chosen in
        let here = subst (λ ss. AreLeast Choice IsWithin k (parts s ps) ss) (sym (back source.source)) least in
        subst (λ y. IsLeast Choice IsWithin (part s p) y) (sym source.is)
        (of_threshold s p k ps is (choices_of source.source) (each_least s k ps (choices_of source.source) here))

    from : (x : Choice) → IsLeast Choice IsWithin (part s p) x → In x (of_parts k (parts s ps) (each s ps))
    from (leaf a) l = refuse (sym (is.leaves a) ∙ l.fits)
    from (node xs) l =
        let least = least_each s k ps xs (to_threshold s p k ps is xs l) in
        let chosen = least_are_chosen Choice IsWithin within (parts s ps) k (list_of_choices xs) (policies_are_parts s ps) least in
        let found = (all.0 (list_of_choices xs)).1 (subst (λ ps. Chosen Choice IsWithin m ps (list_of_choices xs)) (sym (each_parts s ps)) chosen) in
        subst (λ ys. In (node ys) (of_parts k (parts s ps) (each s ps))) (forth xs) (in_map made (list_of_choices xs) choices found)

mutual
  are_least : (s : Setting) (p : Policy) → Are s p (leasts s p)
  are_least s never = never_least s never (λ x. refl)
  are_least s always = free_least s always refl
  are_least s (key k) = asked_least s (key k) (record { leaves = λ a. refl; nodes = λ xs. refl; held = λ x. refl })
  are_least s (older n) = settled_least s (older n) (s.older n) refl (λ x. refl)
  are_least s (after n) = settled_least s (after n) (s.after n) refl (λ x. refl)
  are_least s (hash kind value) =
      hash_least s (hash kind value) (s.known kind value) refl (λ a. refl) (λ xs. refl) (λ x. refl)
  are_least s (all ps) = gate_least s (all ps) (count ps) ps (record { leaves = λ a. refl; nodes = λ xs. refl; held = λ xs. refl }) (are_counted s ps)
  are_least s (any ps) = gate_least s (any ps) 1 ps (record { leaves = λ a. refl; nodes = λ xs. refl; held = λ xs. refl }) (are_counted s ps)
  are_least s (thresh k ps) = gate_least s (thresh k ps) k ps (record { leaves = λ a. refl; nodes = λ xs. refl; held = λ xs. refl }) (are_counted s ps)

  are_counted : (s : Setting) (ps : Policies) → AreCounted Choice IsWithin (each s ps)
  are_counted s none = tt
  are_counted s (more p ps) = let are = are_least s p in (are.0, are.1, are_counted s ps)

pub leasts_are_least : LeastsAreLeast
leasts_are_least s p = are_least s p
