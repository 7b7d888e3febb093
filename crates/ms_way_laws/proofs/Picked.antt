-- The choice that takes a set of secrets, and the secrets that a choice takes.
use Rattle.std.proofs.Common.{◌≡◌, inl, inr, ℕ, suc, ◌+◌, ◌≤◌, nat_le, Bool, true, false, not, ◌&&◌, List, [], ◌∷◌, ◌++◌, length, filter_map, Some, None, refl, sym, ◌∙◌, ap, subst, arith, if◌then◌else◌}
use Rattle.std.specs.List.{list_any, list_all}
use Rattle.std.proofs.lemmas.Bool.{and_parts, and_from}
use Rattle.std.proofs.lemmas.Bool.Decides.{nat_tests}
use Rattle.std.proofs.lemmas.List.Elements.{filter_map-append}
use Rattle.def_tree.specs.Tree.{Key}
use Rattle.def_policy.specs.Policy as policy
use Rattle.def_policy.specs.Policy.{Policy, Policies, never, always, older, after, hash, all, any, thresh, none, more}
use Rattle.def_policy.specs.Truth.{Facts, how_many, is_true, truths}
use Rattle.def_policy.specs.Laws.{count}
use Rattle.def_ways.specs.Secret.{Secret, key, preimage, same}
use Rattle.def_ways.specs.Offer.{has, no_later, no_later_moment}
use Rattle.def_ways.specs.Bound.{leaves, leaves_of, delay_of, moment_of}
use Rattle.ms_way_laws.specs.Listed.{In}
use Rattle.ms_way_laws.specs.Settled.{Choice, Choices, leaf, node, ended, next, IsWithin, AreAllWithin, fits, fit, is_taken, settled_or, holds, hold}
use Rattle.ms_way_laws.specs.Reckoned.{Given, setting_of, when, taken, taken_of, secret_in, secrets_in, times}
use Rattle.ms_way_laws.proofs.Listed.{in_left, in_right, in_either}
use Rattle.ms_way_laws.proofs.SameTruth.{same_own}
use Rattle.ms_way_laws.proofs.Settled.{refuse}

-- in a set and not settled
abbrev pub asked : (settled : List Secret) → (Secret → Bool) → Secret → Bool
asked settled f secret = f secret && not (has settled secret)

abbrev mutual
  pub picked : (settled : List Secret) → (Secret → Bool) → Policy → Choice
  picked settled f never = leaf false
  picked settled f always = leaf false
  picked settled f (policy.key k) = leaf (asked settled f (key k))
  picked settled f (older n) = leaf false
  picked settled f (after n) = leaf false
  picked settled f (hash kind value) = leaf (asked settled f (preimage kind value))
  picked settled f (all ps) = node (picked_of settled f ps)
  picked settled f (any ps) = node (picked_of settled f ps)
  picked settled f (thresh k ps) = node (picked_of settled f ps)

  pub picked_of : (settled : List Secret) → (Secret → Bool) → Policies → Choices
  picked_of settled f none = ended
  picked_of settled f (more p ps) = next (picked settled f p) (picked_of settled f ps)

-- a choice without what isn't asked for
abbrev mutual
  pub clean : (settled : List Secret) → Policy → Choice → Choice
  clean settled never x = leaf false
  clean settled always x = leaf false
  clean settled (policy.key k) x = x
  clean settled (older n) x = leaf false
  clean settled (after n) x = leaf false
  clean settled (hash kind value) x = if has settled (preimage kind value) then leaf false else x
  clean settled (all ps) (node xs) = node (clean_of settled ps xs)
  clean settled (any ps) (node xs) = node (clean_of settled ps xs)
  clean settled (thresh k ps) (node xs) = node (clean_of settled ps xs)
  clean settled (all ps) (leaf a) = leaf a
  clean settled (any ps) (leaf a) = leaf a
  clean settled (thresh k ps) (leaf a) = leaf a

  pub clean_of : (settled : List Secret) → Policies → Choices → Choices
  clean_of settled none xs = xs
  clean_of settled (more p ps) ended = ended
  clean_of settled (more p ps) (next x xs) = next (clean settled p x) (clean_of settled ps xs)

-- what is true with what is given and a set
abbrev pub facts_given : (settled : List Secret) → Given → (Secret → Bool) → Facts
facts_given settled given f = record {
  signs = λ k. asked settled f (key k);
  older = λ n. no_later (Some (delay_of n)) given.delay;
  after = λ n. no_later_moment (Some (moment_of n)) given.moment;
  knows = λ kind value.
      if has settled (preimage kind value) then has given.known (preimage kind value) else asked settled f (preimage kind value);
}

-- ---- numbers of truths

few_true : (bs : List Bool) → how_many bs ≤ length bs
few_true [] = omega arith
few_true (b ∷ bs) = let rest = few_true bs in one_more b (how_many bs) (length bs) rest
  where
    one_more : (b : Bool) (m n : ℕ) → m ≤ n → (if b then 1 else 0) + m ≤ suc n
    one_more b m n h = grind arith

all_true : (bs : List Bool) → nat_le (length bs) (how_many bs) ≡ list_all (λ b. b) bs
all_true [] = refl
all_true (true ∷ bs) = step (length bs) (how_many bs) ∙ all_true bs
  where
    step : (m n : ℕ) → nat_le (suc m) (1 + n) ≡ nat_le m n
    step m n = grind (arith, nat_tests)
all_true (false ∷ bs) = let few = few_true bs in step (length bs) (how_many bs) few
  where
    step : (m n : ℕ) → n ≤ m → nat_le (suc m) (0 + n) ≡ false
    step m n h = grind (arith, nat_tests)

any_true : (bs : List Bool) → nat_le 1 (how_many bs) ≡ list_any (λ b. b) bs
any_true [] = refl
any_true (true ∷ bs) = step (how_many bs)
  where
    step : (n : ℕ) → nat_le 1 (1 + n) ≡ true
    step n = grind (arith, nat_tests)
any_true (false ∷ bs) = step (how_many bs) ∙ any_true bs
  where
    step : (n : ℕ) → nat_le 1 (0 + n) ≡ nat_le 1 n
    step n = grind (arith, nat_tests)

settled_hash : (h k t : Bool) → settled_or (if h then Some k else None) t ≡ (if h then k else t)
settled_hash true k t = refl
settled_hash false k t = refl

number_of_truths : (facts : Facts) (ps : Policies) → length (truths facts ps) ≡ count ps
number_of_truths facts none = refl
number_of_truths facts (more p ps) = ap (λ n. suc n) (number_of_truths facts ps)

-- ---- lists of secrets

pub times_joined : (s : Secret) (xs ys : List Secret) → times s (xs ++ ys) ≡ times s xs + times s ys
times_joined s [] ys = none (times s ys)
  where
    none : (n : ℕ) → n ≡ 0 + n
    none n = omega arith
times_joined s (x ∷ xs) ys = let rest = times_joined s xs ys in sum (if same s x then 1 else 0) (times s (xs ++ ys)) (times s xs) (times s ys) rest
  where
    sum : (a b c d : ℕ) → b ≡ c + d → a + b ≡ (a + c) + d
    sum a b c d e = omega (arith, e)

pub in_times : (s : Secret) (xs : List Secret) → In s xs → 1 ≤ times s xs
in_times s [] h = absurd h
in_times s (x ∷ xs) (inl e) = first (same s x) (times s xs) (subst (λ y. same s y ≡ true) e (same_own s))
  where
    first : (b : Bool) (n : ℕ) → b ≡ true → 1 ≤ (if b then 1 else 0) + n
    first b n e = grind arith
in_times s (x ∷ xs) (inr h) = let rest = in_times s xs h in later (same s x) (times s xs) rest
  where
    later : (b : Bool) (n : ℕ) → 1 ≤ n → 1 ≤ (if b then 1 else 0) + n
    later b n e = grind arith

abbrev pub secrets_of : Policies → List Secret
secrets_of ps = filter_map secret_in (leaves_of ps)

pub joined_secrets : (p : Policy) (ps : Policies) → secrets_of (more p ps) ≡ secrets_in p ++ secrets_of ps
joined_secrets p ps = filter_map-append secret_in (leaves p) (leaves_of ps)

-- what a choice takes is in the policy
in_when : (s t : Secret) (b : Bool) → In s (when b t) → (s ≡ t) × (b ≡ true)
in_when s t true (inl e) = (e, refl)
in_when s t true (inr h) = absurd h
in_when s t false h = absurd h

when_in : (t : Secret) (b : Bool) → b ≡ true → In t (when b t)
when_in t true e = inl refl
when_in t false e = refuse e

mutual
  pub taken_in : (p : Policy) (x : Choice) (s : Secret) → In s (taken p x) → In s (secrets_in p)
  taken_in never x s h = absurd h
  taken_in always x s h = absurd h
  taken_in (policy.key k) x s h = inl (in_when s (key k) (is_taken x) h).0
  taken_in (older n) x s h = absurd h
  taken_in (after n) x s h = absurd h
  taken_in (hash kind value) x s h = inl (in_when s (preimage kind value) (is_taken x) h).0
  taken_in (all ps) (node xs) s h = taken_in_of ps xs s h
  taken_in (any ps) (node xs) s h = taken_in_of ps xs s h
  taken_in (thresh k ps) (node xs) s h = taken_in_of ps xs s h
  taken_in (all ps) (leaf a) s h = absurd h
  taken_in (any ps) (leaf a) s h = absurd h
  taken_in (thresh k ps) (leaf a) s h = absurd h

  taken_in_of : (ps : Policies) (xs : Choices) (s : Secret) → In s (taken_of ps xs) → In s (secrets_of ps)
  taken_in_of none xs s h = absurd h
  taken_in_of (more p ps) ended s h = absurd h
  taken_in_of (more p ps) (next x xs) s h = subst (λ ys. In s ys) (sym (joined_secrets p ps)) (elim (in_either s (taken p x) (taken_of ps xs) h) [
    | inl l ↦ in_left s (secrets_in p) (secrets_of ps) (taken_in p x s l)
    | inr r ↦ in_right s (secrets_in p) (secrets_of ps) (taken_in_of ps xs s r)
  ])

-- with more taken more is taken
mutual
  pub taken_more : (p : Policy) (x y : Choice) → IsWithin x y → (s : Secret) → In s (taken p x) → In s (taken p y)
  taken_more never x y w s h = h
  taken_more always x y w s h = h
  taken_more (policy.key k) x y w s h = let i = in_when s (key k) (is_taken x) h in
      subst (λ t. In t (when (is_taken y) (key k))) (sym i.0) (when_in (key k) (is_taken y) (flag x y w i.1))
    where
      flag : (x y : Choice) → IsWithin x y → is_taken x ≡ true → is_taken y ≡ true
      flag (leaf a) (leaf b) w e = w e
      flag (leaf a) (node ys) w e = absurd w
      flag (node xs) y w e = refuse e
  taken_more (older n) x y w s h = h
  taken_more (after n) x y w s h = h
  taken_more (hash kind value) x y w s h = let i = in_when s (preimage kind value) (is_taken x) h in
      subst (λ t. In t (when (is_taken y) (preimage kind value))) (sym i.0) (when_in (preimage kind value) (is_taken y) (flag x y w i.1))
    where
      flag : (x y : Choice) → IsWithin x y → is_taken x ≡ true → is_taken y ≡ true
      flag (leaf a) (leaf b) w e = w e
      flag (leaf a) (node ys) w e = absurd w
      flag (node xs) y w e = refuse e
  taken_more (all ps) (node xs) (node ys) w s h = taken_more_of ps xs ys w s h
  taken_more (any ps) (node xs) (node ys) w s h = taken_more_of ps xs ys w s h
  taken_more (thresh k ps) (node xs) (node ys) w s h = taken_more_of ps xs ys w s h
  taken_more (all ps) (leaf a) y w s h = absurd h
  taken_more (any ps) (leaf a) y w s h = absurd h
  taken_more (thresh k ps) (leaf a) y w s h = absurd h
  taken_more (all ps) (node xs) (leaf b) w s h = absurd w
  taken_more (any ps) (node xs) (leaf b) w s h = absurd w
  taken_more (thresh k ps) (node xs) (leaf b) w s h = absurd w

  taken_more_of : (ps : Policies) (xs ys : Choices) → AreAllWithin xs ys → (s : Secret) → In s (taken_of ps xs) → In s (taken_of ps ys)
  taken_more_of none xs ys w s h = h
  taken_more_of (more p ps) ended ys w s h = absurd h
  taken_more_of (more p ps) (next x xs) ended w s h = absurd w
  taken_more_of (more p ps) (next x xs) (next y ys) w s h = elim (in_either s (taken p x) (taken_of ps xs) h) [
    | inl l ↦ in_left s (taken p y) (taken_of ps ys) (taken_more p x y w.0 s l)
    | inr r ↦ in_right s (taken p y) (taken_of ps ys) (taken_more_of ps xs ys w.1 s r)
  ]

same_flag : (a b : Bool) → (a ≡ true → b ≡ true) → (b ≡ true → a ≡ true) → a ≡ b
same_flag a b f g = grind arith

mutual
  pub both_within : (x y : Choice) → IsWithin x y → IsWithin y x → x ≡ y
  both_within (leaf a) (leaf b) v w = ap leaf (same_flag a b v w)
  both_within (leaf a) (node ys) v w = absurd v
  both_within (node xs) (leaf b) v w = absurd v
  both_within (node xs) (node ys) v w = ap node (all_both_within xs ys v w)

  all_both_within : (xs ys : Choices) → AreAllWithin xs ys → AreAllWithin ys xs → xs ≡ ys
  all_both_within ended ended v w = refl
  all_both_within ended (next y ys) v w = absurd v
  all_both_within (next x xs) ended v w = absurd v
  all_both_within (next x xs) (next y ys) v w =
      ap (λ z. next z xs) (both_within x y v.0 w.0) ∙ ap (λ zs. next y zs) (all_both_within xs ys v.1 w.1)

module _ (settled : List Secret) where
  -- ---- what is picked

  mutual
    pub picked_fits : (f : Secret → Bool) (p : Policy) → fits p (picked settled f p) ≡ true
    picked_fits f never = refl
    picked_fits f always = refl
    picked_fits f (policy.key k) = refl
    picked_fits f (older n) = refl
    picked_fits f (after n) = refl
    picked_fits f (hash kind value) = refl
    picked_fits f (all ps) = picked_fit f ps
    picked_fits f (any ps) = picked_fit f ps
    picked_fits f (thresh k ps) = picked_fit f ps

    picked_fit : (f : Secret → Bool) (ps : Policies) → fit ps (picked_of settled f ps) ≡ true
    picked_fit f none = refl
    picked_fit f (more p ps) = and_from (fits p (picked settled f p)) (fit ps (picked_of settled f ps)) (picked_fits f p) (picked_fit f ps)

  mutual
    pub picked_more : (f g : Secret → Bool) → ((s : Secret) → asked settled f s ≡ true → asked settled g s ≡ true) → (p : Policy) →
        IsWithin (picked settled f p) (picked settled g p)
    picked_more f g h never = λ e. e
    picked_more f g h always = λ e. e
    picked_more f g h (policy.key k) = h (key k)
    picked_more f g h (older n) = λ e. e
    picked_more f g h (after n) = λ e. e
    picked_more f g h (hash kind value) = h (preimage kind value)
    picked_more f g h (all ps) = picked_more_of f g h ps
    picked_more f g h (any ps) = picked_more_of f g h ps
    picked_more f g h (thresh k ps) = picked_more_of f g h ps

    picked_more_of : (f g : Secret → Bool) → ((s : Secret) → asked settled f s ≡ true → asked settled g s ≡ true) → (ps : Policies) →
        AreAllWithin (picked_of settled f ps) (picked_of settled g ps)
    picked_more_of f g h none = tt
    picked_more_of f g h (more p ps) = (picked_more f g h p, picked_more_of f g h ps)

  -- what is picked is in the policy and asked for, and all that is
  mutual
    pub taken_picked : (f : Secret → Bool) (p : Policy) (s : Secret) → In s (taken p (picked settled f p)) → asked settled f s ≡ true
    taken_picked f never s h = absurd h
    taken_picked f always s h = absurd h
    taken_picked f (policy.key k) s h =
        let i = in_when s (key k) (asked settled f (key k)) h in subst (λ t. asked settled f t ≡ true) (sym i.0) i.1
    taken_picked f (older n) s h = absurd h
    taken_picked f (after n) s h = absurd h
    taken_picked f (hash kind value) s h =
        let i = in_when s (preimage kind value) (asked settled f (preimage kind value)) h in subst (λ t. asked settled f t ≡ true) (sym i.0) i.1
    taken_picked f (all ps) s h = taken_picked_of f ps s h
    taken_picked f (any ps) s h = taken_picked_of f ps s h
    taken_picked f (thresh k ps) s h = taken_picked_of f ps s h

    taken_picked_of : (f : Secret → Bool) (ps : Policies) (s : Secret) → In s (taken_of ps (picked_of settled f ps)) → asked settled f s ≡ true
    taken_picked_of f none s h = absurd h
    taken_picked_of f (more p ps) s h = elim (in_either s (taken p (picked settled f p)) (taken_of ps (picked_of settled f ps)) h) [
      | inl l ↦ taken_picked f p s l
      | inr r ↦ taken_picked_of f ps s r
    ]

  picked_leaf : (f : Secret → Bool) (s t : Secret) → In s (t ∷ []) → asked settled f s ≡ true → In s (when (asked settled f t) t)
  picked_leaf f s t (inl e) h = subst (λ u. In u (when (asked settled f t) t)) (sym e) (when_in t (asked settled f t) (subst (λ u. asked settled f u ≡ true) e h))
  picked_leaf f s t (inr i) h = absurd i

  mutual
    pub picked_taken : (f : Secret → Bool) (p : Policy) (s : Secret) → In s (secrets_in p) → asked settled f s ≡ true → In s (taken p (picked settled f p))
    picked_taken f never s h e = absurd h
    picked_taken f always s h e = absurd h
    picked_taken f (policy.key k) s h e = picked_leaf f s (key k) h e
    picked_taken f (older n) s h e = absurd h
    picked_taken f (after n) s h e = absurd h
    picked_taken f (hash kind value) s h e = picked_leaf f s (preimage kind value) h e
    picked_taken f (all ps) s h e = picked_taken_of f ps s h e
    picked_taken f (any ps) s h e = picked_taken_of f ps s h e
    picked_taken f (thresh k ps) s h e = picked_taken_of f ps s h e

    picked_taken_of : (f : Secret → Bool) (ps : Policies) (s : Secret) → In s (secrets_of ps) → asked settled f s ≡ true →
        In s (taken_of ps (picked_of settled f ps))
    picked_taken_of f none s h e = absurd h
    picked_taken_of f (more p ps) s h e = elim (in_either s (secrets_in p) (secrets_of ps) (subst (λ ys. In s ys) (joined_secrets p ps) h)) [
      | inl l ↦ in_left s (taken p (picked settled f p)) (taken_of ps (picked_of settled f ps)) (picked_taken f p s l e)
      | inr r ↦ in_right s (taken p (picked settled f p)) (taken_of ps (picked_of settled f ps)) (picked_taken_of f ps s r e)
    ]

  -- it holds where the policy is true
  module _ (given : Given) (f : Secret → Bool) where
    mutual
      pub picked_holds : (p : Policy) → holds (setting_of settled given) p (picked settled f p) ≡ is_true (facts_given settled given f) p
      picked_holds never = refl
      picked_holds always = refl
      picked_holds (policy.key k) = refl
      picked_holds (older n) = refl
      picked_holds (after n) = refl
      picked_holds (hash kind value) =
          settled_hash (has settled (preimage kind value)) (has given.known (preimage kind value)) (asked settled f (preimage kind value))
      picked_holds (all ps) =
          ap (λ bs. nat_le (count ps) (how_many bs)) (picked_hold ps)
          ∙ ap (λ n. nat_le n (how_many (truths (facts_given settled given f) ps))) (sym (number_of_truths (facts_given settled given f) ps))
          ∙ all_true (truths (facts_given settled given f) ps)
      picked_holds (any ps) =
          ap (λ bs. nat_le 1 (how_many bs)) (picked_hold ps) ∙ any_true (truths (facts_given settled given f) ps)
      picked_holds (thresh k ps) = ap (λ bs. nat_le k (how_many bs)) (picked_hold ps)

      picked_hold : (ps : Policies) → hold (setting_of settled given) ps (picked_of settled f ps) ≡ truths (facts_given settled given f) ps
      picked_hold none = refl
      picked_hold (more p ps) =
          ap (λ b. b ∷ hold (setting_of settled given) ps (picked_of settled f ps)) (picked_holds p)
          ∙ ap (λ bs. is_true (facts_given settled given f) p ∷ bs) (picked_hold ps)

  -- ---- what is cleaned

  mutual
    pub clean_fits : (p : Policy) (x : Choice) → fits p x ≡ true → fits p (clean settled p x) ≡ true
    clean_fits never x e = refl
    clean_fits always x e = refl
    clean_fits (policy.key k) x e = e
    clean_fits (older n) x e = refl
    clean_fits (after n) x e = refl
    clean_fits (hash kind value) x e = go (has settled (preimage kind value)) x e
      where
        go : (b : Bool) (x : Choice) → fits (hash kind value) x ≡ true → fits (hash kind value) (if b then leaf false else x) ≡ true
        go true x e = refl
        go false x e = e
    clean_fits (all ps) (node xs) e = clean_fit ps xs e
    clean_fits (any ps) (node xs) e = clean_fit ps xs e
    clean_fits (thresh k ps) (node xs) e = clean_fit ps xs e
    clean_fits (all ps) (leaf a) e = e
    clean_fits (any ps) (leaf a) e = e
    clean_fits (thresh k ps) (leaf a) e = e

    clean_fit : (ps : Policies) (xs : Choices) → fit ps xs ≡ true → fit ps (clean_of settled ps xs) ≡ true
    clean_fit none xs e = e
    clean_fit (more p ps) ended e = e
    clean_fit (more p ps) (next x xs) e =
        let both = and_parts (fits p x) (fit ps xs) e in
        and_from (fits p (clean settled p x)) (fit ps (clean_of settled ps xs)) (clean_fits p x both.0) (clean_fit ps xs both.1)

  mutual
    pub clean_within : (p : Policy) (x : Choice) → fits p x ≡ true → IsWithin (clean settled p x) x
    clean_within never (leaf a) e = λ f. refuse f
    clean_within never (node xs) e = refuse e
    clean_within always (leaf a) e = λ f. refuse f
    clean_within always (node xs) e = refuse e
    clean_within (policy.key k) (leaf a) e = λ f. f
    clean_within (policy.key k) (node xs) e = refuse e
    clean_within (older n) (leaf a) e = λ f. refuse f
    clean_within (older n) (node xs) e = refuse e
    clean_within (after n) (leaf a) e = λ f. refuse f
    clean_within (after n) (node xs) e = refuse e
    clean_within (hash kind value) (leaf a) e = go (has settled (preimage kind value))
      where
        go : (b : Bool) → IsWithin (if b then leaf false else leaf a) (leaf a)
        go true = λ f. refuse f
        go false = λ f. f
    clean_within (hash kind value) (node xs) e = refuse e
    clean_within (all ps) (node xs) e = clean_all_within ps xs e
    clean_within (any ps) (node xs) e = clean_all_within ps xs e
    clean_within (thresh k ps) (node xs) e = clean_all_within ps xs e
    clean_within (all ps) (leaf a) e = refuse e
    clean_within (any ps) (leaf a) e = refuse e
    clean_within (thresh k ps) (leaf a) e = refuse e

    clean_all_within : (ps : Policies) (xs : Choices) → fit ps xs ≡ true → AreAllWithin (clean_of settled ps xs) xs
    clean_all_within none ended e = tt
    clean_all_within none (next x xs) e = refuse e
    clean_all_within (more p ps) ended e = refuse e
    clean_all_within (more p ps) (next x xs) e =
        let both = and_parts (fits p x) (fit ps xs) e in (clean_within p x both.0, clean_all_within ps xs both.1)

  module _ (given : Given) where
    mutual
      pub clean_holds : (p : Policy) (x : Choice) → holds (setting_of settled given) p (clean settled p x) ≡ holds (setting_of settled given) p x
      clean_holds never x = refl
      clean_holds always x = refl
      clean_holds (policy.key k) x = refl
      clean_holds (older n) x = refl
      clean_holds (after n) x = refl
      clean_holds (hash kind value) x = go (has settled (preimage kind value)) (has given.known (preimage kind value))
        where
          go : (b k : Bool) → settled_or (if b then Some k else None) (is_taken (if b then leaf false else x)) ≡ settled_or (if b then Some k else None) (is_taken x)
          go true k = refl
          go false k = refl
      clean_holds (all ps) (node xs) = ap (λ bs. nat_le (count ps) (how_many bs)) (clean_hold ps xs)
      clean_holds (any ps) (node xs) = ap (λ bs. nat_le 1 (how_many bs)) (clean_hold ps xs)
      clean_holds (thresh k ps) (node xs) = ap (λ bs. nat_le k (how_many bs)) (clean_hold ps xs)
      clean_holds (all ps) (leaf a) = refl
      clean_holds (any ps) (leaf a) = refl
      clean_holds (thresh k ps) (leaf a) = refl

      clean_hold : (ps : Policies) (xs : Choices) → hold (setting_of settled given) ps (clean_of settled ps xs) ≡ hold (setting_of settled given) ps xs
      clean_hold none xs = refl
      clean_hold (more p ps) ended = refl
      clean_hold (more p ps) (next x xs) =
          ap (λ b. b ∷ hold (setting_of settled given) ps (clean_of settled ps xs)) (clean_holds p x)
          ∙ ap (λ bs. holds (setting_of settled given) p x ∷ bs) (clean_hold ps xs)

  -- ---- both

  module _ (keys_asked : (k : Key) → has settled (key k) ≡ false) where
    pub ask : (f : Secret → Bool) (s : Secret) → has settled s ≡ false → f s ≡ true → asked settled f s ≡ true
    ask f s h e = and_from (f s) (not (has settled s)) e (ap not h)

    pub asks : (f : Secret → Bool) (s : Secret) → asked settled f s ≡ true → (f s ≡ true) × (has settled s ≡ false)
    asks f s e = let both = and_parts (f s) (not (has settled s)) e in (both.0, turned (has settled s) both.1)
      where
        turned : (b : Bool) → not b ≡ true → b ≡ false
        turned b e = grind arith

    -- what is cleaned is within the choice of a set that has what it takes
    mutual
      pub clean_picked : (f : Secret → Bool) (p : Policy) (x : Choice) → fits p x ≡ true →
          ((s : Secret) → has settled s ≡ false → In s (taken p x) → f s ≡ true) → IsWithin (clean settled p x) (picked settled f p)
      clean_picked f never x e h = λ g. refuse g
      clean_picked f always x e h = λ g. refuse g
      clean_picked f (policy.key k) (leaf a) e h = λ g. ask f (key k) (keys_asked k) (h (key k) (keys_asked k) (when_in (key k) a g))
      clean_picked f (policy.key k) (node xs) e h = refuse e
      clean_picked f (older n) x e h = λ g. refuse g
      clean_picked f (after n) x e h = λ g. refuse g
      clean_picked f (hash kind value) (leaf a) e h = go (has settled (preimage kind value)) refl
        where
          go : (b : Bool) → has settled (preimage kind value) ≡ b →
              IsWithin (if b then leaf false else leaf a) (leaf (asked settled f (preimage kind value)))
          go true i = λ g. refuse g
          go false i = λ g. ask f (preimage kind value) i (h (preimage kind value) i (when_in (preimage kind value) a g))
      clean_picked f (hash kind value) (node xs) e h = refuse e
      clean_picked f (all ps) (node xs) e h = clean_all_picked f ps xs e h
      clean_picked f (any ps) (node xs) e h = clean_all_picked f ps xs e h
      clean_picked f (thresh k ps) (node xs) e h = clean_all_picked f ps xs e h
      clean_picked f (all ps) (leaf a) e h = refuse e
      clean_picked f (any ps) (leaf a) e h = refuse e
      clean_picked f (thresh k ps) (leaf a) e h = refuse e

      clean_all_picked : (f : Secret → Bool) (ps : Policies) (xs : Choices) → fit ps xs ≡ true →
          ((s : Secret) → has settled s ≡ false → In s (taken_of ps xs) → f s ≡ true) → AreAllWithin (clean_of settled ps xs) (picked_of settled f ps)
      clean_all_picked f none ended e h = tt
      clean_all_picked f none (next x xs) e h = refuse e
      clean_all_picked f (more p ps) ended e h = refuse e
      clean_all_picked f (more p ps) (next x xs) e h =
          let both = and_parts (fits p x) (fit ps xs) e in (
            clean_picked f p x both.0 (λ s i j. h s i (in_left s (taken p x) (taken_of ps xs) j)),
            clean_all_picked f ps xs both.1 (λ s i j. h s i (in_right s (taken p x) (taken_of ps xs) j)),
          )

    -- and the choice of a set is within one that takes what the set has, where each secret that is asked for stands once
    abbrev pub StandsOnce : List Secret → Type 0
    StandsOnce xs = (s : Secret) → has settled s ≡ false → times s xs ≤ 1

    apart : (s : Secret) (xs ys : List Secret) → StandsOnce (xs ++ ys) → has settled s ≡ false → In s xs → In s ys → ⊥
    apart s xs ys once h i j =
        let most = once s h in
        let sum = times_joined s xs ys in
        let first = in_times s xs i in
        let second = in_times s ys j in
        omega (arith, most, sum, first, second)

    once_first : (xs ys : List Secret) → StandsOnce (xs ++ ys) → StandsOnce xs
    once_first xs ys once s h = let most = once s h in let sum = times_joined s xs ys in omega (arith, most, sum)

    once_second : (xs ys : List Secret) → StandsOnce (xs ++ ys) → StandsOnce ys
    once_second xs ys once s h = let most = once s h in let sum = times_joined s xs ys in omega (arith, most, sum)

    mutual
      pub picked_within : (f : Secret → Bool) (p : Policy) (x : Choice) → fits p x ≡ true → StandsOnce (secrets_in p) →
          ((s : Secret) → has settled s ≡ false → In s (secrets_in p) → f s ≡ true → In s (taken p x)) → IsWithin (picked settled f p) x
      picked_within f never (leaf a) e once h = λ g. refuse g
      picked_within f never (node xs) e once h = refuse e
      picked_within f always (leaf a) e once h = λ g. refuse g
      picked_within f always (node xs) e once h = refuse e
      picked_within f (policy.key k) (leaf a) e once h = λ g.
          let is = asks f (key k) g in (in_when (key k) (key k) a (h (key k) is.1 (inl refl) is.0)).1
      picked_within f (policy.key k) (node xs) e once h = refuse e
      picked_within f (older n) (leaf a) e once h = λ g. refuse g
      picked_within f (older n) (node xs) e once h = refuse e
      picked_within f (after n) (leaf a) e once h = λ g. refuse g
      picked_within f (after n) (node xs) e once h = refuse e
      picked_within f (hash kind value) (leaf a) e once h = λ g.
          let is = asks f (preimage kind value) g in (in_when (preimage kind value) (preimage kind value) a (h (preimage kind value) is.1 (inl refl) is.0)).1
      picked_within f (hash kind value) (node xs) e once h = refuse e
      picked_within f (all ps) (node xs) e once h = picked_all_within f ps xs e once h
      picked_within f (any ps) (node xs) e once h = picked_all_within f ps xs e once h
      picked_within f (thresh k ps) (node xs) e once h = picked_all_within f ps xs e once h
      picked_within f (all ps) (leaf a) e once h = refuse e
      picked_within f (any ps) (leaf a) e once h = refuse e
      picked_within f (thresh k ps) (leaf a) e once h = refuse e

      picked_all_within : (f : Secret → Bool) (ps : Policies) (xs : Choices) → fit ps xs ≡ true → StandsOnce (secrets_of ps) →
          ((s : Secret) → has settled s ≡ false → In s (secrets_of ps) → f s ≡ true → In s (taken_of ps xs)) →
          AreAllWithin (picked_of settled f ps) xs
      picked_all_within f none ended e once h = tt
      picked_all_within f none (next x xs) e once h = refuse e
      picked_all_within f (more p ps) ended e once h = refuse e
      picked_all_within f (more p ps) (next x xs) e once h =
          let both = and_parts (fits p x) (fit ps xs) e in
          let joined = subst StandsOnce (joined_secrets p ps) once in (
            picked_within f p x both.0 (once_first (secrets_in p) (secrets_of ps) joined) (λ s i j g.
                elim (in_either s (taken p x) (taken_of ps xs)
                (h s i (subst (λ ys. In s ys) (sym (joined_secrets p ps)) (in_left s (secrets_in p) (secrets_of ps) j)) g)) [
                  | inl l ↦ l
                  | inr r ↦ absurd (apart s (secrets_in p) (secrets_of ps) joined i j (taken_in_of ps xs s r))
                ]),
            picked_all_within f ps xs both.1 (once_second (secrets_in p) (secrets_of ps) joined) (λ s i j g.
                elim (in_either s (taken p x) (taken_of ps xs)
                (h s i (subst (λ ys. In s ys) (sym (joined_secrets p ps)) (in_right s (secrets_in p) (secrets_of ps) j)) g)) [
                  | inl l ↦ absurd (apart s (secrets_in p) (secrets_of ps) joined i (taken_in p x s l) j)
                  | inr r ↦ r
                ]),
          )
