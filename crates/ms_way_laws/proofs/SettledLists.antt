-- Which hash values are enough to be settled.
use Rattle.std.proofs.Common.{◌≡◌, inl, inr, ℕ, ◌+◌, ◌≤◌, nat_lt, Bool, true, false, not, ◌&&◌, ◌||◌, List, [], ◌∷◌, filter, filter_map, Option, Some, None, refl, sym, ◌∙◌, ap, subst, arith, if◌then◌else◌}
use Rattle.std.specs.Prelude.{⊤}
use Rattle.std.specs.List.{list_any}
use Rattle.std.proofs.lemmas.Bool.{cases_Bool, false≢true, and_parts, and_from}
use Rattle.std.proofs.lemmas.Bool.Decides.{nat_tests}
use Rattle.def_tree.specs.Tree.{Tree}
use Rattle.def_policy.specs.Policy.{Policy, never, always, key, older, after, hash, all, any, thresh}
use Rattle.def_ways.specs.Secret as secret
use Rattle.def_ways.specs.Secret.{Secret, preimage, same, named, secrets}
use Rattle.def_ways.specs.Offer.{has}
use Rattle.def_ways.specs.Order.{is_key}
use Rattle.def_ways.specs.Enough.{policy_of}
use Rattle.def_ways.specs.Bound.{leaves, hash_in, repeated}
use Rattle.ms_way_laws.specs.Listed.{In, AreOnce}
use Rattle.ms_way_laws.specs.Reckoned.{secret_in, secrets_in, times, hashes_in, settled_to_count, settled_to_list, IsSettled, IsSettledInOrder, SettledAreEnough}
use Rattle.ms_way_laws.proofs.Lists.{in_filter, of_filter, once_filter, of_found, in_found}
use Rattle.ms_way_laws.proofs.SomeOf.{has_in, in_has}
use Rattle.ms_way_laws.proofs.SameTruth.{same_is, same_own}
use Rattle.ms_way_laws.proofs.Tried.{once_secrets}
use Rattle.ms_way_laws.proofs.Named.{policy_named, named_in, times_picked}
use Rattle.ms_way_laws.proofs.Picked.{in_times}

-- ---- lists

none_same : (s : Secret) (xs : List Secret) → has xs s ≡ false → times s xs ≡ 0
none_same s [] h = refl
none_same s (x ∷ xs) h =
    let both = neither (same s x) (has xs s) h in
    let rest = none_same s xs both.1 in
    none (same s x) (times s xs) both.0 rest
  where
    neither : (a b : Bool) → (a || b) ≡ false → (a ≡ false) × (b ≡ false)
    neither false false e = (refl, refl)
    neither false true e = absurd (false≢true (sym e))
    neither true b e = absurd (false≢true (sym e))

    none : (b : Bool) (n : ℕ) → b ≡ false → n ≡ 0 → (if b then 1 else 0) + n ≡ 0
    none b n e f = grind arith

repeated_step : (x : Secret) (xs : List Secret) (b : Bool) → list_any (same x) xs ≡ b →
    repeated (x ∷ xs) ≡ (if b then x ∷ filter (λ other. not (same x other)) (repeated xs) else repeated xs)
repeated_step x xs b e = rw e refl

in_repeated : (s : Secret) (xs : List Secret) → In s (repeated xs) → In s xs
in_repeated s [] h = h
in_repeated s (x ∷ xs) h = elim (cases_Bool (list_any (same x) xs)) [
  | inl e ↦ elim (subst (λ ys. In s ys) (repeated_step x xs true e) h) [
    | inl same_one ↦ inl same_one
    | inr i ↦ inr (in_repeated s xs (of_filter (λ other. not (same x other)) s (repeated xs) i).0)
  ]
  | inr f ↦ inr (in_repeated s xs (subst (λ ys. In s ys) (repeated_step x xs false f) h))
]

once_repeated : (xs : List Secret) → AreOnce (repeated xs)
once_repeated [] = tt
once_repeated (x ∷ xs) = elim (cases_Bool (list_any (same x) xs)) [
  | inl e ↦ subst AreOnce (sym (repeated_step x xs true e)) (
    (λ i. let f = of_filter (λ other. not (same x other)) x (repeated xs) i in false≢true (sym (ap not (same_own x)) ∙ f.1)),
    once_filter (λ other. not (same x other)) (repeated xs) (once_repeated xs),
  )
  | inr f ↦ subst AreOnce (sym (repeated_step x xs false f)) (once_repeated xs)
]

-- what isn't repeated stands at most once
single : (s : Secret) (xs : List Secret) → (In s (repeated xs) → ⊥) → times s xs ≤ 1
single s [] h = omega arith
single s (x ∷ xs) h = elim (cases_Bool (list_any (same x) xs)) [
  | inl e ↦ elim (cases_Bool (same s x)) [
    | inl t ↦ absurd (h (subst (λ ys. In s ys) (sym (repeated_step x xs true e)) (inl (same_is s x t))))
    | inr f ↦
        let rest = single s xs (λ i. h (subst (λ ys. In s ys) (sym (repeated_step x xs true e))
        (inr (in_filter (λ other. not (same x other)) s (repeated xs) i (ap not (other_way f)))))) in
        later (same s x) (times s xs) f rest
  ]
  | inr n ↦ elim (cases_Bool (same s x)) [
    | inl t ↦
        let none = none_same s xs (subst (λ y. has xs y ≡ false) (sym (same_is s x t)) n) in
        first (same s x) (times s xs) none
    | inr f ↦
        let rest = single s xs (λ i. h (subst (λ ys. In s ys) (sym (repeated_step x xs false n)) i)) in
        later (same s x) (times s xs) f rest
  ]
]
  where
    other_way : same s x ≡ false → same x s ≡ false
    other_way f = elim (cases_Bool (same x s)) [
      | inl e ↦ absurd (false≢true (sym f ∙ subst (λ y. same s y ≡ true) (sym (same_is x s e)) (same_own s)))
      | inr g ↦ g
    ]

    later : (b : Bool) (n : ℕ) → b ≡ false → n ≤ 1 → (if b then 1 else 0) + n ≤ 1
    later b n e f = grind arith

    first : (b : Bool) (n : ℕ) → n ≡ 0 → (if b then 1 else 0) + n ≤ 1
    first b n e = grind arith

-- ---- the hash values of a policy among its secrets

hash_times : (s : Secret) → is_key s ≡ false → (xs : List Policy) → times s (filter_map secret_in xs) ≡ times s (filter_map hash_in xs)
hash_times s k [] = refl
hash_times s k (key l ∷ xs) = let rest = hash_times s k xs in away (same s (secret.key l)) (times s (filter_map secret_in xs)) (times s (filter_map hash_in xs)) (differs s k) rest
  where
    differs : (s : Secret) → is_key s ≡ false → same s (secret.key l) ≡ false
    differs (secret.key m) k = absurd (false≢true (sym k))
    differs (preimage kind value) k = refl

    away : (b : Bool) (m n : ℕ) → b ≡ false → m ≡ n → (if b then 1 else 0) + m ≡ n
    away b m n e f = grind arith
hash_times s k (hash kind value ∷ xs) = ap (λ n. (if same s (preimage kind value) then 1 else 0) + n) (hash_times s k xs)
hash_times s k (never ∷ xs) = hash_times s k xs
hash_times s k (always ∷ xs) = hash_times s k xs
hash_times s k (older n ∷ xs) = hash_times s k xs
hash_times s k (after n ∷ xs) = hash_times s k xs
hash_times s k (all parts ∷ xs) = hash_times s k xs
hash_times s k (any parts ∷ xs) = hash_times s k xs
hash_times s k (thresh n parts ∷ xs) = hash_times s k xs

abbrev IsHashOf : Policy → Option Secret → Type 0
IsHashOf part None = ⊤
IsHashOf part (Some s) = (is_key s ≡ false) × (secret_in part ≡ Some s)

hash_is : (part : Policy) → IsHashOf part (hash_in part)
hash_is (hash kind value) = (refl, refl)
hash_is never = tt
hash_is always = tt
hash_is (key k) = tt
hash_is (older n) = tt
hash_is (after n) = tt
hash_is (all parts) = tt
hash_is (any parts) = tt
hash_is (thresh k parts) = tt

hash_found : (p : Policy) (s : Secret) → In s (hashes_in p) → (is_key s ≡ false) × In s (secrets_in p)
hash_found p s h =
    let f = of_found hash_in s (leaves p) h in
    let is = subst (λ o. IsHashOf f.source o) f.is (hash_is f.source) in
    (is.0, in_found secret_in f.source s (leaves p) f.listed is.1)

module _ (t : Tree) where
  to_count : IsSettled t (settled_to_count t)
  to_count = record {
    once = once_repeated (hashes_in (policy_of t));
    hashes = λ s i.
        let f = hash_found (policy_of t) s (in_repeated s (hashes_in (policy_of t)) i) in
        (f.0, in_has s (secrets t) (named_in t s f.1));
    others = λ s k h.
        let few = single s (hashes_in (policy_of t)) (λ i. false≢true (sym h ∙ in_has s (settled_to_count t) i)) in
        let same_times = hash_times s k (leaves (policy_of t)) in
        omega (arith, few, same_times);
  }

  abbrev test : Secret → Bool
  test = λ s. has (hashes_in (policy_of t)) s && nat_lt 1 (times s (named t))

  -- what isn't settled stands once in the tree, or not in the policy
  left_over : (s : Secret) → has (settled_to_list t) s ≡ false → has (hashes_in (policy_of t)) s ≡ true → times s (named t) ≤ 1
  left_over s h e = elim (cases_Bool (nat_lt 1 (times s (named t)))) [
    | inl l ↦
        let f = hash_found (policy_of t) s (has_in s (hashes_in (policy_of t)) e) in
        absurd (false≢true (sym h ∙ in_has s (settled_to_list t)
        (in_filter test s (secrets t) (named_in t s f.1) (and_from (has (hashes_in (policy_of t)) s) (nat_lt 1 (times s (named t))) e l))))
    | inr l ↦ few (times s (named t)) l
  ]
    where
      few : (n : ℕ) → nat_lt 1 n ≡ false → n ≤ 1
      few n l = grind (arith, nat_tests)

  to_list : IsSettled t (settled_to_list t)
  to_list = record {
    once = once_filter test (secrets t) (once_secrets t);
    hashes = λ s i.
        let f = of_filter test s (secrets t) i in
        let both = and_parts (has (hashes_in (policy_of t)) s) (nat_lt 1 (times s (named t))) f.1 in
        ((hash_found (policy_of t) s (has_in s (hashes_in (policy_of t)) both.0)).0, in_has s (secrets t) f.0);
    others = λ s k h. elim (cases_Bool (has (hashes_in (policy_of t)) s)) [
      | inl e ↦
          let few = left_over s h e in
          let fewer = times_picked s (secrets_in (policy_of t)) (named t) (policy_named t) in
          omega (arith, few, fewer)
      | inr n ↦
          let none = none_same s (hashes_in (policy_of t)) n in
          let same_times = hash_times s k (leaves (policy_of t)) in
          omega (arith, none, same_times)
    ];
  }

  in_order : IsSettledInOrder t (settled_to_list t)
  in_order = record {
    values = to_list;
    places = λ s k h e. elim (cases_Bool (has (hashes_in (policy_of t)) s)) [
      | inl i ↦ left_over s h i
      | inr n ↦
          let none = none_same s (hashes_in (policy_of t)) n in
          let same_times = hash_times s k (leaves (policy_of t)) in
          let some = in_times s (secrets_in (policy_of t)) (has_in s (secrets_in (policy_of t)) e) in
          absurd (omega (arith, none, same_times, some))
    ];
  }

pub settled_are_enough : SettledAreEnough
settled_are_enough t sane = (to_count t, in_order t)
