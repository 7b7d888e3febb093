-- The limits of a tree, from what its formal satisfactions take at most.
use Rattle.std.proofs.Common.{◌≡◌, ℕ, zero, suc, ◌+◌, max, ◌<◌, ◌≤◌, ◌⊎◌, Option, Some, None, length, refl, sym, ◌∙◌, ap, inl, inr, subst, arith}
use Rattle.std.proofs.lemmas.Bool.{cases_lt}
use Rattle.def_tree.specs.declared.Two.TheVariants as kind
use Rattle.def_tree.specs.declared.Wrapper.TheVariants as wrapper
use Rattle.def_tree.specs.Tree.{Tree, Trees, just_0, pk_k, pk_h, hash, and_or, two, thresh, multi, wrap, none, more}
use Rattle.def_limits.specs.Formal.{Takes, nothing, item, same_items, tried, plus, PREIMAGE, empty, one, Never, Is, Both, Either, FormalSat, FormalDsat, FormalParts}
use Rattle.def_script.specs.Signature.{MAX_SIGNATURE_SIZE}
use Rattle.def_limits.specs.Scaffolding.Most.{greater, both, either, most_sat, most_dsat, most_parts, number_of, limits_of}
use Rattle.def_emit.specs.Emit.{emit}
use Rattle.def_limits.specs.declared.Limits.{Limits}
use Rattle.def_limits.specs.Limits.{IsGreatest, AreLimits}
use Rattle.def_script.specs.Instruction.{opcode_count}
use Rattle.def_limits.specs.Laws.{LimitsExist, LimitsAreUnique}

module _ (number : Takes → ℕ) (of_plus : (a b : Takes) → number (plus a b) ≡ number a + number b) (of_greater : (a b : Takes) → number (greater a b) ≡ max (number a) (number b)) where
  -- m is the most of P: none where P has none
  abbrev pub IsMost : (Takes → Type 0) → Option Takes → Type 0
  IsMost P None = (t : Takes) → P t → ⊥
  IsMost P (Some m) = ((t : Takes) × P t × (number t ≡ number m)) × ((t : Takes) → P t → number t ≤ number m)

  pub is-most : (a : Takes) → IsMost (Is a) (Some a)
  is-most a = ((a, refl, refl), λ t h. let e : number t ≡ number a = ap number h in omega arith)

  pub never-most : IsMost Never None
  never-most t h = h

  pub both-most : (P Q : Takes → Type 0) (m n : Option Takes) → IsMost P m → IsMost Q n → IsMost (Both P Q) (both m n)
  both-most P Q None n p q = λ t h. p h.0 h.2
  both-most P Q (Some m) None p q = λ t h. q h.1 h.3
  both-most P Q (Some m) (Some n) p q = (
    (
      plus p.0.0 q.0.0,
      (p.0.0, q.0.0, p.0.1, q.0.1, refl),
      of_plus p.0.0 q.0.0 ∙ ap (λ k. k + number q.0.0) p.0.2 ∙ ap (λ k. number m + k) q.0.2 ∙ sym (of_plus m n),
    ),
    λ t h.
        let e : number t ≡ number h.0 + number h.1 = ap number h.4 ∙ of_plus h.0 h.1 in
        let k : number (plus m n) ≡ number m + number n = of_plus m n in
        let i : number h.0 ≤ number m = p.1 h.0 h.2 in
        let j : number h.1 ≤ number n = q.1 h.1 h.3 in
        omega arith,
  )

  either_some : (P Q : Takes → Type 0) (m n : Takes) → IsMost P (Some m) → IsMost Q (Some n) → (number m < number n) ⊎ (number n ≤ number m) → (t : Takes)
      × Either P Q t × (number t ≡ number (greater m n))
  either_some P Q m n p q (inl below) =
      (q.0.0, inr q.0.1, let e : number (greater m n) ≡ max (number m) (number n) = of_greater m n in let k : number q.0.0 ≡ number n = q.0.2 in omega arith)
  either_some P Q m n p q (inr above) =
      (p.0.0, inl p.0.1, let e : number (greater m n) ≡ max (number m) (number n) = of_greater m n in let k : number p.0.0 ≡ number m = p.0.2 in omega arith)

  either_below : (P Q : Takes → Type 0) (m n : Takes) → IsMost P (Some m) → IsMost Q (Some n) → (t : Takes) → Either P Q t → number t ≤ number (greater m n)
  either_below P Q m n p q t (inl h) =
      let e : number (greater m n) ≡ max (number m) (number n) = of_greater m n in let k : number t ≤ number m = p.1 t h in omega arith
  either_below P Q m n p q t (inr h) =
      let e : number (greater m n) ≡ max (number m) (number n) = of_greater m n in let k : number t ≤ number n = q.1 t h in omega arith

  pub either-most : (P Q : Takes → Type 0) (m n : Option Takes) → IsMost P m → IsMost Q n → IsMost (Either P Q) (either m n)
  either-most P Q None None p q = λ t h. elim h [ inl a ↦ p t a | inr b ↦ q t b ]
  either-most P Q None (Some n) p q =
      ((q.0.0, inr q.0.1, q.0.2), λ t h. elim h [ inl a ↦ absurd (p t a) | inr b ↦ q.1 t b ])
  either-most P Q (Some m) None p q =
      ((p.0.0, inl p.0.1, p.0.2), λ t h. elim h [ inl a ↦ p.1 t a | inr b ↦ absurd (q t b) ])
  either-most P Q (Some m) (Some n) p q =
      (either_some P Q m n p q (cases_lt (number m) (number n)), either_below P Q m n p q)

  mutual
    pub sat-most : (x : Tree) → IsMost (FormalSat x) (most_sat x)
    sat-most just_0 = never-most
    sat-most (pk_k key) = is-most (item MAX_SIGNATURE_SIZE)
    sat-most (pk_h key) = is-most (plus (item MAX_SIGNATURE_SIZE) (item (length key)))
    sat-most (hash kind value) = is-most (item PREIMAGE)
    sat-most (and_or x y z) =
        either-most _ _ _ _ (both-most _ _ _ _ (sat-most y) (sat-most x)) (both-most _ _ _ _ (sat-most z) (dsat-most x))
    sat-most (two kind.OrB x z) =
        either-most _ _ _ _ (both-most _ _ _ _ (dsat-most z) (sat-most x)) (both-most _ _ _ _ (sat-most z) (dsat-most x))
    sat-most (two kind.OrC x z) = either-most _ _ _ _ (sat-most x) (both-most _ _ _ _ (sat-most z) (dsat-most x))
    sat-most (two kind.OrD x z) = either-most _ _ _ _ (sat-most x) (both-most _ _ _ _ (sat-most z) (dsat-most x))
    sat-most (two kind.OrI x z) =
        either-most _ _ _ _ (both-most _ _ _ _ (sat-most x) (is-most one)) (both-most _ _ _ _ (sat-most z) (is-most empty))
    sat-most (two which x y) = both-most _ _ _ _ (sat-most y) (sat-most x)
    sat-most (thresh k xs) = parts-most xs k
    sat-most (multi k keys) = is-most (plus (plus empty (same_items k MAX_SIGNATURE_SIZE)) (tried (length keys)))
    sat-most (wrap wrapper.D x) = both-most _ _ _ _ (sat-most x) (is-most one)
    sat-most (wrap letter x) = sat-most x
    sat-most tree = is-most nothing

    pub dsat-most : (x : Tree) → IsMost (FormalDsat x) (most_dsat x)
    dsat-most just_0 = is-most nothing
    dsat-most (pk_k key) = is-most empty
    dsat-most (pk_h key) = is-most (plus empty (item (length key)))
    dsat-most (hash kind value) = is-most (item PREIMAGE)
    dsat-most (and_or x y z) = both-most _ _ _ _ (dsat-most z) (dsat-most x)
    dsat-most (two kind.AndV x y) = never-most
    dsat-most (two kind.OrC x z) = never-most
    dsat-most (two kind.OrI x z) =
        either-most _ _ _ _ (both-most _ _ _ _ (dsat-most x) (is-most one)) (both-most _ _ _ _ (dsat-most z) (is-most empty))
    dsat-most (two which x y) = both-most _ _ _ _ (dsat-most y) (dsat-most x)
    dsat-most (thresh k xs) = parts-most xs 0
    dsat-most (multi k keys) = is-most (plus (same_items (k + 1) 0) (tried (length keys)))
    dsat-most (wrap wrapper.D x) = is-most empty
    dsat-most (wrap wrapper.V x) = never-most
    dsat-most (wrap wrapper.J x) = is-most empty
    dsat-most (wrap letter x) = dsat-most x
    dsat-most tree = never-most

    pub parts-most : (xs : Trees) (k : ℕ) → IsMost (FormalParts xs k) (most_parts xs k)
    parts-most none zero = is-most nothing
    parts-most none (suc k) = never-most
    parts-most (more x xs) zero = both-most _ _ _ _ (parts-most xs zero) (dsat-most x)
    parts-most (more x xs) (suc k) =
        either-most _ _ _ _ (both-most _ _ _ _ (parts-most xs k) (sat-most x)) (both-most _ _ _ _ (parts-most xs (suc k)) (dsat-most x))

-- the most is the greatest
greatest_from_most : (number : Takes → ℕ) (of_plus : (a b : Takes) → number (plus a b) ≡ number a + number b)
    (of_greater : (a b : Takes) → number (greater a b) ≡ max (number a) (number b)) (P : Takes → Type 0) (m : Option Takes)
    → IsMost number of_plus of_greater P m → IsGreatest P number (number_of number m)
greatest_from_most number of_plus of_greater P None h = inr (h, refl)
greatest_from_most number of_plus of_greater P (Some m) h = inl (h.0.0, h.0.1, h.0.2, h.1)

-- a greatest number of the tree's formal satisfactions
greatest_of : (number : Takes → ℕ) (of_plus : (a b : Takes) → number (plus a b) ≡ number a + number b)
    (of_greater : (a b : Takes) → number (greater a b) ≡ max (number a) (number b)) (tree : Tree)
    → IsGreatest (FormalSat tree) number (number_of number (most_sat tree))
greatest_of number of_plus of_greater tree =
    greatest_from_most number of_plus of_greater (FormalSat tree) (most_sat tree) (sat-most number of_plus of_greater tree)

greatest_items : (tree : Tree) → IsGreatest (FormalSat tree) (λ t. t.items) (number_of (λ t. t.items) (most_sat tree))
greatest_items = greatest_of (λ t. t.items) (λ a b. refl) (λ a b. refl)

greatest_weight : (tree : Tree) → IsGreatest (FormalSat tree) (λ t. t.weight) (number_of (λ t. t.weight) (most_sat tree))
greatest_weight = greatest_of (λ t. t.weight) (λ a b. refl) (λ a b. refl)

greatest_keys : (tree : Tree) → IsGreatest (FormalSat tree) (λ t. t.keys) (number_of (λ t. t.keys) (most_sat tree))
greatest_keys = greatest_of (λ t. t.keys) (λ a b. refl) (λ a b. refl)

-- what is computed are limits
pub limits_are_computed : (tree : Tree) → AreLimits tree (limits_of tree)
limits_are_computed tree = record {
  size = refl;
  ops = (number_of (λ t. t.keys) (most_sat tree), greatest_keys tree, refl);
  items = greatest_items tree;
  weight = greatest_weight tree;
}

-- two greatest numbers are one
pub one_greatest : {A : Type 0} → (P : A → Type 0) (number : A → ℕ) (m n : ℕ) → IsGreatest P number m → IsGreatest P number n → m ≡ n
one_greatest P number m n (inl a) (inl b) =
    let i : number a.0 ≤ n = b.3 a.0 a.1 in let j : number b.0 ≤ m = a.3 b.0 b.1 in
    let k : number a.0 ≡ m = a.2 in let l : number b.0 ≡ n = b.2 in omega arith
one_greatest P number m n (inl a) (inr b) = absurd (b.0 a.0 a.1)
one_greatest P number m n (inr a) (inl b) = absurd (a.0 b.0 b.1)
one_greatest P number m n (inr a) (inr b) = a.1 ∙ sym b.1

same_limits : (a b : Limits) → a.size ≡ b.size → a.ops ≡ b.ops → a.items ≡ b.items → a.weight ≡ b.weight → a ≡ b
same_limits a b size ops items weight = λ i. record { size = size i; ops = ops i; items = items i; weight = weight i }

-- so a tree has limits
unfoldable pub limits_exist : LimitsExist
limits_exist tree = (limits_of tree, limits_are_computed tree)

-- and no others
pub limits_are_unique : LimitsAreUnique
limits_are_unique tree limits others are they =
    same_limits limits others (are.size ∙ sym they.size)
    (are.ops.2 ∙ ap (λ keys. opcode_count (emit tree) + keys) (one_greatest _ _ _ _ are.ops.1 they.ops.1) ∙ sym they.ops.2)
    (one_greatest _ _ _ _ are.items they.items)
    (one_greatest _ _ _ _ are.weight they.weight)

-- limits are those that are computed
pub as_computed : (tree : Tree) (limits : Limits) → AreLimits tree limits → limits ≡ limits_of tree
as_computed tree limits are = limits_are_unique tree limits (limits_of tree) are (limits_are_computed tree)

-- and where those compute to some, they are these
pub limits_by : (tree : Tree) (limits : Limits) → limits_of tree ≡ limits → AreLimits tree limits
limits_by tree limits is = subst (AreLimits tree) is (limits_are_computed tree)
