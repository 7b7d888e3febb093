-- The leaves of a tree's policy are some of the tree's, in its order; so its locks are in range.
use Rattle.std.proofs.Common.{◌≡◌, inl, inr, ℕ, ◌-◌, not, ◌||◌, List, [], ◌∷◌, ◌++◌, length, map, filter, filter_map, flat_map, Option, Some, None, refl, sym, ◌∙◌, ap, subst, append_assoc}
use Rattle.std.specs.Prelude.{⊤}
use Rattle.std.proofs.lemmas.List.{append-nil}
use Rattle.std.proofs.lemmas.List.Elements.{filter_map-append}
use Rattle.def_tree.specs.Tree as tree
use Rattle.def_tree.specs.Tree.{Tree, Trees, Key}
use Rattle.def_types.specs.Typed.{IsTyped, AreTyped}
use Rattle.def_types.proofs.Facts.{typed-older, typed-after}
use Rattle.def_sane.specs.Unfit.{IsSane}
use Rattle.def_sane.proofs.Meanings.{sane_means, valid_means}
use Rattle.def_policy.specs.declared.Join.{Join}
use Rattle.def_policy.specs.declared.Join.TheVariants as join
use Rattle.def_policy.specs.Policy.{Policy, Policies, never, always, key, older, after, hash, all, any, thresh, none, more, list_of, policies_of, joining}
use Rattle.def_policy.specs.Plain.{join_of, plain, plain_each}
use Rattle.def_policy.specs.Simple.{decisive, opened, gathered, joined, is_always, is_never, threshold, simple, simple_each}
use Rattle.def_policy.specs.Size.{HasLocks, HaveLocks}
use Rattle.def_policy.proofs.Joins.{joined_cases, chosen_cases}
use Rattle.def_ways.specs.Bound.{leaves, leaves_of}
use Rattle.def_ways.specs.Enough.{policy_of}
use Rattle.ms_way_laws.specs.Listed.{In}
use Rattle.ms_way_laws.proofs.Listed.{in_left, in_right}
use Rattle.ms_way_laws.proofs.Lists.{of_found}
use Rattle.ms_way_laws.proofs.Lowered.{locks_of}

-- these are some of those, in order
pub data Picked {A : Type 0} : List A → List A → Type 0 where
  done : Picked [] []
  with : (x : A) (some xs : List A) → Picked some xs → Picked (x ∷ some) (x ∷ xs)
  without : (x : A) (some xs : List A) → Picked some xs → Picked some (x ∷ xs)

module _ {A : Type 0} where
  picked_none : (xs : List A) → Picked [] xs
  picked_none [] = done
  picked_none (x ∷ xs) = without x [] xs (picked_none xs)

  pub picked_same : (xs : List A) → Picked xs xs
  picked_same [] = done
  picked_same (x ∷ xs) = with x xs xs (picked_same xs)

  picked_append : (a xs b ys : List A) → Picked a xs → Picked b ys → Picked (a ++ b) (xs ++ ys)
  picked_append a xs b ys done q = q
  picked_append a xs b ys (with x c zs p) q = with x (c ++ b) (zs ++ ys) (picked_append c zs b ys p q)
  picked_append a xs b ys (without x c zs p) q = without x (a ++ b) (zs ++ ys) (picked_append a zs b ys p q)

  picked_as : (a b xs : List A) → a ≡ b → Picked b xs → Picked a xs
  picked_as a b xs e p = subst (λ some. Picked some xs) (sym e) p

  pub in_picked : (a xs : List A) → Picked a xs → (x : A) → In x a → In x xs
  in_picked a xs done x h = h
  in_picked a xs (with y c zs p) x (inl e) = inl e
  in_picked a xs (with y c zs p) x (inr h) = inr (in_picked c zs p x h)
  in_picked a xs (without y c zs p) x h = inr (in_picked a zs p x h)

-- what is found at the leaves, where nothing is found at Never and Always
module _ {B : Type 0} (find : Policy → Option B) (at_never : find never ≡ None) (at_always : find always ≡ None) where
  abbrev pub found : Policy → List B
  found p = filter_map find (leaves p)

  abbrev pub found_of : Policies → List B
  found_of ps = filter_map find (leaves_of ps)

  abbrev pub found_each : List Policy → List B
  found_each [] = []
  found_each (x ∷ xs) = found x ++ found_each xs

  of_never : found never ≡ []
  of_never = rw at_never refl

  of_always : found always ≡ []
  of_always = rw at_always refl

  pub of_more : (x : Policy) (xs : Policies) → found_of (more x xs) ≡ found x ++ found_of xs
  of_more x xs = filter_map-append find (leaves x) (leaves_of xs)

  pub of_policies : (xs : List Policy) → found_of (policies_of xs) ≡ found_each xs
  of_policies [] = refl
  of_policies (x ∷ xs) = of_more x (policies_of xs) ∙ ap (λ ys. found x ++ ys) (of_policies xs)

  pub of_joining : (how : Join) (parts : Policies) → found (joining how parts) ≡ found_of parts
  of_joining join.All parts = refl
  of_joining join.Any parts = refl

  of_list : (parts : Policies) (xs : List Policy) → found_each (list_of parts ++ xs) ≡ found_of parts ++ found_each xs
  of_list none xs = refl
  of_list (more x parts) xs =
      ap (λ ys. found x ++ ys) (of_list parts xs)
      ∙ sym (append_assoc (found x) (found_of parts) (found_each xs))
      ∙ ap (λ ys. ys ++ found_each xs) (sym (of_more x parts))

  abbrev kept : Join → List Policy → List B
  kept how xs = found_each (flat_map (opened how) xs)

  of_opened : (how : Join) (xs : List Policy) → kept how xs ≡ found_each xs
  of_opened how [] = refl
  of_opened join.All (always ∷ xs) = of_opened join.All xs ∙ ap (λ ys. ys ++ found_each xs) (sym of_always)
  of_opened join.All (all parts ∷ xs) = of_list parts (flat_map (opened join.All) xs) ∙ ap (λ ys. found_of parts ++ ys) (of_opened join.All xs)
  of_opened join.All (x ∷ xs) = ap (λ ys. found x ++ ys) (of_opened join.All xs)
  of_opened join.Any (never ∷ xs) = of_opened join.Any xs ∙ ap (λ ys. ys ++ found_each xs) (sym of_never)
  of_opened join.Any (any parts ∷ xs) = of_list parts (flat_map (opened join.Any) xs) ∙ ap (λ ys. found_of parts ++ ys) (of_opened join.Any xs)
  of_opened join.Any (x ∷ xs) = ap (λ ys. found x ++ ys) (of_opened join.Any xs)

  of_gathered : (how : Join) (xs : List Policy) → found (gathered how xs) ≡ found_each xs
  of_gathered join.All [] = of_always
  of_gathered join.Any [] = of_never
  of_gathered how (x ∷ []) = sym (append-nil (found x))
  of_gathered how (x ∷ y ∷ xs) = of_joining how (policies_of (x ∷ y ∷ xs)) ∙ of_policies (x ∷ y ∷ xs)

  joined_found : (how : Join) (xs : List Policy) (ys : List B) → Picked (found_each xs) ys → Picked (found (joined how xs)) ys
  joined_found how xs ys p =
      joined_cases (λ x. Picked (found x) ys) how xs
      (λ e. picked_as (found (decisive how)) [] ys (of_decisive how) (picked_none ys))
      (λ e. picked_as (found (gathered how (flat_map (opened how) xs))) (found_each xs) ys (of_gathered how (flat_map (opened how) xs) ∙ of_opened how xs) p)
    where
      of_decisive : (how : Join) → found (decisive how) ≡ []
      of_decisive join.All = of_never
      of_decisive join.Any = of_always

  of_left : (xs : List Policy) → found_each (filter (λ part. not (is_always part || is_never part)) xs) ≡ found_each xs
  of_left [] = refl
  of_left (never ∷ xs) = of_left xs ∙ ap (λ ys. ys ++ found_each xs) (sym of_never)
  of_left (always ∷ xs) = of_left xs ∙ ap (λ ys. ys ++ found_each xs) (sym of_always)
  of_left (x ∷ xs) = ap (λ ys. found x ++ ys) (of_left xs)

  threshold_found : (k : ℕ) (xs : List Policy) (ys : List B) → Picked (found_each xs) ys → Picked (found (threshold k xs)) ys
  threshold_found k xs ys p =
      let number : ℕ = k - length (filter is_always xs) in
      let rest : List Policy = filter (λ part. not (is_always part || is_never part)) xs in
      let left = picked_as (found_each rest) (found_each xs) ys (of_left xs) p in
      chosen_cases (λ x. Picked (found x) ys) number rest
      (λ e. picked_as (found always) [] ys of_always (picked_none ys))
      (λ e. picked_as (found never) [] ys of_never (picked_none ys))
      (λ e. joined_found join.Any rest ys left)
      (λ e. joined_found join.All rest ys left)
      (picked_as (found_of (policies_of rest)) (found_each rest) ys (of_policies rest) left)

  mutual
    pub simple_found : (p : Policy) → Picked (found (simple p)) (found p)
    simple_found never = picked_same (found never)
    simple_found always = picked_same (found always)
    simple_found (key k) = picked_same (found (key k))
    simple_found (older n) = picked_same (found (older n))
    simple_found (after n) = picked_same (found (after n))
    simple_found (hash kind value) = picked_same (found (hash kind value))
    simple_found (all parts) = joined_found join.All (simple_each parts) (found_of parts) (each_found parts)
    simple_found (any parts) = joined_found join.Any (simple_each parts) (found_of parts) (each_found parts)
    simple_found (thresh k parts) = threshold_found k (simple_each parts) (found_of parts) (each_found parts)

    each_found : (xs : Policies) → Picked (found_each (simple_each xs)) (found_of xs)
    each_found none = done
    each_found (more x xs) =
        subst (λ ys. Picked (found_each (simple_each (more x xs))) ys) (sym (of_more x xs))
        (picked_append (found (simple x)) (found x) (found_each (simple_each xs)) (found_of xs) (simple_found x) (each_found xs))

-- ---- locks in range

abbrev pub atom : Policy → Option Policy
atom never = None
atom always = None
atom part = Some part

mutual
  locks_by_atoms : (p : Policy) → ((part : Policy) → In part (filter_map atom (leaves p)) → HasLocks part) → HasLocks p
  locks_by_atoms never h = tt
  locks_by_atoms always h = tt
  locks_by_atoms (key k) h = tt
  locks_by_atoms (older n) h = h (older n) (inl refl)
  locks_by_atoms (after n) h = h (after n) (inl refl)
  locks_by_atoms (hash kind value) h = tt
  locks_by_atoms (all parts) h = locks_by_atoms_of parts h
  locks_by_atoms (any parts) h = locks_by_atoms_of parts h
  locks_by_atoms (thresh k parts) h = locks_by_atoms_of parts h

  locks_by_atoms_of : (ps : Policies) → ((part : Policy) → In part (filter_map atom (leaves_of ps)) → HasLocks part) → HaveLocks ps
  locks_by_atoms_of none h = tt
  locks_by_atoms_of (more x xs) h =
      let joined = filter_map-append atom (leaves x) (leaves_of xs) in (
        locks_by_atoms x (λ part i. h part (subst (λ ys. In part ys) (sym joined) (in_left part (filter_map atom (leaves x)) (filter_map atom (leaves_of xs)) i))),
        locks_by_atoms_of xs (λ part i. h part (subst (λ ys. In part ys) (sym joined) (in_right part (filter_map atom (leaves x)) (filter_map atom (leaves_of xs)) i))),
      )

abbrev AreLocksOf : Option Policy → Type 0
AreLocksOf None = ⊤
AreLocksOf (Some x) = HasLocks x

atom_locks : (part : Policy) → HasLocks part → AreLocksOf (atom part)
atom_locks never h = tt
atom_locks always h = tt
atom_locks (key k) h = h
atom_locks (older n) h = h
atom_locks (after n) h = h
atom_locks (hash kind value) h = h
atom_locks (all parts) h = h
atom_locks (any parts) h = h
atom_locks (thresh k parts) h = h

atom_is : (part x : Policy) → atom part ≡ Some x → HasLocks part → HasLocks x
atom_is part x e h = subst AreLocksOf e (atom_locks part h)

simple_locks : (p : Policy) → HasLocks p → HasLocks (simple p)
simple_locks p l = locks_by_atoms (simple p) (λ part i.
    let f = of_found atom part (leaves p) (in_picked (found atom refl refl (simple p)) (found atom refl refl p) (simple_found atom refl refl p) part i) in
    atom_is f.source part f.is (locks_of p l f.source f.listed))

locks_multi : (ks : List Key) → HaveLocks (policies_of (map key ks))
locks_multi [] = tt
locks_multi (k ∷ ks) = (tt, locks_multi ks)

locks_joining : (how : Join) (parts : Policies) → HaveLocks parts → HasLocks (joining how parts)
locks_joining join.All parts h = h
locks_joining join.Any parts h = h

mutual
  plain_locks : (t : Tree) → IsTyped t → HasLocks (plain t)
  plain_locks tree.just_0 h = tt
  plain_locks tree.just_1 h = tt
  plain_locks (tree.pk_k k) h = tt
  plain_locks (tree.pk_h k) h = tt
  plain_locks (tree.older n) h = let r = typed-older n h in record { least = r.0; most = r.1 }
  plain_locks (tree.after n) h = let r = typed-after n h in record { least = r.0; most = r.1 }
  plain_locks (tree.hash kind value) h = tt
  plain_locks (tree.and_or x y z) h = ((plain_locks x h.0, (plain_locks y h.1, tt)), (plain_locks z h.2, tt))
  plain_locks (tree.two kind x y) h = locks_joining (join_of kind) (policies_of (plain x ∷ plain y ∷ [])) (plain_locks x h.0, (plain_locks y h.1, tt))
  plain_locks (tree.thresh k xs) h = plain_locks_each xs h.0
  plain_locks (tree.multi k ks) h = locks_multi ks
  plain_locks (tree.wrap wrapper x) h = plain_locks x h.0

  plain_locks_each : (xs : Trees) → AreTyped xs → HaveLocks (plain_each xs)
  plain_locks_each tree.none h = tt
  plain_locks_each (tree.more x xs) h = (plain_locks x h.0, plain_locks_each xs h.1)

pub sane_locks : (t : Tree) → IsSane t → HasLocks (policy_of t)
sane_locks t sane = simple_locks (plain t) (plain_locks t ((valid_means t).0 ((sane_means t).0 sane).0).0)
