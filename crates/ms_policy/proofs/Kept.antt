-- The policy of a sane miniscript has each of its keys once and its locks' operands.
use Rattle.std.proofs.Common.{◌≡◌, ℕ, ◌-◌, Bool, true, false, not, ◌||◌, List, [], ◌∷◌, ◌++◌, length, map, filter, flat_map, Contains, refl, sym, ◌∙◌, ap, subst, append_assoc}
use Rattle.std.specs.Bool.{⊤}
use Rattle.std.specs.List.{IsDistinct, AllByRecursion}
use Rattle.std.specs.Str.{bytes_eq}
use Rattle.std.proofs.lemmas.List.{append-nil}
use Rattle.std.proofs.lemmas.List.Elements.{Contains-append_right, Contains-append_left}
use Rattle.std.proofs.lemmas.Slice.Eq.{bytes_eq-Decides}
use Rattle.def_tree.specs.Tree as tree
use Rattle.def_tree.specs.Tree.{Tree, Trees, Key}
use Rattle.def_types.specs.Typed.{IsTyped, AreTyped}
use Rattle.def_types.proofs.Facts.{typed-older, typed-after}
use Rattle.def_sane.specs.Keys as sane
use Rattle.def_sane.specs.Keys.{AreDistinct}
use Rattle.def_policy.specs.declared.Join.{Join}
use Rattle.def_policy.specs.declared.Join.TheVariants as join
use Rattle.def_policy.specs.Policy.{Policy, Policies, never, always, key, older, after, hash, all, any, thresh, none, more, list_of, policies_of, joining}
use Rattle.def_policy.specs.Plain.{join_of, both_of, plain, plain_each}
use Rattle.def_policy.specs.Simple.{decisive, opened, gathered, joined, is_always, is_never, threshold, simple, simple_each}
use Rattle.def_policy.specs.Keys.{keys, keys_of, HasDistinctKeys}
use Rattle.def_policy.specs.Size.{HasLocks, HaveLocks}
use Rattle.def_policy.proofs.Joins.{joined_cases, chosen_cases}
use Rattle.ms_row_laws.proofs.KeyLists.{first_in}
use Rattle.ms_policy.proofs.Enough.{Picked, done, with, picked_none, picked_append, picked_distinct}

-- the keys of a list
abbrev pub keys_each : List Policy → List Key
keys_each [] = []
keys_each (x ∷ xs) = keys x ++ keys_each xs

picked_same : (ks : List Key) → Picked ks ks
picked_same [] = done
picked_same (k ∷ ks) = with k ks ks (picked_same ks)

picked_as : (a b ks : List Key) → a ≡ b → Picked b ks → Picked a ks
picked_as a b ks e p = let P : List Key → Type 0 = λ some. Picked some ks in subst P (sym e) p

keys_of-policies_of : (xs : List Policy) → keys_of (policies_of xs) ≡ keys_each xs
keys_of-policies_of [] = refl
keys_of-policies_of (x ∷ xs) = ap (λ ks. keys x ++ ks) (keys_of-policies_of xs)

keys-joining : (how : Join) (parts : Policies) → keys (joining how parts) ≡ keys_of parts
keys-joining join.All parts = refl
keys-joining join.Any parts = refl

keys_each-append : (parts : Policies) (xs : List Policy) → keys_each (list_of parts ++ xs) ≡ keys_of parts ++ keys_each xs
keys_each-append none xs = refl
keys_each-append (more x parts) xs = ap (λ ks. keys x ++ ks) (keys_each-append parts xs) ∙ sym (append_assoc (keys x) (keys_of parts) (keys_each xs))

keys-opened : (how : Join) (xs : List Policy) → keys_each (flat_map (opened how) xs) ≡ keys_each xs
keys-opened how [] = refl
keys-opened join.All (always ∷ xs) = keys-opened join.All xs
keys-opened join.All (all parts ∷ xs) = keys_each-append parts (flat_map (opened join.All) xs) ∙ ap (λ ks. keys_of parts ++ ks) (keys-opened join.All xs)
keys-opened join.All (x ∷ xs) = ap (λ ks. keys x ++ ks) (keys-opened join.All xs)
keys-opened join.Any (never ∷ xs) = keys-opened join.Any xs
keys-opened join.Any (any parts ∷ xs) = keys_each-append parts (flat_map (opened join.Any) xs) ∙ ap (λ ks. keys_of parts ++ ks) (keys-opened join.Any xs)
keys-opened join.Any (x ∷ xs) = ap (λ ks. keys x ++ ks) (keys-opened join.Any xs)

keys-gathered : (how : Join) (xs : List Policy) → keys (gathered how xs) ≡ keys_each xs
keys-gathered join.All [] = refl
keys-gathered join.Any [] = refl
keys-gathered how (x ∷ []) = sym (append-nil (keys x))
keys-gathered how (x ∷ y ∷ xs) = keys-joining how (policies_of (x ∷ y ∷ xs)) ∙ keys_of-policies_of (x ∷ y ∷ xs)

-- the keys that a policy has are some of those of its parts
joined_keys : (how : Join) (xs : List Policy) (ks : List Key) → Picked (keys_each xs) ks → Picked (keys (joined how xs)) ks
joined_keys how xs ks p =
    joined_cases (λ x. Picked (keys x) ks) how xs
    (λ e. picked_as _ [] ks (no_keys how) (picked_none ks))
    (λ e. picked_as _ _ ks (keys-gathered how (flat_map (opened how) xs) ∙ keys-opened how xs) p)
  where
    no_keys : (how : Join) → keys (decisive how) ≡ []
    no_keys join.All = refl
    no_keys join.Any = refl

keys-left : (xs : List Policy) → keys_each (filter (λ part. not (is_always part || is_never part)) xs) ≡ keys_each xs
keys-left [] = refl
keys-left (never ∷ xs) = keys-left xs
keys-left (always ∷ xs) = keys-left xs
keys-left (x ∷ xs) = ap (λ ks. keys x ++ ks) (keys-left xs)

threshold_keys : (k : ℕ) (xs : List Policy) (ks : List Key) → Picked (keys_each xs) ks → Picked (keys (threshold k xs)) ks
threshold_keys k xs ks p =
    let number : ℕ = k - length (filter is_always xs) in
    let rest : List Policy = filter (λ part. not (is_always part || is_never part)) xs in
    let left = picked_as (keys_each rest) (keys_each xs) ks (keys-left xs) p in
    chosen_cases (λ x. Picked (keys x) ks) number rest
    (λ e. picked_none ks)
    (λ e. picked_none ks)
    (λ e. joined_keys join.Any rest ks left)
    (λ e. joined_keys join.All rest ks left)
    (picked_as (keys_of (policies_of rest)) (keys_each rest) ks (keys_of-policies_of rest) left)

mutual
  simple_keys : (p : Policy) → Picked (keys (simple p)) (keys p)
  simple_keys never = done
  simple_keys always = done
  simple_keys (key k) = picked_same (k ∷ [])
  simple_keys (older n) = done
  simple_keys (after n) = done
  simple_keys (hash kind value) = done
  simple_keys (all parts) = joined_keys join.All (simple_each parts) (keys_of parts) (each_keys parts)
  simple_keys (any parts) = joined_keys join.Any (simple_each parts) (keys_of parts) (each_keys parts)
  simple_keys (thresh k parts) = threshold_keys k (simple_each parts) (keys_of parts) (each_keys parts)

  each_keys : (xs : Policies) → Picked (keys_each (simple_each xs)) (keys_of xs)
  each_keys none = done
  each_keys (more x xs) = picked_append (keys (simple x)) (keys x) (keys_each (simple_each xs)) (keys_of xs) (simple_keys x) (each_keys xs)

keys-multi : (ks : List Key) → keys_of (policies_of (map key ks)) ≡ ks
keys-multi [] = refl
keys-multi (k ∷ ks) = ap (λ rest. k ∷ rest) (keys-multi ks)

keys-both_of : (how : Join) (x y : Policy) → keys (both_of how x y) ≡ keys x ++ keys y
keys-both_of how x y = keys-joining how (policies_of (x ∷ y ∷ [])) ∙ ap (λ ks. keys x ++ ks) (append-nil (keys y))

mutual
  plain_keys : (t : Tree) → keys (plain t) ≡ sane.keys t
  plain_keys tree.just_0 = refl
  plain_keys tree.just_1 = refl
  plain_keys (tree.pk_k k) = refl
  plain_keys (tree.pk_h k) = refl
  plain_keys (tree.older n) = refl
  plain_keys (tree.after n) = refl
  plain_keys (tree.hash kind value) = refl
  plain_keys (tree.and_or x y z) =
      keys-both_of join.Any (both_of join.All (plain x) (plain y)) (plain z) ∙
      ap (λ ks. ks ++ keys (plain z)) (keys-both_of join.All (plain x) (plain y)) ∙
      (let a = plain_keys x in let b = plain_keys y in let c = plain_keys z in cc)
  plain_keys (tree.two kind x y) = keys-both_of (join_of kind) (plain x) (plain y) ∙ (let a = plain_keys x in let b = plain_keys y in cc)
  plain_keys (tree.thresh k xs) = plain_keys_each xs
  plain_keys (tree.multi k ks) = keys-multi ks
  plain_keys (tree.wrap wrapper x) = plain_keys x

  plain_keys_each : (xs : Trees) → keys_of (plain_each xs) ≡ sane.keys_of_all xs
  plain_keys_each tree.none = refl
  plain_keys_each (tree.more x xs) = let a = plain_keys x in let b = plain_keys_each xs in cc

all_differ : (k : Key) (ks : List Key) → ¬ Contains ks k → AllByRecursion (λ y. bytes_eq k y ≡ false) ks
all_differ k [] h = tt
all_differ k (y ∷ ks) h = (go (bytes_eq k y) refl, all_differ k ks (λ i. h (Contains-append_right (y ∷ []) ks k i)))
  where
    go : (b : Bool) → bytes_eq k y ≡ b → bytes_eq k y ≡ false
    go false e = e
    go true e = absurd (h (Contains-append_left (y ∷ []) ks k (first ((bytes_eq-Decides k y).0 e))))
      where
        first : k ≡ y → Contains (y ∷ []) k
        first same = subst (Contains (y ∷ [])) (sym same) (first_in y [])

distinct_by_bytes : (ks : List Key) → AreDistinct ks → IsDistinct bytes_eq ks
unfolding IsDistinct
distinct_by_bytes [] h = tt
distinct_by_bytes (k ∷ ks) h = (all_differ k ks h.0, distinct_by_bytes ks h.1)

pub distinct_keys : (t : Tree) → AreDistinct (sane.keys t) → HasDistinctKeys (simple (plain t))
distinct_keys t h =
    let ks = subst (IsDistinct bytes_eq) (sym (plain_keys t)) (distinct_by_bytes (sane.keys t) h) in
    picked_distinct (keys (simple (plain t))) (keys (plain t)) (simple_keys (plain t)) ks

-- the locks of a list
abbrev pub LocksEach : List Policy → Type 0
LocksEach [] = ⊤
LocksEach (x ∷ xs) = HasLocks x × LocksEach xs

locks_policies : (xs : List Policy) → LocksEach xs → HaveLocks (policies_of xs)
locks_policies [] h = tt
locks_policies (x ∷ xs) h = (h.0, locks_policies xs h.1)

locks_list : (parts : Policies) (xs : List Policy) → HaveLocks parts → LocksEach xs → LocksEach (list_of parts ++ xs)
locks_list none xs h i = i
locks_list (more x parts) xs h i = (h.0, locks_list parts xs h.1 i)

locks_joining : (how : Join) (parts : Policies) → HaveLocks parts → HasLocks (joining how parts)
locks_joining join.All parts h = h
locks_joining join.Any parts h = h

locks_opened : (how : Join) (xs : List Policy) → LocksEach xs → LocksEach (flat_map (opened how) xs)
locks_opened how [] h = tt
locks_opened join.All (always ∷ xs) h = locks_opened join.All xs h.1
locks_opened join.All (all parts ∷ xs) h = locks_list parts _ h.0 (locks_opened join.All xs h.1)
locks_opened join.All (x ∷ xs) h = (h.0, locks_opened join.All xs h.1)
locks_opened join.Any (never ∷ xs) h = locks_opened join.Any xs h.1
locks_opened join.Any (any parts ∷ xs) h = locks_list parts _ h.0 (locks_opened join.Any xs h.1)
locks_opened join.Any (x ∷ xs) h = (h.0, locks_opened join.Any xs h.1)

locks_gathered : (how : Join) (xs : List Policy) → LocksEach xs → HasLocks (gathered how xs)
locks_gathered join.All [] h = tt
locks_gathered join.Any [] h = tt
locks_gathered how (x ∷ []) h = h.0
locks_gathered how (x ∷ y ∷ xs) h = locks_joining how (policies_of (x ∷ y ∷ xs)) (locks_policies (x ∷ y ∷ xs) h)

locks_joined : (how : Join) (xs : List Policy) → LocksEach xs → HasLocks (joined how xs)
locks_joined how xs h = joined_cases HasLocks how xs (λ e. constant how) (λ e. locks_gathered how _ (locks_opened how xs h))
  where
    constant : (how : Join) → HasLocks (decisive how)
    constant join.All = tt
    constant join.Any = tt

locks_left : (xs : List Policy) → LocksEach xs → LocksEach (filter (λ part. not (is_always part || is_never part)) xs)
locks_left [] h = tt
locks_left (never ∷ xs) h = locks_left xs h.1
locks_left (always ∷ xs) h = locks_left xs h.1
locks_left (x ∷ xs) h = (h.0, locks_left xs h.1)

locks_threshold : (k : ℕ) (xs : List Policy) → LocksEach xs → HasLocks (threshold k xs)
locks_threshold k xs h =
    let left = locks_left xs h in
    chosen_cases HasLocks _ _ (λ e. tt) (λ e. tt) (λ e. locks_joined join.Any _ left) (λ e. locks_joined join.All _ left) (locks_policies _ left)

mutual
  simple_locks : (p : Policy) → HasLocks p → HasLocks (simple p)
  simple_locks never h = tt
  simple_locks always h = tt
  simple_locks (key k) h = tt
  simple_locks (older n) h = h
  simple_locks (after n) h = h
  simple_locks (hash kind value) h = tt
  simple_locks (all parts) h = locks_joined join.All (simple_each parts) (each_locks parts h)
  simple_locks (any parts) h = locks_joined join.Any (simple_each parts) (each_locks parts h)
  simple_locks (thresh k parts) h = locks_threshold k (simple_each parts) (each_locks parts h)

  each_locks : (xs : Policies) → HaveLocks xs → LocksEach (simple_each xs)
  each_locks none h = tt
  each_locks (more x xs) h = (simple_locks x h.0, each_locks xs h.1)

locks_multi : (ks : List Key) → HaveLocks (policies_of (map key ks))
locks_multi [] = tt
locks_multi (k ∷ ks) = (tt, locks_multi ks)

mutual
  plain_locks : (t : Tree) → IsTyped t → HasLocks (plain t)
  plain_locks tree.just_0 h = tt
  plain_locks tree.just_1 h = tt
  plain_locks (tree.pk_k k) h = tt
  plain_locks (tree.pk_h k) h = tt
  plain_locks (tree.older n) h = let r = typed-older n h in record { least = r.0; most = r.1 }
  plain_locks (tree.after n) h = let r = typed-after n h in record { least = r.0; most = r.1 }
  plain_locks (tree.hash kind value) h = tt
  plain_locks (tree.and_or x y z) h = ((plain_locks x h.0, (plain_locks y h.1, tt)), (plain_locks z h.2, tt))
  plain_locks (tree.two kind x y) h = locks_joining (join_of kind) (policies_of (plain x ∷ plain y ∷ [])) (plain_locks x h.0, (plain_locks y h.1, tt))
  plain_locks (tree.thresh k xs) h = plain_locks_each xs h.0
  plain_locks (tree.multi k ks) h = locks_multi ks
  plain_locks (tree.wrap wrapper x) h = plain_locks x h.0

  plain_locks_each : (xs : Trees) → AreTyped xs → HaveLocks (plain_each xs)
  plain_locks_each tree.none h = tt
  plain_locks_each (tree.more x xs) h = (plain_locks x h.0, plain_locks_each xs h.1)

pub in_range_locks : (t : Tree) → IsTyped t → HasLocks (simple (plain t))
in_range_locks t h = simple_locks (plain t) (plain_locks t h)
