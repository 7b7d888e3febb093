-- No key is repeated exactly where all keys are distinct.
use Rattle.std.proofs.Common.{◌≡◌, ◌++◌, refl, ◌↔◌, ℕ, ◌+◌, ◌<◌, false, List, [], ◌∷◌, None, Contains, sym, subst, ◌⊎◌, inl, inr, arith, append_assoc}
use Rattle.std.specs.List.{flat_map, list_any}
use Rattle.std.proofs.lemmas.Bool.{cases_Bool}
use Rattle.std.proofs.lemmas.Grind.{flat_map-append}
use Rattle.std.proofs.lemmas.List.{append-nil}
use Rattle.def_tree.specs.Tree.{Tree, Trees, and_or, two, thresh, multi, wrap, none, more, Key}
use Rattle.def_tree.specs.Nodes.{all_nodes, nodes_of_all}
use Rattle.def_sane.specs.Keys.{keys, keys_of_all, own_keys, repeats, repeated_from, AreDistinct}
use Rattle.std.specs.Prelude.{⊤}
use Rattle.std.specs.Str.{bytes_eq}
use Rattle.std.proofs.lemmas.List.Elements.{Contains-append_left, Contains-append_right, Contains-append_cases, Contains-push, Contains-push_cases}
use Rattle.std.proofs.lemmas.Map.Views.{list_any-from_Contains, Contains-from_any}
use Rattle.std.proofs.lemmas.Slice.Eq.{bytes_eq-Decides}
use Rattle.std.proofs.lemmas.Cmp.{nat_list_eq_equiv}
use Rattle.def_sane.specs.Laws.{NoneIsRepeated}

-- the keys of a tree are those of its nodes, in their order
mutual
  pub keys_of_nodes : (t : Tree) → flat_map own_keys (all_nodes t) ≡ keys t
  keys_of_nodes (and_or x y z) = simp (flat_map-append, keys_of_nodes x, keys_of_nodes y, keys_of_nodes z) (append-nil (keys x ++ keys y ++ keys z))
  keys_of_nodes (two kind x y) = simp (flat_map-append, keys_of_nodes x, keys_of_nodes y) (append-nil (keys x ++ keys y))
  keys_of_nodes (thresh k xs) = simp (flat_map-append, keys_of_node_list xs) (append-nil (keys_of_all xs))
  keys_of_nodes (multi k own) = append-nil own
  keys_of_nodes (wrap wrapper x) = simp (flat_map-append, keys_of_nodes x) (append-nil (keys x))
  keys_of_nodes tree = refl

  pub keys_of_node_list : (xs : Trees) → flat_map own_keys (nodes_of_all xs) ≡ keys_of_all xs
  keys_of_node_list none = refl
  keys_of_node_list (more x xs) = simp (flat_map-append, keys_of_nodes x, keys_of_node_list xs)

-- no key of the list stands before, or earlier in the list
abbrev pub Free : List Key → List Key → Type 0
Free before [] = ⊤
Free before (key ∷ rest) = (¬ Contains before key) × Free (before ++ key ∷ []) rest

-- a key isn't found exactly where it isn't there
not_found : (key : Key) (before : List Key) → list_any (bytes_eq key) before ≡ false → ¬ Contains before key
not_found key before e h = let f = list_any-from_Contains nat_list_eq_equiv key before h in cc

not_there : (key : Key) (before : List Key) → ¬ Contains before key → list_any (bytes_eq key) before ≡ false
not_there key before h =
    elim (cases_Bool (list_any (bytes_eq key) before)) [ inl e ↦ absurd (h (Contains-from_any (λ x y. (bytes_eq-Decides x y).0) key before e)) | inr e ↦ e ]

pub free_from_test : (before own : List Key) → repeats before own ≡ false → Free before own
free_from_test before [] e = tt
free_from_test before (key ∷ rest) e =
    elim (cases_Bool (list_any (bytes_eq key) before)) [
      | inl q ↦ (let f = rw q at e in cc)
      | inr q ↦ (not_found key before q, free_from_test (before ++ key ∷ []) rest (rw q at e))
    ]

test_from_free : (before own : List Key) → Free before own → repeats before own ≡ false
test_from_free before [] h = refl
test_from_free before (key ∷ rest) h = rw (not_there key before h.0) (test_from_free (before ++ key ∷ []) rest h.1)

-- one list after another
free-append : (before xs ys : List Key) → Free before (xs ++ ys) ↔ (Free before xs × Free (before ++ xs) ys)
free-append before [] ys = (λ h. (tt, rw (append-nil before) h), λ h. rw (append-nil before) at h.1)
free-append before (x ∷ xs) ys =
    let rest = free-append (before ++ x ∷ []) xs ys in
    let same : (before ++ x ∷ []) ++ xs ≡ before ++ (x ∷ xs) = append_assoc before (x ∷ []) xs in (
      λ h. ((h.0, (rest.0 h.1).0), subst (λ l. Free l ys) same (rest.0 h.1).1),
      λ h. (h.0.0, rest.1 (h.0.1, subst (λ l. Free l ys) (sym same) h.1)),
    )

free_from_none : (first : ℕ) (before : List Key) (nodes : List Tree) → repeated_from first before nodes ≡ None → Free before (flat_map own_keys nodes)
free_from_none first before [] e = tt
free_from_none first before (t ∷ nodes) e = elim (cases_Bool (repeats before (own_keys t))) [
  | inl q ↦ (let f = rw q at e in cc)
  | inr q ↦ (free-append before (own_keys t) (flat_map own_keys nodes)).1
      (free_from_test before (own_keys t) q, free_from_none (first + 1) (before ++ own_keys t) nodes (rw q at e))
]

none_from_free : (first : ℕ) (before : List Key) (nodes : List Tree) → Free before (flat_map own_keys nodes) → repeated_from first before nodes ≡ None
none_from_free first before [] h = refl
none_from_free first before (t ∷ nodes) h =
    let f = (free-append before (own_keys t) (flat_map own_keys nodes)).0 h in
    rw (test_from_free before (own_keys t) f.0) (none_from_free (first + 1) (before ++ own_keys t) nodes f.1)

-- the first of a list, or one of the rest
first_or_rest : (k : Key) (ks : List Key) (key : Key) → Contains (k ∷ ks) key → (k ≡ key) ⊎ Contains ks key
first_or_rest k ks key c =
    elim (Contains-append_cases (k ∷ []) ks key c) [
      | inl at ↦ elim (Contains-push_cases [] k key at) [ inl empty ↦ absurd (let p : empty.0 < 0 = empty.1 in omega arith) | inr same ↦ inl same ]
      | inr later ↦ inr later
    ]

-- a list that is free of what stands before has none of it, and is distinct
apart_from_free : (before ks : List Key) → Free before ks → (key : Key) → Contains ks key → ¬ Contains before key
apart_from_free before [] h key c d = absurd (let p : c.0 < 0 = c.1 in omega arith)
apart_from_free before (k ∷ ks) h key c d =
    elim (first_or_rest k ks key c) [
      | inl same ↦ h.0 (subst (λ l. Contains before l) (sym same) d)
      | inr later ↦ apart_from_free (before ++ k ∷ []) ks h.1 key later (Contains-append_left before (k ∷ []) key d)
    ]

distinct_from_free : (before ks : List Key) → Free before ks → AreDistinct ks
distinct_from_free before [] h = tt
distinct_from_free before (k ∷ ks) h =
    (λ c. apart_from_free (before ++ k ∷ []) ks h.1 k c (Contains-push before k), distinct_from_free (before ++ k ∷ []) ks h.1)

free_from_distinct : (before ks : List Key) → AreDistinct ks → ((key : Key) → Contains ks key → ¬ Contains before key) → Free before ks
free_from_distinct before [] h apart = tt
free_from_distinct before (k ∷ ks) h apart = (
  apart k (Contains-append_left (k ∷ []) ks k (Contains-push [] k)),
  free_from_distinct (before ++ k ∷ []) ks h.1 (λ key c d. still_apart key c (Contains-push_cases before k key d)),
)
  where
    still_apart : (key : Key) → Contains ks key → Contains before key ⊎ (k ≡ key) → ⊥
    still_apart key c (inl d) = apart key (Contains-append_right (k ∷ []) ks key c) d
    still_apart key c (inr same) = h.0 (subst (λ l. Contains ks l) (sym same) c)

pub none_is_repeated : NoneIsRepeated
none_is_repeated tree = (
  λ e. distinct_from_free [] (keys tree) (subst (λ l. Free [] l) (keys_of_nodes tree) (free_from_none 0 [] (all_nodes tree) e)),
  λ h. none_from_free 0 [] (all_nodes tree)
      (subst (λ l. Free [] l) (sym (keys_of_nodes tree))
      (free_from_distinct [] (keys tree) h (λ key c d. absurd (let p : d.0 < 0 = d.1 in omega arith)))),
)
