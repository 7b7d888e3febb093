-- The first node that repeats a key.
use Rattle.std.proofs.Common.{inl, inr, ◌≡◌, ℕ, zero, suc, ◌+◌, true, false, List, [], ◌∷◌, ◌++◌, take, slice_get, Some, Contains, refl, sym, subst, append_assoc}
use Rattle.std.specs.Str.{bytes_eq}
use Rattle.std.specs.List.{list_any, flat_map}
use Rattle.std.proofs.lemmas.Bool.{cases_Bool, or_cases}
use Rattle.std.proofs.lemmas.List.{append-nil}
use Rattle.std.proofs.lemmas.List.Elements.{Contains-append_left}
use Rattle.std.proofs.lemmas.Map.Views.{Contains-from_any}
use Rattle.std.proofs.lemmas.Slice.Eq.{bytes_eq-Decides}
use Rattle.def_tree.specs.Tree.{Tree, Key}
use Rattle.def_tree.specs.Nodes.{all_nodes}
use Rattle.def_sane.specs.Keys.{own_keys, repeats, repeated_from, repeated_key}
use Rattle.def_sane.specs.Repeats.{Repeats}
use Rattle.def_sane.specs.Laws.{RepeatedIsFirst}
use Rattle.def_sane.proofs.FirstRepeat.{Free, free_from_test}
use Rattle.def_sane.proofs.First.{IsFirst, first_here, first_behind, first_is}

-- some key of a list stands before, or earlier in the list
abbrev Again : (before own : List Key) → Type 0
Again before own = (place : ℕ) × (key : Key) × (slice_get own place ≡ Some key) × Contains (before ++ take place own) key

again_from_test : (before own : List Key) → repeats before own ≡ true → Again before own
again_from_test before [] e = cc
again_from_test before (k ∷ rest) e =
    elim (or_cases (list_any (bytes_eq k) before) (repeats (before ++ k ∷ []) rest) e) [
      | inl q ↦ (zero, k, refl, Contains-append_left before [] k (Contains-from_any (λ x y. (bytes_eq-Decides x y).0) k before q))
      | inr q ↦
          let a = again_from_test (before ++ k ∷ []) rest q in
          (suc a.0, a.1, a.2, subst (λ (l : List Key). Contains l a.1) (append_assoc before (k ∷ []) (take a.0 rest)) a.3)
    ]

none_again : (before own : List Key) → Free before own → (place : ℕ) (key : Key) → slice_get own place ≡ Some key → ¬ Contains (before ++ take place own) key
none_again before [] h place key e c = cc
none_again before (k ∷ rest) h zero key e c =
    let same : key ≡ k = cc in
    h.0 (subst (λ (x : Key). Contains before x) same (subst (λ (l : List Key). Contains l key) (append-nil before) c))
none_again before (k ∷ rest) h (suc place) key e c =
    none_again (before ++ k ∷ []) rest h.1 place key e (subst (λ (l : List Key). Contains l key) (sym (append_assoc before (k ∷ []) (take place rest))) c)

-- the node at place n of a list repeats a key, where these keys stand before the list
abbrev RepeatsAt : (before : List Key) → List Tree → (n : ℕ) → Type 0
RepeatsAt before nodes n =
    (node : Tree) × (slice_get nodes n ≡ Some node) × Again (before ++ flat_map own_keys (take n nodes)) (own_keys node)

-- the first one doesn't
first_apart : (before : List Key) (t : Tree) (nodes : List Tree) → repeats before (own_keys t) ≡ false → ¬ RepeatsAt before (t ∷ nodes) zero
first_apart before t nodes q r =
    let same : r.0 ≡ t = let e = r.1 in cc in
    let a : Again before (own_keys t) = subst (λ (x : Tree). Again before (own_keys x)) same (subst (λ (l : List Key). Again l (own_keys r.0)) (append-nil before) r.2) in
    none_again before (own_keys t) (free_from_test before (own_keys t) q) a.0 a.1 a.2 a.3

-- one behind it, behind its keys
later : (before : List Key) (t : Tree) (nodes : List Tree) (n : ℕ) → RepeatsAt (before ++ own_keys t) nodes n → RepeatsAt before (t ∷ nodes) (suc n)
later before t nodes n r = (r.0, r.1, subst (λ (l : List Key). Again l (own_keys r.0)) (append_assoc before (own_keys t) (flat_map own_keys (take n nodes))) r.2)

earlier : (before : List Key) (t : Tree) (nodes : List Tree) (n : ℕ) → RepeatsAt before (t ∷ nodes) (suc n) → RepeatsAt (before ++ own_keys t) nodes n
earlier before t nodes n r = (r.0, r.1, subst (λ (l : List Key). Again l (own_keys r.0)) (sym (append_assoc before (own_keys t) (flat_map own_keys (take n nodes)))) r.2)

first_repeats : (start : ℕ) (before : List Key) (nodes : List Tree) → IsFirst (RepeatsAt before nodes) start (repeated_from start before nodes)
first_repeats start before [] = λ n r. let e = r.1 in cc
first_repeats start before (t ∷ nodes) = elim (cases_Bool (repeats before (own_keys t))) [
  | inl q ↦ rw q
      (first_here (RepeatsAt before (t ∷ nodes)) start
      (t, refl, subst (λ (l : List Key). Again l (own_keys t)) (sym (append-nil before)) (again_from_test before (own_keys t) q)))
  | inr q ↦ rw q
      (first_behind (RepeatsAt before (t ∷ nodes)) (RepeatsAt (before ++ own_keys t) nodes) start _ (first_apart before t nodes q)
      (λ n. (earlier before t nodes n, later before t nodes n)) (first_repeats (start + 1) (before ++ own_keys t) nodes))
]

-- as the law says it
pub repeated_is_first : RepeatedIsFirst
repeated_is_first tree = first_is (Repeats tree) (repeated_key tree) (first_repeats 0 [] (all_nodes tree))
