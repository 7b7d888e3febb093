-- What stands in a joined map: what stands in the first, or else in the second.
use Rattle.std.proofs.Common.{◌≡◌, ℕ, ◌==◌, ◌||◌, Bool, true, false, is_some, [], ◌∷◌, ◌++◌, filter, Option, Some, None, inl, inr, refl, sym, ap, ◌∙◌}
use Rattle.std.specs.Prelude.{find}
use Rattle.std.specs.Str.{bytes_eq}
use Rattle.std.proofs.lemmas.Bool.{cases_Bool, or_cases, not-false}
use Rattle.std.proofs.lemmas.Slice.Eq.{bytes_eq-Decides}
use Rattle.def_script.specs.Bytes.{Bytes}
use Rattle.def_psbt.specs.Map.{Pair, Map, type_of, pair_of_type}
use Rattle.def_psbt.specs.Fields.{has_field}
use Rattle.def_psbt.specs.Listed.{stands}
use Rattle.def_psbt.specs.Reading.{or_else}
use Rattle.def_combine.specs.Joined.{is_new, joined_map}

-- the first pair whose key passes a test
abbrev pub by_key : (test : Bytes → Bool) → Map → Option Pair
by_key test map = find (λ (pair : Pair). test pair.key) map

found_behind : (test : Bytes → Bool) (a b : Map) → by_key test (a ++ b) ≡ or_else (by_key test a) (by_key test b)
found_behind test [] b = refl
found_behind test (p ∷ a) b = elim (cases_Bool (test p.key)) [ inl e ↦ rw e refl | inr e ↦ rw e (found_behind test a b) ]

-- a key that stands in a map where none passes doesn't pass
not_found : (test : Bytes → Bool) (a : Map) (key : Bytes) → by_key test a ≡ None → stands key a ≡ true → test key ≡ false
not_found test [] key none s = absurd cc
not_found test (p ∷ a) key none s = elim (cases_Bool (test p.key)) [
  | inl is ↦ (let no = rw is at none in absurd cc)
  | inr other ↦ elim (or_cases (bytes_eq key p.key) (stands key a) s) [
    | inl same ↦ ap test ((bytes_eq-Decides key p.key).0 same) ∙ other
    | inr later ↦ not_found test a key (rw other at none) later
  ]
]

new_found : (test : Bytes → Bool) (a b : Map) → by_key test a ≡ None → by_key test (filter (is_new a) b) ≡ by_key test b
new_found test a [] none = refl
new_found test a (q ∷ b) none =
    let rest = new_found test a b none in
    elim (cases_Bool (is_new a q)) [
      | inl new ↦ elim (cases_Bool (test q.key)) [ inl is ↦ rw (new, is) refl | inr other ↦ rw (new, other) rest ]
      | inr old ↦
          let other : test q.key ≡ false = not_found test a q.key none (not-false (stands q.key a) old) in
          rw (old, other) rest
    ]

pub joined_found : (test : Bytes → Bool) (a b : Map) → by_key test (joined_map a b) ≡ or_else (by_key test a) (by_key test b)
joined_found test a b = found_behind test a (filter (is_new a) b) ∙ go (by_key test a) refl
  where
    go : (o : Option Pair) → by_key test a ≡ o → or_else o (by_key test (filter (is_new a) b)) ≡ or_else o (by_key test b)
    go (Some p) e = refl
    go None e = new_found test a b e

-- ---- by types

pub joined_type : (type : ℕ) (a b : Map) → pair_of_type type (joined_map a b) ≡ or_else (pair_of_type type a) (pair_of_type type b)
joined_type type a b = joined_found (λ key. type_of key == type) a b

-- the pair of a type that the first has
pub kept_type : (type : ℕ) (a b : Map) → has_field type a ≡ true → pair_of_type type (joined_map a b) ≡ pair_of_type type a
kept_type type a b has = joined_type type a b ∙ go (pair_of_type type a) has
  where
    go : (o : Option Pair) → is_some o ≡ true → or_else o (pair_of_type type b) ≡ o
    go (Some p) e = refl
    go None e = absurd cc

pub some_else : (o p : Option Pair) → is_some (or_else o p) ≡ (is_some o || is_some p)
some_else (Some x) p = refl
some_else None p = refl

pub joined_has : (type : ℕ) (a b : Map) → has_field type (joined_map a b) ≡ (has_field type a || has_field type b)
joined_has type a b = ap is_some (joined_type type a b) ∙ some_else (pair_of_type type a) (pair_of_type type b)

-- ---- by keys

abbrev pub pair_under : (key : Bytes) → Map → Option Pair
pair_under key map = by_key (bytes_eq key) map

stands_is : (key : Bytes) (a : Map) → stands key a ≡ is_some (pair_under key a)
stands_is key [] = refl
stands_is key (p ∷ a) = elim (cases_Bool (bytes_eq key p.key)) [ inl e ↦ rw e refl | inr e ↦ rw e (stands_is key a) ]

pub joined_stands : (key : Bytes) (a b : Map) → stands key (joined_map a b) ≡ (stands key a || stands key b)
joined_stands key a b =
    stands_is key (joined_map a b) ∙ ap is_some (joined_found (bytes_eq key) a b) ∙ some_else (pair_under key a) (pair_under key b)
    ∙ ap (λ (x : Bool). x || is_some (pair_under key b)) (sym (stands_is key a)) ∙ ap (λ (x : Bool). stands key a || x) (sym (stands_is key b))
