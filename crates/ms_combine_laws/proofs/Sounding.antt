-- A joined map has nothing wrong where neither has.
use Rattle.std.proofs.Common.{◌≡◌, ℕ, Bool, true, false, is_some, List, [], ◌∷◌, ◌++◌, filter, None, inl, inr, refl, sym, ap, subst, ◌∙◌, append_assoc}
use Rattle.std.specs.List.{AllByRecursion}
use Rattle.std.specs.Str.{bytes_eq}
use Rattle.std.proofs.lemmas.Bool.{cases_Bool, and_parts, and_from, or_parts, or_from, not-true}
use Rattle.std.proofs.lemmas.List.{append-nil}
use Rattle.std.proofs.lemmas.List.Elements.{filter-append}
use Rattle.def_script.specs.Bytes.{Bytes}
use Rattle.def_psbt.specs.Map.{Pair, Map, has_types}
use Rattle.def_psbt.specs.Fields.{has_field}
use Rattle.def_psbt.specs.Listed.{Form, stands, shape_fault, pair_fault}
use Rattle.def_psbt.specs.Laws.{IsSoundPair, IsSoundMap, IsWholeMap}
use Rattle.def_psbt.specs.Reading.{Rules}
use Rattle.def_combine.specs.Joined.{is_new, joined_map, joined_maps}
use Rattle.ms_given_laws.proofs.Held.{fault_none}
use Rattle.ms_given_laws.proofs.Joined.{sound_joins}
use Rattle.ms_combine_laws.proofs.Found.{kept_type}

-- ---- what stands behind another map

stands_behind : (key : Bytes) (a b : Map) → stands key a ≡ false → stands key b ≡ false → stands key (a ++ b) ≡ false
stands_behind key [] b h k = k
stands_behind key (p ∷ a) b h k =
    let parts = or_parts (bytes_eq key p.key) (stands key a) h in
    or_from (bytes_eq key p.key) (stands key (a ++ b)) parts.0 (stands_behind key a b parts.1 k)

stands_kept : (test : Pair → Bool) (key : Bytes) (a : Map) → stands key a ≡ false → stands key (filter test a) ≡ false
stands_kept test key [] h = refl
stands_kept test key (p ∷ a) h =
    let parts = or_parts (bytes_eq key p.key) (stands key a) h in
    let rest = stands_kept test key a parts.1 in
    elim (cases_Bool (test p)) [ inl e ↦ rw e (or_from (bytes_eq key p.key) (stands key (filter test a)) parts.0 rest) | inr e ↦ rw e rest ]

-- ---- the pairs that are added

fault_free : (forms : ℕ → Form) (before : Map) (pair : Pair) → stands pair.key before ≡ false → shape_fault forms pair ≡ None → pair_fault forms before pair ≡ None
unfolding pair_fault
fault_free forms before pair e shape = rw e shape

new_pair : (forms : ℕ → Form) (a before : Map) (q : Pair) → IsSoundPair forms before q → is_new a q ≡ true → IsSoundPair forms (a ++ filter (is_new a) before) q
new_pair forms a before q sound new =
    let fault = fault_none forms before q sound.fault in
    record {
      fault = fault_free forms (a ++ filter (is_new a) before) q
          (stands_behind q.key a (filter (is_new a) before) (not-true (stands q.key a) new) (stands_kept (is_new a) q.key before fault.0)) fault.1;
      key = sound.key;
      value = sound.value;
    }

one_more : (a before : Map) (q : Pair) → is_new a q ≡ true → a ++ filter (is_new a) (before ++ q ∷ []) ≡ (a ++ filter (is_new a) before) ++ q ∷ []
one_more a before q new =
    let one : filter (is_new a) (q ∷ []) ≡ q ∷ [] = rw new refl in
    ap (λ (l : Map). a ++ l) (filter-append (is_new a) before (q ∷ []) ∙ ap (λ (l : Map). filter (is_new a) before ++ l) one)
    ∙ sym (append_assoc a (filter (is_new a) before) (q ∷ []))

none_more : (a before : Map) (q : Pair) → is_new a q ≡ false → a ++ filter (is_new a) (before ++ q ∷ []) ≡ a ++ filter (is_new a) before
none_more a before q old =
    let one : filter (is_new a) (q ∷ []) ≡ [] = rw old refl in
    ap (λ (l : Map). a ++ l) (filter-append (is_new a) before (q ∷ []) ∙ ap (λ (l : Map). filter (is_new a) before ++ l) one ∙ append-nil (filter (is_new a) before))

sound_new : (forms : ℕ → Form) (a before b : Map) → IsSoundMap forms before b → IsSoundMap forms (a ++ filter (is_new a) before) (filter (is_new a) b)
sound_new forms a before [] h = tt
sound_new forms a before (q ∷ b) h =
    let rest = sound_new forms a (before ++ q ∷ []) b h.1 in
    elim (cases_Bool (is_new a q)) [
      | inl new ↦ rw new (new_pair forms a before q h.0 new, subst (λ (l : Map). IsSoundMap forms l (filter (is_new a) b)) (one_more a before q new) rest)
      | inr old ↦ rw old (subst (λ (l : Map). IsSoundMap forms l (filter (is_new a) b)) (none_more a before q old) rest)
    ]

pub sound_joined : (forms : ℕ → Form) (a b : Map) → IsSoundMap forms [] a → IsSoundMap forms [] b → IsSoundMap forms [] (joined_map a b)
sound_joined forms a b sound_a sound_b =
    sound_joins forms [] a (filter (is_new a) b) sound_a
    (subst (λ (l : Map). IsSoundMap forms l (filter (is_new a) b)) (append-nil a) (sound_new forms a [] b sound_b))

-- ---- whole maps

pub kept_types : (types : List ℕ) (a b : Map) → has_types types a ≡ true → has_types types (joined_map a b) ≡ true
kept_types [] a b h = refl
kept_types (type ∷ types) a b h =
    let parts = and_parts (has_field type a) (has_types types a) h in
    and_from (has_field type (joined_map a b)) (has_types types (joined_map a b)) (ap is_some (kept_type type a b parts.0) ∙ parts.0) (kept_types types a b parts.1)

pub whole_joined : (rules : Rules) (a b : Map) → IsWholeMap rules a → IsWholeMap rules b → IsWholeMap rules (joined_map a b)
whole_joined rules a b whole_a whole_b = record {
  sound = sound_joined rules.forms a b whole_a.sound whole_b.sound;
  needed = kept_types rules.needed a b whole_a.needed;
}

pub all_whole_joined : (rules : Rules) (xs ys : List Map) → AllByRecursion (IsWholeMap rules) xs → AllByRecursion (IsWholeMap rules) ys
    → AllByRecursion (IsWholeMap rules) (joined_maps xs ys)
all_whole_joined rules [] ys h k = tt
all_whole_joined rules (a ∷ xs) [] h k = h
all_whole_joined rules (a ∷ xs) (b ∷ ys) h k = (whole_joined rules a b h.0 k.0, all_whole_joined rules xs ys h.1 k.1)
