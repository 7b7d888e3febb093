-- The version that the pairs of a global map tell.
use Rattle.std.proofs.Common.{◌≡◌, ℕ, ◌==◌, true, false, [], ◌∷◌, length, Some, None, inl, inr, refl, sym, ap, subst, ◌∙◌}
use Rattle.std.specs.List.{AllByRecursion}
use Rattle.std.specs.Int.{w32, from_le_bytes}
use Rattle.std.proofs.lemmas.Bool.{cases_Bool, eqb-true}
use Rattle.def_script.specs.Bytes.{Bytes}
use Rattle.def_psbt.specs.Map.{Pair, Map, type_of, data_of, map_text}
use Rattle.def_psbt.specs.Fields.{version_number}
use Rattle.def_psbt.specs.Listed.{global_form}
use Rattle.ms_given_laws.proofs.Held.{HasShape, shapes, form_of}
use Rattle.def_psbt.specs.Laws.{IsSoundMap}
use Rattle.ms_psbt.specs.Pairs.{first_pair}
use Rattle.ms_psbt.specs.Scaffolding.Pairs.{IsSpelled}
use Rattle.ms_psbt.proofs.Pairing.{pair_back, no_pair, map_cons, sound_spelled}

-- the pairs that are left tell the version as all do
pub record Leaving (left : Bytes) (global : Map) : Type 0 where
  pub rest : Map
  pub text : left ≡ map_text rest
  pub spelled : AllByRecursion IsSpelled rest
  pub shaped : AllByRecursion (HasShape global_form) rest
  pub same : version_number rest ≡ version_number global

pub leaving_starts : (left : Bytes) (global : Map) → left ≡ map_text global → IsSoundMap global_form [] global → Leaving left global
leaving_starts left global e sound =
    record { rest = global; text = e; spelled = sound_spelled global_form [] global sound; shaped = shapes global_form [] global sound; same = refl }

version_long : (pair : Pair) → HasShape global_form pair → (type_of pair.key == 0xfb) ≡ true → length pair.value ≡ 4
unfolding global_form
version_long pair shape is =
    let form = subst (λ (n : ℕ). (global_form n).value (data_of pair.key) pair.value ≡ None) (eqb-true (type_of pair.key) 0xfb is) (form_of global_form pair shape).1 in
    elim (cases_Bool (length pair.value == 4)) [ inl long ↦ eqb-true (length pair.value) 4 long | inr other ↦ (let bad = rw other at form in absurd cc) ]

-- what a pair says, and what is left behind it
pub record Cell (key value rest : Bytes) (global : Map) : Type 0 where
  pub long : (type_of key == 0xfb) ≡ true → length value ≡ 4
  pub found : (type_of key == 0xfb) ≡ true → from_le_bytes w32 value ≡ version_number global
  pub behind : (type_of key == 0xfb) ≡ false → Leaving rest global

pub cell : (left : Bytes) (global : Map) (key value rest : Bytes) → first_pair left ≡ Some (record { key = key; value = value }, rest) → Leaving left global → Cell key value rest global
cell left global key value rest e h = go h.rest h.text h.spelled h.shaped h.same
  where
    go : (all : Map) → left ≡ map_text all → AllByRecursion IsSpelled all → AllByRecursion (HasShape global_form) all → version_number all ≡ version_number global → Cell key value rest global
    go [] text spelled shaped same = (let none = ap first_pair text ∙ no_pair in absurd cc)
    go (pair ∷ all) text spelled shaped same =
        let read : first_pair left ≡ Some (pair, map_text all) = ap first_pair (text ∙ map_cons pair all) ∙ pair_back pair (map_text all) spelled.0 in
        let both : (pair, map_text all) ≡ (record { key = key; value = value }, rest) = cc in
        subst (λ (p : Pair × Bytes). Cell p.0.key p.0.value p.1 global) both (record {
          long = λ is. version_long pair shaped.0 is;
          found = λ is. rw is at same;
          behind = λ other. record { rest = all; text = refl; spelled = spelled.1; shaped = shaped.1; same = rw other at same };
        })

pub leaving_ends : (left : Bytes) (global : Map) → first_pair left ≡ None → Leaving left global → version_number global ≡ 0
leaving_ends left global e h = go h.rest h.text h.spelled h.same
  where
    go : (all : Map) → left ≡ map_text all → AllByRecursion IsSpelled all → version_number all ≡ version_number global → version_number global ≡ 0
    go [] text spelled same = sym same
    go (pair ∷ all) text spelled same =
        let read : first_pair left ≡ Some (pair, map_text all) = ap first_pair (text ∙ map_cons pair all) ∙ pair_back pair (map_text all) spelled.0 in
        absurd cc
