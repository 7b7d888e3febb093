-- Values of JSON as the definitions see them.
use Rattle.std.proofs.Common.{◌≡◌, ℕ, List, [], ◌∷◌, Option, Some, None, option_map, map, refl, sym, ◌∙◌, ap, inl, inr}
use Rattle.std.specs.Str.{IsUtf8, is_utf8}
use Rattle.std.proofs.lemmas.Bool.{cases_Bool}
use Rattle.std.proofs.lemmas.Str.{IsUtf8-from_is_utf8, is_utf8-from_IsUtf8}
use Rattle.serde_json.specs.Data.{Data}
use Rattle.serde_json.specs.Find.{as_array}
use Rattle.serde_json.specs.Read.{read}
use Rattle.serde_json.specs.View.{view, items_of, items_view}
use Rattle.serde_json.specs.declared.value.Value.{Value}
use Rattle.def_files.specs.Json.{reading, elements_of, elements_or_empty}

pub reading_some : (bytes : List ℕ) (file : Data) → IsUtf8 bytes → read bytes ≡ Some file → reading bytes ≡ Some file
reading_some bytes file utf8 e = rw (is_utf8-from_IsUtf8 bytes utf8) e

pub reading_none : (bytes : List ℕ) → (IsUtf8 bytes → read bytes ≡ None) → reading bytes ≡ None
reading_none bytes none = elim (cases_Bool (is_utf8 bytes)) [ inl e ↦ rw e (none (IsUtf8-from_is_utf8 bytes e)) | inr e ↦ rw e refl ]

elements_of_items : (ds : List Data) → elements_of (items_of ds) ≡ ds
elements_of_items [] = refl
elements_of_items (d ∷ ds) = ap (λ xs. d ∷ xs) (elements_of_items ds)

-- the elements of a member that is a list
pub elements_seen : (found : Option Data) (d : Data) (values : List Value) (seen : List Value) → Some d ≡ found → Some (items_view values) ≡ as_array d → seen
    ≡ values → Some (map view seen) ≡ elements_or_empty found
elements_seen found d values seen is_found is_array same =
    let known : elements_or_empty (Some d) ≡ Some (map view values) = ap (option_map elements_of) (sym is_array) ∙ ap Some (elements_of_items (map view values)) in
    ap (λ vs. Some (map view vs)) same ∙ sym known ∙ ap elements_or_empty is_found
