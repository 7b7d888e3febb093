-- What a plan is made by, of entries that aren't refused.
use Rattle.std.proofs.Common.{◌≡◌, ℕ, ◌≤◌, nat_le, true, [], ◌∷◌, length, map, All, Option, Some, None, refl, ◌∙◌}
use Rattle.std.specs.List.{list_all, IsDistinct}
use Rattle.std.specs.Str.{bytes_eq}
use Rattle.std.proofs.lemmas.Bool.{leb-true, and_parts}
use Rattle.std.proofs.lemmas.List.Sums.{AllPass-from_list_all}
use Rattle.def_script.specs.Bytes.{Bytes}
use Rattle.def_script.specs.Key.{is_key}
use Rattle.def_script.specs.Signature.{MAX_SIGNATURE_SIZE, is_signature_size}
use Rattle.def_tree.specs.Range.{IsKey}
use Rattle.def_files.proofs.Passing.{each_held}
use Rattle.def_files.proofs.Distinct.{distinct_keys}
use Rattle.def_plan.specs.declared.PlanFault.TheVariants as fault
use Rattle.def_plan.specs.Lengths.{Lengths, AreLengths, MOST_KEYS}
use Rattle.ms_assets.specs.Parts.{first, first_refused, repeated}
use Rattle.ms_assets.proofs.Refusals.{each_first}
use Rattle.ms_arrays.specs.ArrayPlan.{entry_refusals}

-- none of three refusals applies
none_of_three : {E : Type 0} (r s t : Option E) → first (r ∷ s ∷ t ∷ []) ≡ None → (s ≡ None) × (t ≡ None)
none_of_three None None None none = (refl, refl)
none_of_three None None (Some t) none = absurd (let no = none in cc)
none_of_three None (Some s) t none = absurd (let no = none in cc)
none_of_three (Some r) s t none = absurd (let no = none in cc)

-- each length is one of a signature
sizes : (P : ℕ → Type 0) (table : Lengths) → ((n : ℕ) → is_signature_size n ≡ true → P n)
    → list_all (λ (entry : Bytes × ℕ). is_signature_size entry.1) table ≡ true → All (λ entry. P entry.1) table
sizes P table fits e k d h = fits _ (AllPass-from_list_all (λ (entry : Bytes × ℕ). is_signature_size entry.1) table e k d h)

distinct : (table : Lengths) → repeated fault.RepeatedKey table ≡ None → IsDistinct bytes_eq (map (λ entry. entry.0) table)
unfolding repeated
distinct table e = distinct_keys fault.RepeatedKey (map (λ (entry : Bytes × ℕ). entry.0) table) e

pub are_lengths : (table : Lengths) → length table ≤ MOST_KEYS → first (entry_refusals table) ≡ None → All (λ entry. IsKey entry.0) table → AreLengths table
are_lengths table few passed keys =
    let none = none_of_three (first_refused (λ (entry : Bytes × ℕ). is_key entry.0) fault.KeyForm table) _ _ passed in
    let all =
    each_held (λ (entry : Bytes × ℕ). is_signature_size entry.1) fault.Length table
    (each_first (λ (entry : Bytes × ℕ). is_signature_size entry.1) fault.Length table ∙ none.0) in
    record {
      few = few;
      keys = keys;
      distinct = distinct table none.1;
      some = sizes (λ n. 1 ≤ n) table (λ n q. leb-true 1 n (and_parts (nat_le 1 n) (nat_le n MAX_SIGNATURE_SIZE) q).0) all;
      short = sizes (λ n. n ≤ MAX_SIGNATURE_SIZE) table (λ n q. leb-true n MAX_SIGNATURE_SIZE (and_parts (nat_le 1 n) (nat_le n MAX_SIGNATURE_SIZE) q).1) all;
    }
