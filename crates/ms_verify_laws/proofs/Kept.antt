-- What the final map keeps: the spent output.
use Rattle.std.proofs.Common.{◌≡◌, ℕ, ◌==◌, not, true, false, [], ◌∷◌, ◌++◌, filter, find, inl, inr, Option, None, refl, ap, ◌∙◌}
use Rattle.std.specs.Option.{option_map, option_and_then}
use Rattle.std.proofs.lemmas.Bool.{cases_Bool, eqb-true}
use Rattle.def_script.specs.Bytes.{Bytes}
use Rattle.def_script.specs.Sizes.{read_size}
use Rattle.def_psbt.specs.Transaction.{Outpoint}
use Rattle.def_psbt.specs.TransactionReading.{network_transaction_of}
use Rattle.def_psbt.specs.Forms.{output_of}
use Rattle.def_psbt.specs.Map.{Pair, Map, type_of}
use Rattle.def_psbt.specs.Types.{IN_NON_WITNESS_UTXO, IN_WITNESS_UTXO}
use Rattle.def_spend.specs.Fields.{has_type, field}
use Rattle.def_spend.specs.Utxo.{Utxo, utxo_by, utxo_of}
use Rattle.def_spend.specs.Finalized.{is_cleared, is_kept, final_pairs, final_map}

found_kept : (type : ℕ) → not (is_cleared type) ≡ true → (behind : Map) → find (has_type type) behind ≡ None → (fields : Map)
    → find (has_type type) (filter is_kept fields ++ behind) ≡ find (has_type type) fields
found_kept type stays behind none [] = none
found_kept type stays behind none (pair ∷ fields) =
    let rest = found_kept type stays behind none fields in
    elim (cases_Bool (type_of pair.key == type)) [
      | inl is ↦
          let kept : is_kept pair ≡ true = ap (λ (n : ℕ). not (is_cleared n)) (eqb-true (type_of pair.key) type is) ∙ stays in
          rw (kept, is) refl
      | inr other ↦ elim (cases_Bool (is_kept pair)) [ inl kept ↦ rw (kept, other) rest | inr cleared ↦ rw (cleared, other) rest ]
    ]

not_final : (type : ℕ) (script_sig witness : Bytes) → (0x07 == type) ≡ false → (0x08 == type) ≡ false → find (has_type type) (final_pairs script_sig witness) ≡ None
unfolding read_size
not_final type [] witness sig other = rw other refl
not_final type (byte ∷ bytes) witness sig other = rw (sig, other) refl

abbrev value_in : Option Pair → Option Bytes
value_in o = option_map (λ (pair : Pair). pair.value) o

pub kept_field : (type : ℕ) → not (is_cleared type) ≡ true → (0x07 == type) ≡ false → (0x08 == type) ≡ false → (fields : Map) (script_sig witness : Bytes)
    → field type (final_map fields script_sig witness) ≡ field type fields
kept_field type stays sig other fields script_sig witness =
    ap value_in (found_kept type stays (final_pairs script_sig witness) (not_final type script_sig witness sig other) fields)

abbrev utxo_with : Outpoint → (previous output : Option Bytes) → Utxo
utxo_with outpoint previous output = utxo_by (option_and_then network_transaction_of previous) (option_and_then output_of output) outpoint

-- the spent output stays
pub kept_utxo : (outpoint : Outpoint) (fields : Map) (script_sig witness : Bytes) → utxo_of outpoint (final_map fields script_sig witness) ≡ utxo_of outpoint fields
kept_utxo outpoint fields script_sig witness =
    ap (λ (o : Option Bytes). utxo_with outpoint o (field IN_WITNESS_UTXO (final_map fields script_sig witness))) (kept_field IN_NON_WITNESS_UTXO refl refl refl fields script_sig witness)
    ∙ ap (λ (o : Option Bytes). utxo_with outpoint (field IN_NON_WITNESS_UTXO fields) o) (kept_field IN_WITNESS_UTXO refl refl refl fields script_sig witness)
