-- What is put together, where it keeps the lock time, has nothing wrong.
use Rattle.std.proofs.Common.{◌≡◌, ℕ, ◌+◌, ◌<◌, ◌≤◌, ◌&&◌, true, false, List, [], length, map, All, Some, None, option_map, inl, inr, refl, sym, ap, subst, ◌∙◌, arith}
use Rattle.std.specs.List.{list_any}
use Rattle.std.specs.Int.{w32, from_le_bytes}
use Rattle.std.proofs.lemmas.Bool.{cases_Bool, eqb-true}
use Rattle.std.proofs.lemmas.List.Elements.{All-from_recursion}
use Rattle.def_psbt.specs.declared.PsbtVersion.{PsbtVersion}
use Rattle.def_psbt.specs.declared.PsbtVersion.TheVariants as version
use Rattle.def_psbt.specs.declared.PsbtFault.TheVariants.{Excluded}
use Rattle.def_psbt.specs.Transaction.{TransactionInput, TransactionOutput, Transaction}
use Rattle.def_psbt.specs.Map.{Psbt, value_of_type, map_text}
use Rattle.def_psbt.specs.Fields.{number_or, value_in, size_in, version_of, has_time_alone, has_height_alone, input_of, output_of}
use Rattle.def_psbt.specs.Forms.{LOCKTIME_THRESHOLD}
use Rattle.def_psbt.specs.Laws.{IsWholeMap, IsSound}
use Rattle.def_psbt.specs.Reading.{input_rules, output_rules, at_place, misplaced, Outline, given, counted, outline_in, input_count, output_count, transaction_by, repeated_at, unserved_at, unjoined}
use Rattle.def_combine.specs.Joined.{lock_time_in, keeps_lock_time}
use Rattle.ms_given_laws.specs.Given.{IsTransaction, IsMapOfBytes, IsWhole}
use Rattle.ms_given_laws.proofs.Later.{IsPairOfBytes}
use Rattle.ms_combine_laws.proofs.Locking.{late_lock, served}
use Rattle.ms_combine_laws.proofs.Common.{no_place, IsCommon}

-- what the global map says, and that the maps of inputs go together
record Outlined (v : PsbtVersion) (psbt : Psbt) : Type 0 where
  allowed : misplaced v psbt.global ≡ None
  outline : Outline
  said : outline_in v psbt.global ≡ Some outline
  each_input : length psbt.inputs ≡ input_count outline
  each_output : length psbt.outputs ≡ output_count outline
  transaction : psbt.transaction ≡ transaction_by outline psbt.global psbt.inputs psbt.outputs
  joined : unjoined v (5 + length (map_text psbt.global)) psbt.inputs ≡ None

outlined_zero : (n : ℕ) (t : Transaction) (psbt : Psbt) → IsCommon n version.Zero t psbt → Outlined version.Zero psbt
outlined_zero n t psbt h = record {
  allowed = ap (at_place Excluded) (no_place 0x02 0x06 5 psbt.global h.own.earlier);
  outline = given t;
  said = ap (option_map given) h.own.given;
  each_input = h.each_input;
  each_output = h.each_output;
  transaction = h.transaction;
  joined = refl;
}

abbrev by_fields : (version : ℕ) → List TransactionInput → List TransactionOutput → (lock_time : ℕ) → Transaction
by_fields version inputs outputs lock_time = record { version = version; inputs = inputs; outputs = outputs; lock_time = lock_time }

-- of a time alone and a height alone the lock time can't be both
not_both : (n : ℕ) (t : Transaction) (psbt : Psbt) → IsCommon n version.Two t psbt → lock_time_in version.Two psbt ≡ t.lock_time
    → (list_any has_time_alone psbt.inputs && list_any has_height_alone psbt.inputs) ≡ false
not_both n t psbt h e = elim (cases_Bool (list_any has_time_alone psbt.inputs)) [
  | inr none ↦ rw none refl
  | inl time ↦ elim (cases_Bool (list_any has_height_alone psbt.inputs)) [
    | inr none ↦ rw (time, none) refl
    | inl height ↦
        let late : LOCKTIME_THRESHOLD ≤ lock_time_in version.Two psbt = late_lock (number_or 0 (value_of_type 0x03 psbt.global)) psbt.inputs h.inputs time in
        let low : t.lock_time < LOCKTIME_THRESHOLD = h.own.low height in
        absurd (omega (arith, e, late, low))
  ]
]

outlined_two : (n : ℕ) (t : Transaction) (psbt : Psbt) → IsCommon n version.Two t psbt → lock_time_in version.Two psbt ≡ t.lock_time → Outlined version.Two psbt
outlined_two n t psbt h e =
    let own = h.own in
    let at : ℕ = 5 + length (map_text psbt.global) in
    let once : repeated_at [] (5 + length (map_text psbt.global)) psbt.inputs ≡ None = own.once at in
    let not_given = own.not_given in
    let needed = own.needed in
    let both : unserved_at false false (5 + length (map_text psbt.global)) psbt.inputs ≡ None = served false false at psbt.inputs refl (not_both n t psbt h e) in
    record {
      allowed = rw not_given refl;
      outline = counted (size_in 0x04 psbt.global) (size_in 0x05 psbt.global);
      said = rw needed refl;
      each_input = h.each_input ∙ sym own.each_input;
      each_output = h.each_output ∙ sym own.each_output;
      transaction = h.transaction
          ∙ ap (λ (x : ℕ). by_fields x t.inputs t.outputs t.lock_time) (sym own.version)
          ∙ ap (λ (x : List TransactionInput). by_fields (from_le_bytes w32 (value_in 0x02 psbt.global)) x t.outputs t.lock_time) (sym own.inputs)
          ∙ ap (λ (x : List TransactionOutput). by_fields (from_le_bytes w32 (value_in 0x02 psbt.global)) (map input_of psbt.inputs) x t.lock_time) (sym own.outputs)
          ∙ ap (λ (x : ℕ). by_fields (from_le_bytes w32 (value_in 0x02 psbt.global)) (map input_of psbt.inputs) (map output_of psbt.outputs) x) (sym e);
      joined = rw (once, both) refl;
    }

outlined : (n : ℕ) (v : PsbtVersion) (t : Transaction) (psbt : Psbt) → IsCommon n v t psbt → lock_time_in v psbt ≡ t.lock_time → Outlined v psbt
outlined n version.Zero t psbt h e = outlined_zero n t psbt h
outlined n version.Two t psbt h e = outlined_two n t psbt h e

sound_of : (n : ℕ) (v : PsbtVersion) (t : Transaction) (psbt : Psbt) → IsCommon n v t psbt → Outlined v psbt → IsSound psbt
sound_of n v t psbt h o =
    let back = sym h.version in
    record {
      global = h.global;
      allowed = subst (λ (w : PsbtVersion). misplaced w psbt.global ≡ None) back o.allowed;
      outline = o.outline;
      said = subst (λ (w : PsbtVersion). outline_in w psbt.global ≡ Some o.outline) back o.said;
      inputs = subst (λ (w : PsbtVersion). All (IsWholeMap (input_rules w)) psbt.inputs) back (All-from_recursion (IsWholeMap (input_rules v)) psbt.inputs h.inputs);
      outputs = subst (λ (w : PsbtVersion). All (IsWholeMap (output_rules w)) psbt.outputs) back (All-from_recursion (IsWholeMap (output_rules v)) psbt.outputs h.outputs);
      each_input = o.each_input;
      each_output = o.each_output;
      transaction = o.transaction;
      joined = subst (λ (w : PsbtVersion). unjoined w (5 + length (map_text psbt.global)) psbt.inputs ≡ None) back o.joined;
    }

pub whole_common : (n : ℕ) (v : PsbtVersion) (t : Transaction) (psbt : Psbt) → IsTransaction t → IsCommon n v t psbt → keeps_lock_time psbt ≡ true → IsWhole psbt
whole_common n v t psbt transaction h keeps =
    let lock : lock_time_in v psbt ≡ t.lock_time =
    subst (λ (w : PsbtVersion). lock_time_in w psbt ≡ t.lock_time) h.version
    (eqb-true (lock_time_in (version_of psbt.global) psbt) psbt.transaction.lock_time keeps ∙ ap (λ (x : Transaction). x.lock_time) h.transaction) in
    record {
      sound = sound_of n v t psbt h (outlined n v t psbt h lock);
      transaction = subst IsTransaction (sym h.transaction) transaction;
      global = All-from_recursion IsPairOfBytes psbt.global h.global_bytes;
      inputs = All-from_recursion IsMapOfBytes psbt.inputs h.input_bytes;
      outputs = All-from_recursion IsMapOfBytes psbt.outputs h.output_bytes;
    }
