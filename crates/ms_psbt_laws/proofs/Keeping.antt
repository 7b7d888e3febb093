-- What finalizing keeps of the fields of version 2: the types 0e to 12, and so the transaction.
use Rattle.std.proofs.Common.{◌≡◌, ℕ, ◌+◌, ◌==◌, ◌&&◌, ◌||◌, not, Bool, true, false, cond, is_some, List, [], ◌∷◌, ◌++◌, length, map, filter, Option, Some, None, option_map, inl, inr, refl, sym, ap, subst, ◌∙◌, arith}
use Rattle.std.specs.List.{list_any}
use Rattle.std.specs.Prelude.{⊤, unwrap_or}
use Rattle.std.specs.Str.{bytes_eq}
use Rattle.std.proofs.lemmas.Bool.{cases_Bool, eqb-true}
use Rattle.def_script.specs.Bytes.{Bytes}
use Rattle.def_script.specs.Sizes.{read_size}
use Rattle.def_psbt.specs.declared.PsbtVersion.{PsbtVersion}
use Rattle.def_psbt.specs.declared.PsbtVersion.TheVariants as version
use Rattle.def_psbt.specs.declared.PsbtFault.TheVariants.{RepeatedOutpoint, LockTime}
use Rattle.def_psbt.specs.Map.{Pair, Map, type_of, pair_of_type, value_of_type, has_types, map_text}
use Rattle.def_psbt.specs.Fields.{number_or, has_time_alone, has_height_alone, has_lock, greatest, lock_time_of, outpoint_in, input_of, transaction_of_fields}
use Rattle.def_psbt.specs.Reading.{needed_input, Outline, given, counted, transaction_by, at_place, or_else, repeated_at, unserved_at, unjoined}
use Rattle.def_psbt.specs.Transaction.{TransactionInput}
use Rattle.def_spend.specs.Finalized.{is_cleared, is_kept, final_pairs, final_map, script_sig_of, witness_of, written_map}
use Rattle.def_spend.specs.Reading.{Input}
use Rattle.def_spend.specs.States.{state_of, is_ready}

-- ---- the pair of a type that is kept

kept_pair : (type : ℕ) → not (is_cleared type) ≡ true → (behind : Map) → pair_of_type type behind ≡ None → (fields : Map)
    → pair_of_type type (filter is_kept fields ++ behind) ≡ pair_of_type type fields
kept_pair type stays behind none [] = none
kept_pair type stays behind none (pair ∷ fields) =
    let rest = kept_pair type stays behind none fields in
    elim (cases_Bool (type_of pair.key == type)) [
      | inl is ↦
          let kept : is_kept pair ≡ true = ap (λ (n : ℕ). not (is_cleared n)) (eqb-true (type_of pair.key) type is) ∙ stays in
          rw (kept, is) refl
      | inr other ↦ elim (cases_Bool (is_kept pair)) [ inl kept ↦ rw (kept, other) rest | inr cleared ↦ rw (cleared, other) rest ]
    ]

not_final : (type : ℕ) (script_sig witness : Bytes) → (0x07 == type) ≡ false → (0x08 == type) ≡ false → pair_of_type type (final_pairs script_sig witness) ≡ None
unfolding read_size
not_final type [] witness sig other = rw other refl
not_final type (byte ∷ bytes) witness sig other = rw (sig, other) refl

-- fields of the same transaction
pub record AreSame (fields written : Map) : Type 0 where
  pub id : pair_of_type 0x0e written ≡ pair_of_type 0x0e fields
  pub index : pair_of_type 0x0f written ≡ pair_of_type 0x0f fields
  pub sequence : pair_of_type 0x10 written ≡ pair_of_type 0x10 fields
  pub time : pair_of_type 0x11 written ≡ pair_of_type 0x11 fields
  pub height : pair_of_type 0x12 written ≡ pair_of_type 0x12 fields

final_same : (fields : Map) (script_sig witness : Bytes) → AreSame fields (final_map fields script_sig witness)
final_same fields script_sig witness = record {
  id = kept_pair 0x0e refl (final_pairs script_sig witness) (not_final 0x0e script_sig witness refl refl) fields;
  index = kept_pair 0x0f refl (final_pairs script_sig witness) (not_final 0x0f script_sig witness refl refl) fields;
  sequence = kept_pair 0x10 refl (final_pairs script_sig witness) (not_final 0x10 script_sig witness refl refl) fields;
  time = kept_pair 0x11 refl (final_pairs script_sig witness) (not_final 0x11 script_sig witness refl refl) fields;
  height = kept_pair 0x12 refl (final_pairs script_sig witness) (not_final 0x12 script_sig witness refl refl) fields;
}

pub written_same : (input : Input) → AreSame input.spend.fields (written_map input)
written_same input = elim (cases_Bool (is_ready (state_of input))) [
  | inl e ↦ rw e (final_same input.spend.fields (script_sig_of input.spend) (witness_of input))
  | inr e ↦ rw e (record { id = refl; index = refl; sequence = refl; time = refl; height = refl })
]

-- ---- what is made of them

pub same_needed : (version : PsbtVersion) (fields written : Map) → AreSame fields written → has_types (needed_input version) written ≡ has_types (needed_input version) fields
same_needed version.Zero fields written same = refl
same_needed version.Two fields written same =
    ap (λ (o : Option Pair). is_some o && (is_some (pair_of_type 0x0f written) && true)) same.id ∙ ap (λ (o : Option Pair). is_some (pair_of_type 0x0e fields) && (is_some o && true)) same.index

abbrev value_from : Option Pair → Option Bytes
value_from o = option_map (λ (pair : Pair). pair.value) o

same_value : (type : ℕ) (fields written : Map) → pair_of_type type written ≡ pair_of_type type fields → value_of_type type written ≡ value_of_type type fields
same_value type fields written same = ap value_from same

same_outpoint : (fields written : Map) → AreSame fields written → outpoint_in written ≡ outpoint_in fields
same_outpoint fields written same =
    ap (λ (o : Option Bytes). unwrap_or o [] ++ unwrap_or (value_of_type 0x0f written) []) (same_value 0x0e fields written same.id)
    ∙ ap (λ (o : Option Bytes). unwrap_or (value_of_type 0x0e fields) [] ++ unwrap_or o []) (same_value 0x0f fields written same.index)

abbrev input_by : (id index sequence : Option Bytes) → TransactionInput
input_by id index sequence = record {
  outpoint = record { id = unwrap_or id []; index = number_or 0 (Some (unwrap_or index [])) };
  script_sig = [];
  sequence = number_or 0xffffffff sequence;
}

same_input : (fields written : Map) → AreSame fields written → input_of written ≡ input_of fields
same_input fields written same =
    ap (λ (o : Option Bytes). input_by o (value_of_type 0x0f written) (value_of_type 0x10 written)) (same_value 0x0e fields written same.id)
    ∙ ap (λ (o : Option Bytes). input_by (value_of_type 0x0e fields) o (value_of_type 0x10 written)) (same_value 0x0f fields written same.index)
    ∙ ap (λ (o : Option Bytes). input_by (value_of_type 0x0e fields) (value_of_type 0x0f fields) o) (same_value 0x10 fields written same.sequence)

same_time : (fields written : Map) → AreSame fields written → has_time_alone written ≡ has_time_alone fields
same_time fields written same =
    ap (λ (o : Option Pair). is_some o && not (is_some (pair_of_type 0x12 written))) same.time ∙ ap (λ (o : Option Pair). is_some (pair_of_type 0x11 fields) && not (is_some o)) same.height

same_height : (fields written : Map) → AreSame fields written → has_height_alone written ≡ has_height_alone fields
same_height fields written same =
    ap (λ (o : Option Pair). is_some o && not (is_some (pair_of_type 0x11 written))) same.height ∙ ap (λ (o : Option Pair). is_some (pair_of_type 0x12 fields) && not (is_some o)) same.time

same_lock : (fields written : Map) → AreSame fields written → has_lock written ≡ has_lock fields
same_lock fields written same =
    ap (λ (o : Option Pair). is_some o || is_some (pair_of_type 0x12 written)) same.time ∙ ap (λ (o : Option Pair). is_some (pair_of_type 0x11 fields) || is_some o) same.height

-- ---- all inputs

abbrev pub AllSame : (maps written : List Map) → Type 0
AllSame [] [] = ⊤
AllSame [] (other ∷ written) = ⊥
AllSame (fields ∷ maps) [] = ⊥
AllSame (fields ∷ maps) (other ∷ written) = AreSame fields other × AllSame maps written

pub all_written : (inputs : List Input) → AllSame (map (λ (input : Input). input.spend.fields) inputs) (map written_map inputs)
all_written [] = tt
all_written (input ∷ inputs) = (written_same input, all_written inputs)

same_each : {A : Type 0} (make : Map → A) → ((fields written : Map) → AreSame fields written → make written ≡ make fields) → (maps written : List Map)
    → AllSame maps written → map make written ≡ map make maps
same_each make one [] [] same = refl
same_each make one [] (other ∷ written) same = absurd same
same_each make one (fields ∷ maps) [] same = absurd same
same_each {A} make one (fields ∷ maps) (other ∷ written) same =
    ap (λ (x : A). x ∷ map make written) (one fields other same.0) ∙ ap (λ (xs : List A). make fields ∷ xs) (same_each make one maps written same.1)

same_any : (test : Map → Bool) → ((fields written : Map) → AreSame fields written → test written ≡ test fields) → (maps written : List Map)
    → AllSame maps written → list_any test written ≡ list_any test maps
same_any test one [] [] same = refl
same_any test one [] (other ∷ written) same = absurd same
same_any test one (fields ∷ maps) [] same = absurd same
same_any test one (fields ∷ maps) (other ∷ written) same =
    ap (λ (b : Bool). b || list_any test written) (one fields other same.0) ∙ ap (λ (b : Bool). test fields || b) (same_any test one maps written same.1)

-- ---- nothing is wrong with them together

repeated_same : (before : List Bytes) (a b : ℕ) (maps written : List Map) → AllSame maps written → repeated_at before a maps ≡ None → repeated_at before b written ≡ None
repeated_same before a b [] [] same e = refl
repeated_same before a b [] (other ∷ written) same e = absurd same
repeated_same before a b (fields ∷ maps) [] same e = absurd same
repeated_same before a b (fields ∷ maps) (other ∷ written) same e =
    subst (λ (t : Bytes). cond (list_any (bytes_eq t) before) (Some b) (repeated_at (before ++ t ∷ []) (b + length (map_text other)) written) ≡ None) (sym (same_outpoint fields other same.0))
    (go a b (list_any (bytes_eq (outpoint_in fields)) before) (repeated_at (before ++ outpoint_in fields ∷ []) (a + length (map_text fields)) maps)
    (repeated_at (before ++ outpoint_in fields ∷ []) (b + length (map_text other)) written)
    (repeated_same (before ++ outpoint_in fields ∷ []) (a + length (map_text fields)) (b + length (map_text other)) maps written same.1) e)
  where
    go : (a b : ℕ) (twice : Bool) (o p : Option ℕ) → (o ≡ None → p ≡ None) → cond twice (Some a) o ≡ None → cond twice (Some b) p ≡ None
    go a b true o p h e = absurd cc
    go a b false o p h e = h e

unserved_same : (time height : Bool) (a b : ℕ) (maps written : List Map) → AllSame maps written → unserved_at time height a maps ≡ None → unserved_at time height b written ≡ None
unserved_same time height a b [] [] same e = refl
unserved_same time height a b [] (other ∷ written) same e = absurd same
unserved_same time height a b (fields ∷ maps) [] same e = absurd same
unserved_same time height a b (fields ∷ maps) (other ∷ written) same e =
    subst (λ (t : Bool). cond ((time || t) && (height || has_height_alone other)) (Some b) (unserved_at (time || t) (height || has_height_alone other) (b + length (map_text other)) written) ≡ None)
    (sym (same_time fields other same.0))
    (subst (λ (h : Bool). cond ((time || has_time_alone fields) && (height || h)) (Some b) (unserved_at (time || has_time_alone fields) (height || h) (b + length (map_text other)) written) ≡ None)
    (sym (same_height fields other same.0))
    (go a b ((time || has_time_alone fields) && (height || has_height_alone fields))
    (unserved_at (time || has_time_alone fields) (height || has_height_alone fields) (a + length (map_text fields)) maps)
    (unserved_at (time || has_time_alone fields) (height || has_height_alone fields) (b + length (map_text other)) written)
    (unserved_same (time || has_time_alone fields) (height || has_height_alone fields) (a + length (map_text fields)) (b + length (map_text other)) maps written same.1) e))
  where
    go : (a b : ℕ) (both : Bool) (o p : Option ℕ) → (o ≡ None → p ≡ None) → cond both (Some a) o ≡ None → cond both (Some b) p ≡ None
    go a b true o p h e = absurd cc
    go a b false o p h e = h e

pub unjoined_same : (version : PsbtVersion) (a b : ℕ) (maps written : List Map) → AllSame maps written → unjoined version a maps ≡ None → unjoined version b written ≡ None
unjoined_same version.Zero a b maps written same e = refl
unjoined_same version.Two a b maps written same e = go (repeated_at [] a maps) (unserved_at false false a maps) (repeated_at [] b written) (unserved_at false false b written)
    (repeated_same [] a b maps written same) (unserved_same false false a b maps written same) e
  where
    go : (o p q r : Option ℕ) → (o ≡ None → q ≡ None) → (p ≡ None → r ≡ None) → or_else (at_place RepeatedOutpoint o) (at_place LockTime p) ≡ None
        → or_else (at_place RepeatedOutpoint q) (at_place LockTime r) ≡ None
    go None None q r h k e = rw (h refl, k refl) refl
    go None (Some p) q r h k e = absurd cc
    go (Some o) p q r h k e = absurd cc

-- ---- the transaction

greatest_same : (type : ℕ) → ((fields written : Map) → AreSame fields written → value_of_type type written ≡ value_of_type type fields) → (maps written : List Map) → AllSame maps written
    → greatest type written ≡ greatest type maps
greatest_same type one [] [] same = refl
greatest_same type one [] (other ∷ written) same = absurd same
greatest_same type one (fields ∷ maps) [] same = absurd same
greatest_same type one (fields ∷ maps) (other ∷ written) same =
    let own = ap (number_or 0) (one fields other same.0) in
    let rest = greatest_same type one maps written same.1 in
    omega (arith, own, rest)

lock_time_same : (fallback : ℕ) (maps written : List Map) → AllSame maps written → lock_time_of fallback written ≡ lock_time_of fallback maps
lock_time_same fallback maps written same =
    let any = same_any has_lock same_lock maps written same in
    let alone = same_any has_time_alone same_time maps written same in
    let times = greatest_same 0x11 (λ fields other s. same_value 0x11 fields other s.time) maps written same in
    let heights = greatest_same 0x12 (λ fields other s. same_value 0x12 fields other s.height) maps written same in
    rw (any, alone) (go (list_any has_lock maps) (list_any has_time_alone maps) times heights)
  where
    go : (a b : Bool) → greatest 0x11 written ≡ greatest 0x11 maps → greatest 0x12 written ≡ greatest 0x12 maps
        → cond a (greatest (cond b 0x11 0x12) written) fallback ≡ cond a (greatest (cond b 0x11 0x12) maps) fallback
    go true true t h = t
    go true false t h = h
    go false b t h = refl

pub transaction_same : (outline : Outline) (global : Map) (maps written outputs : List Map) → AllSame maps written
    → transaction_by outline global written outputs ≡ transaction_by outline global maps outputs
transaction_same (given transaction) global maps written outputs same = refl
transaction_same (counted inputs outs) global maps written outputs same =
    ap (λ (ins : List TransactionInput). record (transaction_of_fields global written outputs) { inputs = ins }) (same_each input_of same_input maps written same)
    ∙ ap (λ (n : ℕ). record (transaction_of_fields global maps outputs) { lock_time = n }) (lock_time_same (number_or 0 (value_of_type 0x03 global)) maps written same)
