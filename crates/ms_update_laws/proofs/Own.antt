-- What belongs to a map: pairs that have their forms, of which no key stands twice.
use Rattle.std.proofs.Common.{◌≡◌, ℕ, ◌+◌, ◌*◌, ◌%◌, ◌^◌, ◌<◌, ◌≤◌, ◌==◌, nat_le, true, false, List, [], ◌∷◌, ◌++◌, length, length-append, map, Option, Some, None, inl, inr, refl, arith}
use Rattle.std.specs.Prelude.{⊤, IfSome}
use Rattle.std.specs.Int.{w32, to_le_bytes}
use Rattle.std.specs.List.{AllByRecursion, IsDistinct, flat_map}
use Rattle.std.specs.Option.{option_and_then}
use Rattle.std.specs.Str.{bytes_eq}
use Rattle.std.proofs.lemmas.Bool.{and_from, and_left, and_right, le-leb, eq-eqb, cases_Bool}
use Rattle.std.proofs.lemmas.List.Elements.{recursion_from_All}
use Rattle.def_script.specs.Bytes.{Bytes}
use Rattle.def_script.specs.Key.{is_key}
use Rattle.def_script.specs.Sizes.{read_size}
use Rattle.def_tree.specs.Tree.{Key}
use Rattle.def_descriptor.specs.Expression.{Origin}
use Rattle.def_psbt.specs.declared.PsbtVersion.{PsbtVersion}
use Rattle.def_psbt.specs.Map.{Pair, Map, type_of}
use Rattle.def_psbt.specs.Forms.{is_derivation}
use Rattle.def_psbt.specs.Listed.{Form, input_form, output_form, shape_fault}
use Rattle.def_psbt.specs.Transaction.{TransactionInput, TransactionOutput}
use Rattle.def_spend.specs.Utxo.{utxo_of}
use Rattle.def_spend.specs.Reading.{has_final}
use Rattle.def_update.specs.Known.{Known, Types, INPUT, OUTPUT, typed, script_pairs, derivation, derivation_pair, belonging, pairs_by, known_by}
use Rattle.def_update.specs.Updated.{spent_script, known_of_output, each_input, input_pairs}
use Rattle.ms_update_laws.specs.Updated.{IsKnownKey, same_key, IsKnown}

-- ---- pairs of some types, between two numbers

-- a pair that has its form
pub record IsShaped (forms : ℕ → Form) (low high : ℕ) (pair : Pair) : Type 0 where
  pub shape : shape_fault forms pair ≡ None
  pub key : length pair.key < 2 ^ 64
  pub value : length pair.value < 2 ^ 64
  pub from : low ≤ type_of pair.key
  pub to : type_of pair.key ≤ high

-- no key stands twice
abbrev pub IsOther : (pair : Pair) → Map → Type 0
IsOther pair own = AllByRecursion (λ (other : Pair). bytes_eq pair.key other.key ≡ false) own

abbrev pub IsOnce : Map → Type 0
IsOnce [] = ⊤
IsOnce (pair ∷ own) = IsOther pair own × IsOnce own

pub record IsOwn (forms : ℕ → Form) (low high : ℕ) (own : Map) : Type 0 where
  pub shaped : AllByRecursion (IsShaped forms low high) own
  pub once : IsOnce own

none_own : (forms : ℕ → Form) (low high : ℕ) → IsOwn forms low high []
none_own forms low high = record { shaped = tt; once = tt }

one_own : (forms : ℕ → Form) (low high : ℕ) (pair : Pair) (own : Map) → IsShaped forms low high pair → IsOther pair own → IsOwn forms low high own → IsOwn forms low high (pair ∷ own)
one_own forms low high pair own shaped other h = record { shaped = (shaped, h.shaped); once = (other, h.once) }

-- ---- keys

steps_long : (steps : List ℕ) → length (flat_map (to_le_bytes w32) steps) ≡ 4 * length steps
steps_long [] = refl
steps_long (step ∷ steps) =
    let rest = steps_long steps in
    let both = length-append (to_le_bytes w32 step) (flat_map (to_le_bytes w32) steps) in
    let four : length (to_le_bytes w32 step) ≡ 4 = refl in
    omega (arith, rest, both, four)

derivation_long : (origin : Origin) → length origin.print ≡ 4 → length (derivation origin) ≡ 4 + 4 * length origin.steps
derivation_long origin print =
    let both = length-append origin.print (flat_map (to_le_bytes w32) origin.steps) in
    let steps = steps_long origin.steps in
    omega (arith, both, steps, print)

is_derived : (origin : Origin) → length origin.print ≡ 4 → is_derivation (derivation origin) ≡ true
is_derived origin print =
    let long = derivation_long origin print in
    let whole : length (derivation origin) % 4 ≡ 0 = omega (arith, long) in
    and_from (nat_le 4 (length (derivation origin))) (length (derivation origin) % 4 == 0) (le-leb 4 (length (derivation origin)) (omega (arith, long)))
    (eq-eqb (length (derivation origin) % 4) 0 whole)

-- ---- what belongs, by the types of one kind of maps

-- the types are between two numbers, they differ, and their pairs have their forms
pub record AreTypes (forms : ℕ → Form) (low high : ℕ) (types : Types) : Type 0 where
  pub redeem : (script : Bytes) → length script < 2 ^ 64 → IsShaped forms low high (typed types.redeem_script [] script)
  pub witness : (script : Bytes) → length script < 2 ^ 64 → IsShaped forms low high (typed types.witness_script [] script)
  pub key : (key : Key × Origin) → IsKnownKey key → IsShaped forms low high (derivation_pair types.bip32_derivation key)
  pub redeem_witness : (types.redeem_script == types.witness_script) ≡ false
  pub redeem_key : (types.redeem_script == types.bip32_derivation) ≡ false
  pub witness_key : (types.witness_script == types.bip32_derivation) ≡ false

module _ {forms : ℕ → Form} {low high : ℕ} {types : Types} (h : AreTypes forms low high types) where
  keys_other : (type : ℕ) → (type == types.bip32_derivation) ≡ false → (value : Bytes) (keys : List (Key × Origin)) → IsOther (typed type [] value) (map (derivation_pair types.bip32_derivation) keys)
  keys_other type other value [] = tt
  keys_other type other value (key ∷ keys) = (and_left (type == types.bip32_derivation) (bytes_eq [] key.0) other, keys_other type other value keys)

  key_other : (key : Key × Origin) (keys : List (Key × Origin)) → AllByRecursion (λ other. same_key key other ≡ false) keys
      → IsOther (derivation_pair types.bip32_derivation key) (map (derivation_pair types.bip32_derivation) keys)
  key_other key [] all = tt
  key_other key (other ∷ keys) all = (and_right (types.bip32_derivation == types.bip32_derivation) (bytes_eq key.0 other.0) all.0, key_other key keys all.1)

  keys_own : (keys : List (Key × Origin)) → AllByRecursion IsKnownKey keys → IsDistinct same_key keys → IsOwn forms low high (map (derivation_pair types.bip32_derivation) keys)
  unfolding IsDistinct
  keys_own [] all once = none_own forms low high
  keys_own (key ∷ keys) all once =
      one_own forms low high (derivation_pair types.bip32_derivation key) (map (derivation_pair types.bip32_derivation) keys) (h.key key all.0) (key_other key keys once.0) (keys_own keys all.1 once.1)

  witness_own : (script : Option Bytes) (keys : List (Key × Origin)) → IfSome script (λ s. length s < 2 ^ 64) → AllByRecursion IsKnownKey keys → IsDistinct same_key keys
      → IsOwn forms low high (script_pairs types.witness_script script ++ map (derivation_pair types.bip32_derivation) keys)
  witness_own None keys short all once = keys_own keys all once
  witness_own (Some script) keys short all once =
      one_own forms low high (typed types.witness_script [] script) (map (derivation_pair types.bip32_derivation) keys) (h.witness script short)
      (keys_other types.witness_script h.witness_key script keys) (keys_own keys all once)

  redeem_other : (value : Bytes) (script : Option Bytes) (keys : List (Key × Origin))
      → IsOther (typed types.redeem_script [] value) (script_pairs types.witness_script script ++ map (derivation_pair types.bip32_derivation) keys)
  redeem_other value None keys = keys_other types.redeem_script h.redeem_key value keys
  redeem_other value (Some script) keys =
      (and_left (types.redeem_script == types.witness_script) (bytes_eq [] []) h.redeem_witness, keys_other types.redeem_script h.redeem_key value keys)

  own_by : (redeem witness : Option Bytes) (keys : List (Key × Origin)) → IfSome redeem (λ s. length s < 2 ^ 64) → IfSome witness (λ s. length s < 2 ^ 64)
      → AllByRecursion IsKnownKey keys → IsDistinct same_key keys
      → IsOwn forms low high (script_pairs types.redeem_script redeem ++ (script_pairs types.witness_script witness ++ map (derivation_pair types.bip32_derivation) keys))
  own_by None witness keys short_redeem short all once = witness_own witness keys short all once
  own_by (Some script) witness keys short_redeem short all once =
      one_own forms low high (typed types.redeem_script [] script) (script_pairs types.witness_script witness ++ map (derivation_pair types.bip32_derivation) keys)
      (h.redeem script short_redeem) (redeem_other script witness keys) (witness_own witness keys short all once)

  belonging_own : (known : Known) → IsKnown known → IsOwn forms low high (belonging types known)
  belonging_own known k = own_by known.redeem known.witness known.keys k.redeem k.witness (recursion_from_All IsKnownKey known.keys k.keys) k.once

  -- of what is known of an output with a script
  found : (known : List Known) (script : Bytes) → AllByRecursion IsKnown known → IsOwn forms low high (pairs_by types (known_by known script))
  found [] script all = none_own forms low high
  found (one ∷ known) script all = elim (cases_Bool (bytes_eq script one.output)) [
    | inl e ↦ rw e (belonging_own one all.0)
    | inr e ↦ rw e (found known script all.1)
  ]

-- ---- the types of maps of inputs, and of outputs

shaped_plain : (forms : ℕ → Form) (low high type : ℕ) (script : Bytes) → shape_fault forms (typed type [] script) ≡ None → type_of (type ∷ []) ≡ type → low ≤ type → type ≤ high → length
    script < 2 ^ 64
    → IsShaped forms low high (typed type [] script)
shaped_plain forms low high type script shape is from to short = record {
  shape = shape;
  key = omega arith;
  value = short;
  from = omega (arith, is, from);
  to = omega (arith, is, to);
}

shaped_key : (forms : ℕ → Form) (low high type : ℕ) (key : Key × Origin) → shape_fault forms (derivation_pair type key) ≡ None → type_of (type ∷ key.0) ≡ type → low ≤ type → type ≤ high
    → IsKnownKey key
    → length key.0 ≡ 33 → IsShaped forms low high (derivation_pair type key)
shaped_key forms low high type key shape is from to known size =
    let long = derivation_long key.1 known.print in
    let steps = known.steps in
    record {
      shape = shape;
      key = omega (arith, size);
      value = omega (arith, long, steps);
      from = omega (arith, is, from);
      to = omega (arith, is, to);
    }

key_size : (key : Bytes) → is_key key ≡ true → length key ≡ 33
key_size key e = grind arith

input_redeem : (version : PsbtVersion) (script : Bytes) → shape_fault (input_form version) (typed 0x04 [] script) ≡ None
unfolding shape_fault input_form read_size
input_redeem version script = refl

input_witness : (version : PsbtVersion) (script : Bytes) → shape_fault (input_form version) (typed 0x05 [] script) ≡ None
unfolding shape_fault input_form read_size
input_witness version script = refl

input_key : (version : PsbtVersion) (key : Key × Origin) → IsKnownKey key → shape_fault (input_form version) (derivation_pair 0x06 key) ≡ None
unfolding shape_fault input_form read_size
input_key version key h =
    let form = h.form in
    let derived : is_derivation (derivation key.1) ≡ true = is_derived key.1 h.print in
    rw (form, derived) refl

output_redeem : (version : PsbtVersion) (script : Bytes) → shape_fault (output_form version) (typed 0x00 [] script) ≡ None
unfolding shape_fault output_form read_size
output_redeem version script = refl

output_witness : (version : PsbtVersion) (script : Bytes) → shape_fault (output_form version) (typed 0x01 [] script) ≡ None
unfolding shape_fault output_form read_size
output_witness version script = refl

output_key : (version : PsbtVersion) (key : Key × Origin) → IsKnownKey key → shape_fault (output_form version) (derivation_pair 0x02 key) ≡ None
unfolding shape_fault output_form read_size
output_key version key h =
    let form = h.form in
    let derived : is_derivation (derivation key.1) ≡ true = is_derived key.1 h.print in
    rw (form, derived) refl

of_one_byte : (type : ℕ) (rest : Bytes) → type < 0xfd → type_of (type ∷ rest) ≡ type
unfolding read_size
of_one_byte type rest low = grind arith

input_types : (version : PsbtVersion) → AreTypes (input_form version) 4 6 INPUT
input_types version = record {
  redeem = λ script short. shaped_plain (input_form version) 4 6 0x04 script (input_redeem version script) (of_one_byte 0x04 [] (omega arith)) (omega arith) (omega arith) short;
  witness = λ script short. shaped_plain (input_form version) 4 6 0x05 script (input_witness version script) (of_one_byte 0x05 [] (omega arith)) (omega arith) (omega arith) short;
  key = λ key known. shaped_key (input_form version) 4 6 0x06 key (input_key version key known) (of_one_byte 0x06 key.0 (omega arith)) (omega arith) (omega arith) known (key_size key.0 known.form);
  redeem_witness = refl;
  redeem_key = refl;
  witness_key = refl;
}

output_types : (version : PsbtVersion) → AreTypes (output_form version) 0 2 OUTPUT
output_types version = record {
  redeem = λ script short. shaped_plain (output_form version) 0 2 0x00 script (output_redeem version script) (of_one_byte 0x00 [] (omega arith)) (omega arith) (omega arith) short;
  witness = λ script short. shaped_plain (output_form version) 0 2 0x01 script (output_witness version script) (of_one_byte 0x01 [] (omega arith)) (omega arith) (omega arith) short;
  key = λ key known. shaped_key (output_form version) 0 2 0x02 key (output_key version key known) (of_one_byte 0x02 key.0 (omega arith)) (omega arith) (omega arith) known (key_size key.0 known.form);
  redeem_witness = refl;
  redeem_key = refl;
  witness_key = refl;
}

-- ---- of all maps

input_own : (version : PsbtVersion) (known : List Known) (input : TransactionInput) (fields : Map) → AllByRecursion IsKnown known → IsOwn (input_form version) 4 6 (input_pairs known input fields)
input_own version known input fields all = elim (cases_Bool (has_final fields)) [
  | inl e ↦ rw e (none_own (input_form version) 4 6)
  | inr e ↦ rw e (of (spent_script (utxo_of input.outpoint fields)))
]
  where
    of : (script : Option Bytes) → IsOwn (input_form version) 4 6 (pairs_by INPUT (option_and_then (known_by known) script))
    of None = none_own (input_form version) 4 6
    of (Some script) = found (input_types version) known script all

pub inputs_own : (version : PsbtVersion) (known : List Known) (inputs : List TransactionInput) (maps : List Map) → AllByRecursion IsKnown known
    → AllByRecursion (IsOwn (input_form version) 4 6) (each_input (input_pairs known) inputs maps)
inputs_own version known [] maps all = tt
inputs_own version known (input ∷ inputs) [] all = tt
inputs_own version known (input ∷ inputs) (fields ∷ maps) all = (input_own version known input fields all, inputs_own version known inputs maps all)

pub outputs_own : (version : PsbtVersion) (known : List Known) (outputs : List TransactionOutput) → AllByRecursion IsKnown known
    → AllByRecursion (IsOwn (output_form version) 0 2) (map (λ output. pairs_by OUTPUT (known_of_output known output)) outputs)
outputs_own version known [] all = tt
outputs_own version known (output ∷ outputs) all = (found (output_types version) known output.script all, outputs_own version known outputs all)
