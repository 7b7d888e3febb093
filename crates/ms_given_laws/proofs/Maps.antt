-- What is read of bytes consists of bytes.
use Rattle.std.proofs.Common.{◌≡◌, ◌==◌, List, [], ◌∷◌, ◌++◌, length, inl, inr, All, Some, sym, subst}
use Rattle.std.proofs.lemmas.Bool.{cases_Bool}
use Rattle.std.specs.List.{flat_map, AllByRecursion}
use Rattle.std.proofs.lemmas.List.Elements.{All-from_recursion, recursion_from_All}
use Rattle.def_script.specs.Bytes.{Bytes, IsBytes}
use Rattle.def_script.specs.Sizes.{size_bytes}
use Rattle.def_script.specs.Witness.{sized}
use Rattle.def_psbt.specs.Transaction.{Transaction}
use Rattle.def_psbt.specs.declared.PsbtVersion.{PsbtVersion}
use Rattle.def_psbt.specs.declared.PsbtVersion.TheVariants as version
use Rattle.def_psbt.specs.Map.{Map, Psbt, type_of, pair_text, map_text, magic, psbt_text, pair_of_type}
use Rattle.def_psbt.specs.Fields.{version_of}
use Rattle.def_psbt.specs.Reading.{input_rules, output_rules, Outline, given, counted, outline_in, transaction_in_pair, transaction_in, input_count, output_count, transaction_by}
use Rattle.def_psbt.specs.Laws.{IsWholeMap, IsSound}
use Rattle.ms_given_laws.specs.Given.{IsTransaction, IsMapOfBytes, IsWhole}
use Rattle.ms_given_laws.proofs.BytesOf.{front, back, pieces}
use Rattle.ms_given_laws.proofs.Later.{IsPairOfBytes, given_is, not_counted, not_given, later_transaction}
use Rattle.ms_given_laws.proofs.Parts.{transaction_is}

sized_bytes : (bytes : Bytes) → IsBytes (sized bytes) → IsBytes bytes
sized_bytes bytes h = back (size_bytes (length bytes)) bytes h

each_pair : (map : Map) → AllByRecursion (λ pair. IsBytes (pair_text pair)) map → AllByRecursion IsPairOfBytes map
each_pair [] h = tt
each_pair (pair ∷ map) h = (
  (sized_bytes pair.key (front (sized pair.key) (sized pair.value) h.0), sized_bytes pair.value (back (sized pair.key) (sized pair.value) h.0)),
  each_pair map h.1,
)

pub map_bytes : (map : Map) → IsBytes (map_text map) → IsMapOfBytes map
map_bytes map h = All-from_recursion IsPairOfBytes map (each_pair map (pieces pair_text map (front (flat_map pair_text map) (0x00 ∷ []) h)))

each_map : (maps : List Map) → AllByRecursion (λ map. IsBytes (map_text map)) maps → AllByRecursion IsMapOfBytes maps
each_map [] h = tt
each_map (map ∷ maps) h = (map_bytes map h.0, each_map maps h.1)

maps_bytes : (maps : List Map) → IsBytes (flat_map map_text maps) → All IsMapOfBytes maps
maps_bytes maps h = All-from_recursion IsMapOfBytes maps (each_map maps (pieces map_text maps h))

-- the transaction is that of a pair
found_pair : (transaction : Transaction) (map : Map) → AllByRecursion IsPairOfBytes map → transaction_in_pair (pair_of_type 0x00 map) ≡ Some transaction → IsTransaction transaction
found_pair transaction [] all e = absurd cc
found_pair transaction (pair ∷ map) all e = elim (cases_Bool (type_of pair.key == 0x00)) [
  | inl is ↦ transaction_is pair.value transaction all.0.1 (rw is at e)
  | inr other ↦ found_pair transaction map all.1 (rw other at e)
]

-- the transaction is that of a pair, or of the fields of all maps
transaction_fits : (psbt : Psbt) → IsSound psbt → AllByRecursion IsPairOfBytes psbt.global → AllByRecursion IsMapOfBytes psbt.inputs → AllByRecursion IsMapOfBytes psbt.outputs
    → IsTransaction psbt.transaction
transaction_fits psbt sound global inputs outputs =
    subst IsTransaction (sym sound.transaction) (go (version_of psbt.global) sound.outline sound.said sound.inputs sound.outputs sound.each_input sound.each_output)
  where
    go : (version : PsbtVersion) (outline : Outline) → outline_in version psbt.global ≡ Some outline
        → All (IsWholeMap (input_rules version)) psbt.inputs → All (IsWholeMap (output_rules version)) psbt.outputs
        → length psbt.inputs ≡ input_count outline → length psbt.outputs ≡ output_count outline → IsTransaction (transaction_by outline psbt.global psbt.inputs psbt.outputs)
    go version.Zero (given transaction) said ins outs many_in many_out = found_pair transaction psbt.global global (given_is (transaction_in psbt.global) transaction said)
    go version.Zero (counted inputs outputs) said ins outs many_in many_out = absurd (not_counted (transaction_in psbt.global) inputs outputs said)
    go version.Two (given transaction) said ins outs many_in many_out = absurd (not_given psbt.global transaction said)
    go version.Two (counted ins_number outs_number) said ins outs many_in many_out =
        later_transaction psbt.global psbt.inputs psbt.outputs ins_number outs_number sound.global global said
        (recursion_from_All (IsWholeMap (input_rules version.Two)) psbt.inputs ins) inputs many_in
        (recursion_from_All (IsWholeMap (output_rules version.Two)) psbt.outputs outs) outputs many_out

pub whole_is : (psbt : Psbt) → IsSound psbt → IsBytes (psbt_text psbt.global psbt.inputs psbt.outputs) → IsWhole psbt
whole_is psbt sound h =
    let maps = back magic (map_text psbt.global ++ (flat_map map_text psbt.inputs ++ flat_map map_text psbt.outputs)) h in
    let sides = back (map_text psbt.global) (flat_map map_text psbt.inputs ++ flat_map map_text psbt.outputs) maps in
    let global = map_bytes psbt.global (front (map_text psbt.global) (flat_map map_text psbt.inputs ++ flat_map map_text psbt.outputs) maps) in
    let inputs = maps_bytes psbt.inputs (front (flat_map map_text psbt.inputs) (flat_map map_text psbt.outputs) sides) in
    let outputs = maps_bytes psbt.outputs (back (flat_map map_text psbt.inputs) (flat_map map_text psbt.outputs) sides) in
    record {
      sound = sound;
      transaction = transaction_fits psbt sound (recursion_from_All IsPairOfBytes psbt.global global)
          (recursion_from_All IsMapOfBytes psbt.inputs inputs) (recursion_from_All IsMapOfBytes psbt.outputs outputs);
      global = global;
      inputs = inputs;
      outputs = outputs;
    }
