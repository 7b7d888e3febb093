-- What becomes of a PSBT by what is known of outputs (BIP 174, "Updater").
use Rattle.std.specs.Prelude.{ℕ, ◌+◌, ◌&&◌, not, Bool, List, [], ◌∷◌, length, map, is_some, if◌then◌else◌, Option, Some, None, Result, Ok, Err}
use Rattle.std.specs.List.{list_any}
use Rattle.std.specs.Option.{option_and_then}
use Rattle.std.specs.Str.{bytes_eq}
use Rattle.def_script.specs.Bytes.{Bytes}
use Rattle.def_psbt.specs.Transaction.{TransactionInput, TransactionOutput}
use Rattle.def_psbt.specs.Map.{Pair, Map, Psbt, pair_text, map_text}
use Rattle.def_psbt.specs.Reading.{or_else}
use Rattle.def_combine.specs.Joined.{joined_maps}
use Rattle.def_spend.specs.Utxo.{Utxo, none, wrong, proved, claimed, utxo_of}
use Rattle.def_spend.specs.Reading.{has_final}
use Rattle.def_update.specs.Known.{Known, INPUT, OUTPUT, pairs_by, known_by}

-- ---- inputs and outputs of which something is known

-- the script of the output that is spent, where it is known
abbrev pub spent_script : Utxo → Option Bytes
spent_script none = None
spent_script wrong = None
spent_script (proved output) = Some output.script
spent_script (claimed output) = Some output.script

abbrev pub known_of_input : List Known → TransactionInput → (fields : Map) → Option Known
known_of_input known input fields = option_and_then (known_by known) (spent_script (utxo_of input.outpoint fields))

abbrev pub known_of_output : List Known → TransactionOutput → Option Known
known_of_output known output = known_by known output.script

-- ---- what belongs to each map

-- to that of an input nothing once it has final fields
abbrev pub input_pairs : List Known → TransactionInput → (fields : Map) → Map
input_pairs known input fields = if has_final fields then [] else pairs_by INPUT (known_of_input known input fields)

-- as many maps as there are of both
abbrev pub each_input : {A : Type 0} → (TransactionInput → Map → A) → List TransactionInput → List Map → List A
each_input of [] maps = []
each_input of (input ∷ inputs) [] = []
each_input of (input ∷ inputs) (fields ∷ maps) = of input fields ∷ each_input of inputs maps

abbrev pub inputs_pairs : List Known → Psbt → List Map
inputs_pairs known psbt = each_input (input_pairs known) psbt.transaction.inputs psbt.inputs

abbrev pub outputs_pairs : List Known → Psbt → List Map
outputs_pairs known psbt = map (λ output. pairs_by OUTPUT (known_of_output known output)) psbt.transaction.outputs

-- something is known of an input, be it final or not
abbrev pub has_known_input : List Known → Psbt → Bool
has_known_input known psbt =
    list_any (λ one. is_some one) (each_input (known_of_input known) psbt.transaction.inputs psbt.inputs)

-- ---- conflicts

-- a pair has the key of one that belongs to its map, and another value
abbrev pub conflicts : (belonging : Map) → Pair → Bool
conflicts belonging pair = list_any (λ (own : Pair). bytes_eq pair.key own.key && not (bytes_eq pair.value own.value)) belonging

-- the place of the first such pair of a map that begins at a place
abbrev pub conflict_in : (belonging : Map) → (at : ℕ) → Map → Option ℕ
conflict_in belonging at [] = None
conflict_in belonging at (pair ∷ map) =
    if conflicts belonging pair then Some at else conflict_in belonging (at + length (pair_text pair)) map

-- that of the first of some maps, one after the other
abbrev pub conflict_among : (belonging : List Map) → (at : ℕ) → List Map → Option ℕ
conflict_among belonging at [] = None
conflict_among [] at (map ∷ maps) = None
conflict_among (own ∷ belonging) at (map ∷ maps) =
    or_else (conflict_in own at map) (conflict_among belonging (at + length (map_text map)) maps)

-- the place behind maps
abbrev pub behind : (at : ℕ) → List Map → ℕ
behind at [] = at
behind at (map ∷ maps) = behind (at + length (map_text map)) maps

-- that of a PSBT, whose global map begins behind the magic
abbrev pub conflict_of : List Known → Psbt → Option ℕ
conflict_of known psbt =
    let inputs = 5 + length (map_text psbt.global) in
    or_else (conflict_among (inputs_pairs known psbt) inputs psbt.inputs)
    (conflict_among (outputs_pairs known psbt) (behind inputs psbt.inputs) psbt.outputs)

-- ---- the PSBT with what belongs to its maps: behind each map's pairs those whose keys don't stand there

abbrev pub updated : List Known → Psbt → Psbt
updated known psbt = record psbt {
  inputs = joined_maps psbt.inputs (inputs_pairs known psbt);
  outputs = joined_maps psbt.outputs (outputs_pairs known psbt);
}

-- the place of the first conflict, or the PSBT and whether something is known of one of its inputs
abbrev pub update_by : Option ℕ → List Known → Psbt → Result (Psbt × Bool) ℕ
update_by (Some at) known psbt = Err at
update_by None known psbt = Ok (updated known psbt, has_known_input known psbt)

abbrev pub update_of : List Known → Psbt → Result (Psbt × Bool) ℕ
update_of known psbt = update_by (conflict_of known psbt) known psbt
