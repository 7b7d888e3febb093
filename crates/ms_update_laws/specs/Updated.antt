-- What is promised of PSBTs that were updated.
use Rattle.std.specs.Prelude.{◌≡◌, ℕ, ◌^◌, ◌<◌, Bool, true, List, [], ◌++◌, length, filter, find, slice_index_or, All, IfSome, Option, Some, Ok, option_map}
use Rattle.std.specs.List.{IsDistinct}
use Rattle.std.specs.Str.{bytes_eq}
use Rattle.def_script.specs.Bytes.{Bytes}
use Rattle.def_script.specs.Key.{is_key}
use Rattle.def_tree.specs.Tree.{Key}
use Rattle.def_descriptor.specs.Expression.{Origin}
use Rattle.def_psbt.specs.Map.{Pair, Map, Psbt, psbt_text}
use Rattle.def_psbt.specs.Laws.{IsSound}
use Rattle.def_psbt.specs.Reading.{read_psbt}
use Rattle.def_combine.specs.Joined.{is_new}
use Rattle.def_update.specs.Known.{Known}
use Rattle.def_update.specs.Updated.{inputs_pairs, outputs_pairs, update_of}

-- ---- what is known

-- a compressed key, a fingerprint of 4 bytes, and so many steps that they can be spelled
pub record IsKnownKey (key : Key × Origin) : Type 0 where
  pub form : is_key key.0 ≡ true
  pub print : length key.1.print ≡ 4
  pub steps : length key.1.steps < 2 ^ 32

abbrev pub same_key : (first second : Key × Origin) → Bool
same_key first second = bytes_eq first.0 second.0

-- Scripts that can be spelled, and keys of which none stands twice
pub record IsKnown (known : Known) : Type 0 where
  pub redeem : IfSome known.redeem (λ script. length script < 2 ^ 64)
  pub witness : IfSome known.witness (λ script. length script < 2 ^ 64)
  pub keys : All IsKnownKey known.keys
  pub once : IsDistinct same_key known.keys

-- of each PSBT with nothing wrong, and of what it is updated to
abbrev pub OfEachUpdated : (List Known → (before after : Psbt) → Bool → Type 0) → Type 0
OfEachUpdated Holds =
    (known : List Known) (before after : Psbt) (has_known_input : Bool) → All IsKnown known → IsSound before → update_of known before ≡ Ok (after, has_known_input)
    → Holds known before after has_known_input

-- ---- what is promised

-- it has nothing wrong, and its bytes are read as it
abbrev pub IsReadAgain : Type 0
IsReadAgain = OfEachUpdated (λ known before after has_known_input. IsSound after × (read_psbt (psbt_text after.global after.inputs after.outputs) ≡ Ok after))

-- as many maps, each with the pairs that stood there, in their order, and behind them those that belong and whose keys didn't stand there
pub record AreKept (owns before after : List Map) : Type 0 where
  pub count : length after ≡ length before
  pub each : (i : ℕ) → i < length before → slice_index_or after i [] ≡ slice_index_or before i [] ++ filter (is_new (slice_index_or before i [])) (slice_index_or owns i [])

-- the global map and the transaction are those that were there
pub record IsKept (known : List Known) (before after : Psbt) : Type 0 where
  pub global : after.global ≡ before.global
  pub transaction : after.transaction ≡ before.transaction
  pub inputs : AreKept (inputs_pairs known before) before.inputs after.inputs
  pub outputs : AreKept (outputs_pairs known before) before.outputs after.outputs

abbrev pub LosesNothing : Type 0
LosesNothing = OfEachUpdated (λ known before after has_known_input. IsKept known before after)

-- the value of a key
abbrev pub value_of_key : (key : Bytes) → Map → Option Bytes
value_of_key key map = option_map (λ (pair : Pair). pair.value) (find (λ (pair : Pair). bytes_eq key pair.key) map)

-- each pair that belongs to a map has its value there
abbrev pub HoldEach : (owns maps : List Map) → Type 0
HoldEach owns maps = (i : ℕ) → i < length maps → All (λ (own : Pair). value_of_key own.key (slice_index_or maps i []) ≡ Some own.value) (slice_index_or owns i [])

abbrev pub HoldsWhatBelongs : Type 0
HoldsWhatBelongs =
    OfEachUpdated (λ known before after has_known_input. (HoldEach (inputs_pairs known before) after.inputs) × (HoldEach (outputs_pairs known before) after.outputs))

-- once more, it stays as it is, and tells the same
abbrev pub StaysUpdated : Type 0
StaysUpdated = OfEachUpdated (λ known before after has_known_input. update_of known after ≡ Ok (after, has_known_input))
