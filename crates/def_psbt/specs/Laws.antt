-- What the definitions imply: what was written is read back, and what is read was written so.
use Rattle.std.specs.Prelude.{◌≡◌, ℕ, ◌+◌, ◌^◌, ◌<◌, ◌≤◌, ⊤, true, [], ◌∷◌, ◌++◌, length, All, Some, None, Ok}
use Rattle.def_script.specs.Bytes.{Bytes, IsBytes}
use Rattle.def_psbt.specs.Map.{Pair, Map, Psbt, map_text, psbt_text, has_types}
use Rattle.def_psbt.specs.Fields.{version_of}
use Rattle.def_psbt.specs.Listed.{Form, global_form, pair_fault}
use Rattle.def_psbt.specs.Reading.{Rules, input_rules, output_rules, misplaced, Outline, outline_in, input_count, output_count, transaction_by, unjoined, read_psbt}
use Rattle.def_psbt.specs.Source.{MAX_SOURCE_SIZE, has_magic}

-- a pair with nothing wrong behind others of its map, whose sizes can be spelled
pub record IsSoundPair (forms : ℕ → Form) (before : Map) (pair : Pair) : Type 0 where
  pub fault : pair_fault forms before pair ≡ None
  pub key : length pair.key < 2 ^ 64
  pub value : length pair.value < 2 ^ 64

-- pairs with nothing wrong, one after the other
abbrev pub IsSoundMap : (forms : ℕ → Form) → (before : Map) → Map → Type 0
IsSoundMap forms before [] = ⊤
IsSoundMap forms before (pair ∷ pairs) = IsSoundPair forms before pair × IsSoundMap forms (before ++ pair ∷ []) pairs

-- a map with nothing wrong in which the types stand that have to
pub record IsWholeMap (rules : Rules) (map : Map) : Type 0 where
  pub sound : IsSoundMap rules.forms [] map
  pub needed : has_types rules.needed map ≡ true

-- maps with nothing wrong: of the inputs and of the outputs as many as the transaction in the global map has, or the counts there
-- say, and the transaction is that of the maps
pub record IsSound (psbt : Psbt) : Type 0 where
  pub global : IsSoundMap global_form [] psbt.global
  pub allowed : misplaced (version_of psbt.global) psbt.global ≡ None
  pub outline : Outline
  pub said : outline_in (version_of psbt.global) psbt.global ≡ Some outline
  pub inputs : All (IsWholeMap (input_rules (version_of psbt.global))) psbt.inputs
  pub outputs : All (IsWholeMap (output_rules (version_of psbt.global))) psbt.outputs
  pub each_input : length psbt.inputs ≡ input_count outline
  pub each_output : length psbt.outputs ≡ output_count outline
  pub transaction : psbt.transaction ≡ transaction_by outline psbt.global psbt.inputs psbt.outputs
  pub joined : unjoined (version_of psbt.global) (5 + length (map_text psbt.global)) psbt.inputs ≡ None

-- a PSBT that was written is read back: nothing is lost
abbrev pub WrittenIsReadBack : Type 0
WrittenIsReadBack = (psbt : Psbt) → IsSound psbt → read_psbt (psbt_text psbt.global psbt.inputs psbt.outputs) ≡ Ok psbt

-- and what is read has nothing wrong, and is the one PSBT with these bytes
abbrev pub ReadIsWritten : Type 0
ReadIsWritten = (bytes : Bytes) → (psbt : Psbt) → IsBytes bytes → length bytes ≤ MAX_SOURCE_SIZE → has_magic bytes ≡ true → read_psbt bytes ≡ Ok psbt
    → IsSound psbt × (bytes ≡ psbt_text psbt.global psbt.inputs psbt.outputs)
