-- What holds of every PSBT that a source of bytes gives, and of each of its inputs.
use Rattle.std.specs.Prelude.{◌≡◌, ◌^◌, ◌<◌, List, length, All, Ok}
use Rattle.def_script.specs.Bytes.{Bytes, IsBytes}
use Rattle.def_tree.specs.Range.{IsKey}
use Rattle.def_assets.specs.Assets.{AreAssets}
use Rattle.def_psbt.specs.Transaction.{TransactionInput, TransactionOutput, Transaction}
use Rattle.def_psbt.specs.Map.{Map, Psbt}
use Rattle.def_psbt.specs.Source.{psbt_of}
use Rattle.def_psbt.specs.Laws.{IsSound}
use Rattle.def_spend.specs.Fields.{keys_in}
use Rattle.def_spend.specs.declared.Verification.{Verification}
use Rattle.def_spend.specs.Input.{Spend, spends_of}
use Rattle.def_spend.specs.Reading.{Input, AreInputs}
use Rattle.def_spend.specs.Good.{assets_of}

-- ---- of each

-- of every PSBT that a source of bytes gives
abbrev pub OfEachGiven : (Psbt → Type 0) → Type 0
OfEachGiven Holds = (source : Bytes) (psbt : Psbt) → IsBytes source → psbt_of source ≡ Ok psbt → Holds psbt

-- of every such PSBT with its inputs, each read, whichever of their signatures count
abbrev pub OfEachPsbt : (Psbt → List Input → Type 0) → Type 0
OfEachPsbt Holds =
    OfEachGiven (λ psbt. (verification : Verification) (inputs : List Input) → AreInputs verification psbt inputs → Holds psbt inputs)

-- of each input of every such PSBT
abbrev pub OfEachInput : (Input → Type 0) → Type 0
OfEachInput Holds = OfEachPsbt (λ psbt inputs. All Holds inputs)

-- of each place of an input, with its map, in every such PSBT
abbrev pub OfEachSpend : (Spend → Type 0) → Type 0
OfEachSpend Holds = OfEachGiven (λ psbt. (verification : Verification) → All Holds (spends_of verification psbt))

-- ---- what it consists of

-- an input, and an output, of a transaction: an id of 32 bytes, and numbers and strings that can be spelled
pub record IsInput (input : TransactionInput) : Type 0 where
  pub id : length input.outpoint.id ≡ 32
  pub index : input.outpoint.index < 2 ^ 32
  pub script_sig : length input.script_sig < 2 ^ 64
  pub sequence : input.sequence < 2 ^ 32

pub record IsOutput (output : TransactionOutput) : Type 0 where
  pub amount : output.amount < 2 ^ 64
  pub script : length output.script < 2 ^ 64

pub record IsTransaction (transaction : Transaction) : Type 0 where
  pub version : transaction.version < 2 ^ 32
  pub inputs : All IsInput transaction.inputs
  pub few_inputs : length transaction.inputs < 2 ^ 64
  pub outputs : All IsOutput transaction.outputs
  pub few_outputs : length transaction.outputs < 2 ^ 64
  pub lock_time : transaction.lock_time < 2 ^ 32

-- the keys and the values of a map consist of bytes
abbrev pub IsMapOfBytes : Map → Type 0
IsMapOfBytes map = All (λ pair. IsBytes pair.key × IsBytes pair.value) map

-- the maps have nothing wrong and consist of bytes, and so does the transaction
pub record IsWhole (psbt : Psbt) : Type 0 where
  pub sound : IsSound psbt
  pub transaction : IsTransaction psbt.transaction
  pub global : IsMapOfBytes psbt.global
  pub inputs : All IsMapOfBytes psbt.inputs
  pub outputs : All IsMapOfBytes psbt.outputs

abbrev pub EachIsSound : Type 0
EachIsSound = OfEachGiven IsWhole

-- ---- what its maps hold

-- compressed keys
abbrev pub EachHasKeys : Type 0
EachHasKeys = OfEachSpend (λ spend. All IsKey (keys_in spend.fields))

-- assets: no pair stands twice, signatures have 1 to 73 bytes and preimages 32, and the locks have numbers of 32 bits
abbrev pub EachHasAssets : Type 0
EachHasAssets = OfEachSpend (λ spend. AreAssets (assets_of spend))
