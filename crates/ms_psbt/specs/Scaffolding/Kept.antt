-- What is kept of a PSBT. No public clause cites it, so it need not be believed.
use Rattle.std.specs.Prelude.{◌≡◌, ℕ, ◌+◌, true, List, [], ◌∷◌, length, Some, Ok}
use Rattle.def_script.specs.Bytes.{Bytes}
use Rattle.def_psbt.specs.Forms.{is_unsigned}
use Rattle.def_psbt.specs.Map.{Map, map_text, psbt_text}
use Rattle.def_psbt.specs.TransactionReading.{transaction_of}
use Rattle.def_psbt.specs.Laws.{IsSound}
use Rattle.def_psbt.specs.Reading.{read_psbt}
use Rattle.ms_psbt.specs.declared.psbt.TransactionBytes.{TransactionBytes}
use Rattle.ms_psbt.specs.declared.psbt.TransactionBytes.TheVariants.{Given, Written}
use Rattle.ms_psbt.specs.Whole.{psbt_seen}

-- the places of maps that stand one after the other from a place on, and the place behind them
abbrev pub places_of : (at : ℕ) → List Map → List ℕ
places_of at [] = at ∷ []
places_of at (map ∷ maps) = at ∷ places_of (at + length (map_text map)) maps

-- bytes that were read, those of their transaction, and the places of the maps of inputs
pub record IsRead (bytes transaction : Bytes) (places : List ℕ) : Type 0 where
  pub read : read_psbt bytes ≡ Ok (psbt_seen bytes)
  pub sound : IsSound (psbt_seen bytes)
  pub text : bytes ≡ psbt_text (psbt_seen bytes).global (psbt_seen bytes).inputs (psbt_seen bytes).outputs
  pub value : transaction_of transaction ≡ Some (psbt_seen bytes).transaction
  pub unsigned : is_unsigned (Some (psbt_seen bytes).transaction) ≡ true
  pub places_are : places ≡ places_of (5 + length (map_text (psbt_seen bytes).global)) (psbt_seen bytes).inputs

-- the bytes of the transaction, in whichever way they came
abbrev pub bytes_of : TransactionBytes → Bytes
bytes_of (Given bytes) = bytes.now
bytes_of (Written bytes) = bytes.items
