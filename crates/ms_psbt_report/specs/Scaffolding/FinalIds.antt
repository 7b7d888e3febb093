-- The id of a transaction with its final scriptSigs, as it is hashed. No public clause cites it, so it need not be believed.
use Rattle.std.specs.Prelude.{◌≡◌, List, ◌++◌, length}
use Rattle.std.specs.List.{flat_map}
use Rattle.std.specs.Int.{w32, to_le_bytes}
use Rattle.sha2.specs.Hashers.{Holds256}
use Rattle.def_script.specs.Bytes.{Bytes}
use Rattle.def_script.specs.Sizes.{size_bytes}
use Rattle.def_psbt.specs.Transaction.{Transaction, input_text}
use Rattle.def_spend.specs.Finalized.{known_inputs, are_known, has_script_sig}
use Rattle.def_spend.specs.Input.{Spend}
use Rattle.ms_psbt_report.specs.declared.final_id.FinalId.{FinalId}

-- the bytes of a transaction up to those inputs that were added
abbrev pub hashed_text : Transaction → List Spend → Bytes
hashed_text transaction spends =
    to_le_bytes w32 transaction.version ++ (size_bytes (length transaction.inputs) ++ flat_map input_text (known_inputs spends))

pub record IsIdOf (transaction : Transaction) (spends : List Spend) (id : FinalId) : Type 0 where
  pub holds : Holds256 id.hasher (hashed_text transaction spends)
  pub known : id.are_known ≡ are_known spends
  pub some : id.has_script_sig ≡ has_script_sig spends
