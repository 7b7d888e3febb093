-- Inputs without scriptSigs.
use Rattle.std.specs.Prelude.{◌≡◌, [], length}
use Rattle.def_psbt.specs.Transaction.{TransactionInput}

-- an input without a scriptSig, whose outpoint names a transaction by 32 bytes
pub record IsUnsigned (input : TransactionInput) : Type 0 where
  pub id : length input.outpoint.id ≡ 32
  pub script_sig : input.script_sig ≡ []
