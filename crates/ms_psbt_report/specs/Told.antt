-- What the first line of a report tells of a transaction.
use Rattle.std.specs.Prelude.{◌≡◌, length}
use Rattle.def_psbt.specs.Transaction.{Transaction, id_of}
use Rattle.ms_psbt_report.specs.declared.lines.transactions.Summary.{Summary}

-- this is told of a transaction
pub record IsTold (transaction : Transaction) (summary : Summary) : Type 0 where
  pub inputs : summary.inputs ≡ length transaction.inputs
  pub outputs : summary.outputs ≡ length transaction.outputs
  pub version : summary.version ≡ transaction.version
  pub lock_time : summary.lock_time ≡ transaction.lock_time
  pub id : summary.id ≡ id_of transaction
