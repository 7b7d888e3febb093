-- What of a spend a verdict is told.
use Rattle.std.specs.Prelude.{◌≡◌, Option}
use Rattle.std.specs.Borrow.{Bor}
use Rattle.def_script.specs.Bytes.{Bytes}
use Rattle.def_spend.specs.Hashes.{spent_amount}
use Rattle.def_spend.specs.Input.{Spend}
use Rattle.ms_sighash.specs.Shared.{shared_of, AreSigned, hash_of_output}
use Rattle.ms_input.specs.Checking.{Asked}

-- this is signed for the spend beside the last byte of a signature
pub record IsAsked (spend : Spend) (asked : Asked) : Type 0 where
  pub output : Option (Bor Bytes)
  pub shared : asked.shared ≡ shared_of spend.transaction
  pub signed : AreSigned spend.transaction spend.number spend.input asked.input output
  pub single : asked.single ≡ hash_of_output output
  pub amount : asked.amount ≡ spent_amount spend
