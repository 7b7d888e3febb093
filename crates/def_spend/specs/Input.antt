-- What an input of a PSBT is: its place in the transaction, its map, and which of its signatures count.
use Rattle.std.specs.Prelude.{ℕ, ◌+◌, List, [], ◌∷◌}
use Rattle.def_machine.specs.declared.Locks.{Locks}
use Rattle.def_psbt.specs.Transaction.{TransactionInput, Transaction}
use Rattle.def_psbt.specs.Map.{Map, Psbt}
use Rattle.def_spend.specs.declared.Verification.{Verification}

-- all that an input's state, witness and hashes depend on
pub record Spend : Type 0 where
  -- which signatures count
  pub verification : Verification
  pub transaction : Transaction
  -- its number among the inputs, from 0
  pub number : ℕ
  -- what the transaction says of it
  pub input : TransactionInput
  -- its map
  pub fields : Map

-- inputs with their maps, from a number on
abbrev pub spends_from : Verification → Transaction → (number : ℕ) → List TransactionInput → List Map → List Spend
spends_from verification transaction number [] maps = []
spends_from verification transaction number (input ∷ inputs) [] = []
spends_from verification transaction number (input ∷ inputs) (fields ∷ maps) =
    record { verification = verification; transaction = transaction; number = number; input = input; fields = fields }
    ∷ spends_from verification transaction (number + 1) inputs maps

-- the inputs of a PSBT
abbrev pub spends_of : Verification → Psbt → List Spend
spends_of verification psbt = spends_from verification psbt.transaction 0 psbt.transaction.inputs psbt.inputs

-- the values of its locks
abbrev pub locks_of : Spend → Locks
locks_of spend = record {
  version = spend.transaction.version;
  sequence = spend.input.sequence;
  locktime = spend.transaction.lock_time;
}
