-- What a check of signatures knows of its input, and what it answers.
use Rattle.std.specs.Prelude.{ℕ}
use Rattle.def_script.specs.Bytes.{Bytes}
use Rattle.def_machine.specs.Stacks.{Checker}
use Rattle.def_curve.specs.declared.Judgement.{Judgement}
use Rattle.def_curve.specs.Judgement.{judge}
use Rattle.def_spend.specs.Fields.{last_byte}
use Rattle.def_verify.specs.Check.{is_taken}
use Rattle.ms_sighash.specs.Shared.{Shared, byte_hash}

pub record Asked : Type 0 where
  -- what all signatures of the transaction share
  pub shared : Shared
  -- the bytes of the input
  pub input : Bytes
  -- the hash of the output with its number
  pub single : Bytes
  pub script : Bytes
  pub amount : ℕ

-- the judgement of a signature by a key, for what its last byte signs
abbrev pub judged_from : Asked → (key sig : Bytes) → Judgement
judged_from asked key sig = judge key (byte_hash (last_byte sig) asked.shared asked.input asked.single asked.script asked.amount) sig

abbrev pub check_from : Asked → Checker
check_from asked key sig = is_taken (judged_from asked key sig)
