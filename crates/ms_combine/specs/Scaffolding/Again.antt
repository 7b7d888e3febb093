-- What was put together, read again. No public clause cites it, so it need not be believed.
use Rattle.std.specs.Prelude.{◌≡◌, Bool, true, false, Ok}
use Rattle.def_script.specs.Bytes.{Bytes}
use Rattle.def_psbt.specs.Laws.{IsSound}
use Rattle.def_psbt.specs.Map.{Psbt, psbt_text}
use Rattle.def_psbt.specs.Reading.{read_psbt}
use Rattle.def_psbt.specs.Transaction.{Transaction}

-- a PSBT with nothing wrong that bytes are, with this transaction
pub record IsReadWith (bytes : Bytes) (transaction : Transaction) : Type 0 where
  pub psbt : Psbt
  pub sound : IsSound psbt
  pub text : bytes ≡ psbt_text psbt.global psbt.inputs psbt.outputs
  pub same : psbt.transaction ≡ transaction

-- whether two transactions are the same
abbrev pub SameOrNot : Bool → (first second : Transaction) → Type 0
SameOrNot true first second = first ≡ second
SameOrNot false first second = first ≡ second → ⊥

-- whether bytes are read as a PSBT with this transaction
abbrev pub SaysTransaction : (bytes : Bytes) → Transaction → Bool → Type 0
SaysTransaction bytes transaction true = IsReadWith bytes transaction
SaysTransaction bytes transaction false = (psbt : Psbt) → read_psbt bytes ≡ Ok psbt → psbt.transaction ≡ transaction → ⊥
