-- By what the signatures of an input are verified, where they are.
use Rattle.std.specs.Prelude.{◌≡◌, ℕ, Option, Some, None}
use Rattle.def_psbt.specs.Transaction.{Transaction}
use Rattle.def_spend.specs.declared.Verification.{Verification}
use Rattle.def_spend.specs.declared.Verification.TheVariants.{Verified, Unverified}
use Rattle.def_spend.specs.Input.{Spend}
use Rattle.ms_input.specs.Verified.{IsVerifying, verification_of}
use Rattle.ms_input.specs.declared.input.verifying.Verifying.{Verifying}
use Rattle.ms_sighash.specs.Shared.{Shared, shared_of}

-- what all signatures of a transaction share, where they are verified
abbrev pub shared_by : Verification → Transaction → Option Shared
shared_by Verified transaction = Some (shared_of transaction)
shared_by Unverified transaction = None

-- by this the signatures of the input with this number are verified, where they are
abbrev pub Verifies : Verification → Transaction → (number : ℕ) → Verifying → Type 0
Verifies verification transaction number verifying =
    (verification_of verifying ≡ verification) × IsVerifying verifying transaction number

-- so are those of an input
abbrev pub IsVerifiedBy : Spend → Verifying → Type 0
IsVerifiedBy spend verifying = Verifies spend.verification spend.transaction spend.number verifying
