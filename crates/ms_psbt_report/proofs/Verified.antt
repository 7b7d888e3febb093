-- What all signatures share, where they are verified.
use Rattle.std.proofs.Common.{◌≡◌, Some, None, refl}
use Rattle.def_psbt.specs.Transaction.{Transaction}
use Rattle.def_spend.specs.declared.Verification.{Verification}
use Rattle.def_spend.specs.declared.Verification.TheVariants.{Verified, Unverified}
use Rattle.ms_sighash.specs.Shared.{Shared, shared_of}
use Rattle.ms_psbt_report.specs.Verifying.{shared_by}

pub verified_by : (verification : Verification) (transaction : Transaction) (shared : Shared) → Some shared ≡ shared_by verification transaction
    → (Verified ≡ verification) × (shared ≡ shared_of transaction)
verified_by Verified transaction shared e = let same : shared ≡ shared_of transaction = cc in (refl, same)
verified_by Unverified transaction shared e = absurd cc

pub unverified_by : (verification : Verification) (transaction : Transaction) → None ≡ shared_by verification transaction → Unverified ≡ verification
unverified_by Verified transaction e = absurd cc
unverified_by Unverified transaction e = refl
