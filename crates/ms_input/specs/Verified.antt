-- Which signatures of an input count, as contracts see it.
use Rattle.std.specs.Prelude.{◌≡◌, ℕ, ⊤, slice_get, All}
use Rattle.def_assets.specs.Assets.{AreAssets}
use Rattle.def_psbt.specs.Transaction.{Transaction}
use Rattle.def_psbt.specs.Map.{Psbt}
use Rattle.def_spend.specs.Good.{assets_of}
use Rattle.def_spend.specs.Input.{spends_of}
use Rattle.def_spend.specs.declared.Verification.{Verification}
use Rattle.def_spend.specs.declared.Verification.TheVariants.{Verified, Unverified}
use Rattle.ms_input.specs.declared.input.verifying.Verifying.{Verifying}
use Rattle.ms_input.specs.declared.input.verifying.Verifying.TheVariants as verifying
use Rattle.ms_sighash.specs.Shared.{shared_of, IsOutputText}

-- what the maps of its inputs hold are assets, whichever of their signatures count
abbrev pub HaveAssets : Psbt → Type 0
HaveAssets psbt = All (λ spend. AreAssets (assets_of spend)) (spends_of Unverified psbt)

abbrev pub verification_of : Verifying → Verification
verification_of verifying.Unverified = Unverified
verification_of (verifying.Verified shared output) = Verified

-- where signatures are judged, this is what those of the transaction share, and these are the bytes of its output with this number
abbrev pub IsVerifying : Verifying → Transaction → (number : ℕ) → Type 0
IsVerifying verifying.Unverified transaction number = ⊤
IsVerifying (verifying.Verified shared output) transaction number =
    (shared.now ≡ shared_of transaction) × IsOutputText (slice_get transaction.outputs number) output
