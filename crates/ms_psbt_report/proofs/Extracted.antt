-- What is extracted, by the first input that isn't Final.
use Rattle.std.proofs.Common.{◌≡◌, ℕ, ◌<◌, List, [], ◌∷◌, length, Option, Some, None, refl, arith}
use Rattle.std.specs.Option.{option_map}
use Rattle.def_psbt.specs.Map.{Psbt}
use Rattle.def_spend.specs.declared.Verification.{Verification}
use Rattle.def_spend.specs.Reading.{Input, AreInputs}
use Rattle.def_psbt_answer.specs.Reply.{first_open, extract_by, extract_reply}
use Rattle.ms_psbt_report.proofs.Spends.{count_inputs}

abbrev pub number_of : Option Input → Option ℕ
number_of = option_map (λ (input : Input). input.spend.number)

none_open : (psbt : Psbt) (o : Option Input) → None ≡ number_of o → extract_by None psbt ≡ extract_by o psbt
none_open psbt (Some input) e = absurd cc
none_open psbt None e = refl

-- with none
pub all_extracted : (verification : Verification) (psbt : Psbt) (inputs : List Input) (count : ℕ) → AreInputs verification psbt inputs → count ≡ length psbt.inputs
    → count ≡ length psbt.transaction.inputs → 0 < count → None ≡ number_of (first_open inputs) → extract_by None psbt ≡ extract_reply psbt inputs
all_extracted verification psbt [] count are maps own more e =
    let long : length {A = Input} [] ≡ count = count_inputs verification psbt [] count are maps own in absurd (omega arith)
all_extracted verification psbt (input ∷ inputs) count are maps own more e = none_open psbt (first_open (input ∷ inputs)) e
