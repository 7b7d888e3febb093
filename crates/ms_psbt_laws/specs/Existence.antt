-- That there is an answer.
use Rattle.std.specs.Prelude.{List}
use Rattle.def_script.specs.Bytes.{Bytes, IsBytes}
use Rattle.def_spend.specs.declared.Verification.{Verification}
use Rattle.def_spend.specs.Reading.{Input, AreInputs}
use Rattle.def_psbt_answer.specs.declared.status.Status.{Status}
use Rattle.def_psbt_answer.specs.Answer.{Answer}
use Rattle.ms_given_laws.specs.Given.{OfEachGiven}

-- every list of words and every source of bytes have an answer
abbrev pub EachHasAnswer : Type 0
EachHasAnswer =
    (words : List Bytes) (source : Bytes) → IsBytes source →
    (status : Status) × (report : Bytes) × Answer words source status report

-- each input of a PSBT that a source of bytes gives is read as a miniscript, or can't be
abbrev pub EachIsRead : Type 0
EachIsRead = OfEachGiven (λ psbt. (verification : Verification) → (inputs : List Input) × AreInputs verification psbt inputs)
