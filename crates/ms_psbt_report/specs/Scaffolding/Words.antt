-- How the signatures of an input are judged. No public clause cites it, so it need not be believed.
use Rattle.std.specs.Prelude.{◌≡◌, Bool, [], map, Option, Some, None, unwrap_or}
use Rattle.def_script.specs.Bytes.{Bytes}
use Rattle.def_spend.specs.Fields.{signatures_in}
use Rattle.def_spend.specs.Good.{word_of}
use Rattle.def_spend.specs.Input.{Spend}
use Rattle.def_psbt_answer.specs.Report.{told_word}
use Rattle.ms_psbt_report.specs.declared.words.Words.{Words}
use Rattle.ms_psbt_report.specs.declared.words.Words.TheVariants as words
use Rattle.ms_psbt_report.specs.Scaffolding.Tables.{IsTable}

-- a hash, or no byte
abbrev pub bytes_in : Option Bytes → Bytes
bytes_in hash = unwrap_or hash []

-- each signature is told by its word
abbrev pub EachIsTold : (is_known : Bool) → Spend → Type 0
EachIsTold is_known spend = (pair : Bytes × Bytes) → told_word is_known spend pair ≡ Some (word_of spend pair)

-- so an input's signatures are judged
abbrev pub AreWords : (is_known : Bool) → Spend → Words → Type 0
AreWords is_known spend words.Untold = (pair : Bytes × Bytes) → told_word is_known spend pair ≡ None
AreWords is_known spend (words.Judged judgements) =
    (judgements.now ≡ map (word_of spend) (signatures_in spend.fields)) × EachIsTold is_known spend
AreWords is_known spend (words.ByHash table) = IsTable spend table.now × EachIsTold is_known spend
