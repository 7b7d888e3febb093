-- The characters of the reports of each command, and of all of `msat-psbt` to a text.
use Rattle.std.proofs.Common.{ℕ, ◌≡◌, ◌<◌, Bool, true, false, List, [], ◌∷◌, take, Option, Some, None, Result, Ok, Err, refl, sym, subst, arith, if◌then◌else◌}
use Rattle.std.specs.Prelude.{◌^◌}
use Rattle.std.proofs.lemmas.Slice.Eq.{bytes_eq-Decides}
use Rattle.hex.specs.Hex.{encode_lower}
use Rattle.base64.specs.Engines.{standard}
use Rattle.base64.specs.GeneralPurpose.{encode_of}
use Rattle.def_script.specs.Bytes.{Bytes, IsBytes}
use Rattle.def_psbt.specs.declared.Refusal.{Refusal}
use Rattle.def_psbt.specs.Map.{Psbt, magic, psbt_text}
use Rattle.def_psbt.specs.Source.{has_magic, psbt_of}
use Rattle.def_psbt.proofs.Reading.{read_is_written}
use Rattle.def_combine.specs.declared.CombineRefusal.{CombineRefusal}
use Rattle.def_combine.specs.Combine as combining
use Rattle.def_combine.specs.Combine.{Parts, parts_of, combined, combined_of}
use Rattle.def_spend.specs.Finalized.{network_text, finalized}
use Rattle.def_spend.specs.Reading.{Input, AreInputs}
use Rattle.def_psbt_answer.specs.declared.status.Status.{Status}
use Rattle.def_psbt_answer.specs.declared.status.Status.TheVariants as status
use Rattle.def_psbt_answer.specs.declared.words.Command.{Command}
use Rattle.def_psbt_answer.specs.declared.words.Command.TheVariants as command
use Rattle.def_psbt_answer.specs.declared.words.Request.{Request}
use Rattle.def_psbt_answer.specs.declared.words.Request.TheVariants as request
use Rattle.def_psbt_answer.specs.declared.words.Form.TheVariants as form
use Rattle.def_psbt_answer.specs.Words.{request_of}
use Rattle.def_psbt_answer.specs.Status.{code_of}
use Rattle.def_psbt_answer.specs.Report.{in_form, finalize_report}
use Rattle.def_psbt_answer.specs.Reply.{Reply, reply, usage_reply, refusal_reply, form_of, first_open, extract_by, extract_reply, command_reply, combine_reply}
use Rattle.def_psbt_answer.specs.Answer.{verification_of, RepliesToSource, RepliesToRequest, RepliesToWords}
use Rattle.def_lines.specs.Laws.{ReportsTextsPlainly}
use Rattle.def_lines.proofs.Lists.{Every, from_all, every_taken, every_weaker}
use Rattle.def_lines.proofs.Texts.{IsLow}
use Rattle.ms_line_laws.proofs.Plainly.{AreReported, hex_reported}
use Rattle.ms_line_laws.proofs.Reported.{line_reported}
use Rattle.ms_given_laws.specs.Given.{EachIsSound, IsWhole}
use Rattle.ms_given_laws.proofs.Wholes.{each_is_sound}
use Rattle.ms_combine_laws.proofs.Given.{are_combined}
use Rattle.ms_psbt_laws.proofs.Wholes.{whole_again, text_fits}
use Rattle.ms_psbt_line_laws.specs.Psbt.{psbt_answers}
use Rattle.ms_psbt_line_laws.proofs.Transactions.{transaction_is}
use Rattle.ms_psbt_line_laws.proofs.Spends.{inputs_are, network_text_is}
use Rattle.ms_psbt_line_laws.proofs.Texts.{base64_reported}
use Rattle.ms_psbt_line_laws.proofs.Reports.{as_bytes, refusal_reported, combine_refusal_reported, not_final_reported, inspect_reported, hashes_reported, verify_reported}

abbrev IsPlain : Reply → Type 0
IsPlain r = AreReported r.report

replied : (r s : Reply) → r ≡ s → IsPlain s → IsPlain r
replied r s same h = subst IsPlain (sym same) h

-- ---- the source

low_is_byte : (byte : ℕ) → IsLow byte → byte < 256
low_is_byte byte low = omega (arith, low)

source_is : (source : Bytes) → Every IsLow source → IsBytes source
source_is source h = as_bytes source (every_weaker IsLow (λ b. b < 256) low_is_byte source h)

-- it isn't a PSBT in bytes
no_magic : (source : Bytes) → Every IsLow source → has_magic source ≡ false
no_magic source h = by (has_magic source) refl
  where
    high : Every IsLow magic → true ≡ false
    high m = absurd (let no : 0xff < 0xf5 = m.1.1.1.1.0 in omega (arith, no))

    by : (b : Bool) → has_magic source ≡ b → b ≡ false
    by true e = high (subst (Every IsLow) ((bytes_eq-Decides (take 5 source) magic).0 e) (every_taken IsLow 5 source h))
    by false e = refl

each_sound : EachIsSound
each_sound = each_is_sound read_is_written

-- ---- what is written

-- base64 of what has nothing wrong
written_plain : (psbt : Psbt) → IsWhole psbt → AreReported (in_form form.Base64 (psbt_text psbt.global psbt.inputs psbt.outputs))
written_plain psbt whole =
    line_reported (encode_of standard (psbt_text psbt.global psbt.inputs psbt.outputs)) (base64_reported (psbt_text psbt.global psbt.inputs psbt.outputs) (text_fits psbt whole))

finalize_plain : (psbt : Psbt) (inputs : List Input) → IsWhole (finalized psbt inputs) → AreReported (finalize_report form.Base64 psbt inputs)
unfolding finalize_report
finalize_plain psbt inputs whole = written_plain (finalized psbt inputs) whole

by_open : (found : Option Input) (psbt : Psbt) → IsWhole psbt → IsPlain (extract_by found psbt)
by_open (Some input) psbt whole = not_final_reported input.spend.number
by_open None psbt whole = line_reported (encode_lower (network_text psbt)) (hex_reported (network_text psbt) (network_text_is psbt whole))

extract_plain : (psbt : Psbt) (inputs : List Input) → IsWhole psbt → IsPlain (extract_reply psbt inputs)
extract_plain psbt [] whole = not_final_reported 0
extract_plain psbt (input ∷ inputs) whole = by_open (first_open (input ∷ inputs)) psbt whole

command_plain : (c : Command) (source : Bytes) (psbt : Psbt) (inputs : List Input) → IsBytes source → psbt_of source ≡ Ok psbt
    → AreInputs (verification_of c) psbt inputs → IsPlain (command_reply c form.Base64 psbt inputs)
command_plain (command.Finalize verification) source psbt inputs fits given are =
    finalize_plain psbt inputs (whole_again each_sound source psbt fits given verification inputs are)
command_plain (command.Inspect verification) source psbt inputs fits given are =
    let whole = each_sound source psbt fits given in
    inspect_reported psbt.transaction inputs (transaction_is psbt whole) (inputs_are verification psbt inputs whole are)
command_plain command.Extract source psbt inputs fits given are = extract_plain psbt inputs (each_sound source psbt fits given)
command_plain (command.Hashes verification) source psbt inputs fits given are =
    hashes_reported inputs (inputs_are verification psbt inputs (each_sound source psbt fits given) are)
command_plain command.Verify source psbt inputs fits given are =
    verify_reported inputs (inputs_are (verification_of command.Verify) psbt inputs (each_sound source psbt fits given) are)

source_plain : (c : Command) (source : Bytes) (given : Result Psbt Refusal) (r : Reply) → IsBytes source → psbt_of source ≡ given
    → RepliesToSource c form.Base64 given r → IsPlain r
source_plain c source (Ok psbt) r fits given (inputs, are, same) = replied r _ same (command_plain c source psbt inputs fits given are)
source_plain c source (Err refusal) r fits given same = replied r (refusal_reply refusal) same (refusal_reported refusal)

-- ---- combine

parts_plain : (source : Bytes) (parts : Parts) (whole : Result Psbt CombineRefusal) → IsBytes source → parts_of source ≡ Ok parts → combined parts ≡ whole
    → IsPlain (combine_reply whole)
parts_plain source parts (Ok whole) fits given is =
    let it = are_combined each_sound source parts whole fits given is in written_plain whole it.is_whole
parts_plain source parts (Err refusal) fits given is = combine_refusal_reported refusal

combine_plain : (source : Bytes) → IsBytes source → IsPlain (combine_reply (combined_of source))
unfolding combined_of
combine_plain source fits = by (parts_of source) refl
  where
    by : (r : Result Parts CombineRefusal) → parts_of source ≡ r → IsPlain (combine_reply (combining.◌>>=◌ r combined))
    by (Ok parts) given = parts_plain source parts (combined parts) fits given refl
    by (Err refusal) given = combine_refusal_reported refusal

-- ---- words

form_is : (source : Bytes) → Every IsLow source → form_of source ≡ form.Base64
form_is source h = by (has_magic source) (no_magic source h)
  where
    by : (b : Bool) → b ≡ false → (if b then form.Bytes else form.Base64) ≡ form.Base64
    by true e = absurd (let no : true ≡ false = e in cc)
    by false e = refl

request_plain : (q : Request) (source : Bytes) (r : Reply) → Every IsLow source → RepliesToRequest q source r → IsPlain r
request_plain (request.One c) source r h replies =
    source_plain c source (psbt_of source) r (source_is source h) refl (subst (λ f. RepliesToSource c f (psbt_of source) r) (form_is source h) replies)
request_plain request.Combine source r h same = replied r (combine_reply (combined_of source)) same (combine_plain source (source_is source h))

words_plain : (q : Option Request) (source : Bytes) (r : Reply) → Every IsLow source → RepliesToWords q source r → IsPlain r
words_plain (Some q) source r h replies = request_plain q source r h replies
words_plain None source r h same = replied r usage_reply same refl

small : (s : Status) → code_of s < 2 ^ 64
small status.Done = omega arith
small status.Usage = omega arith
small status.Refused = omega arith
small status.Open = omega arith
small status.ReadFault = omega arith
small status.WriteFault = omega arith
small status.Memory = omega arith

pub psbt_reports_texts_plainly : ReportsTextsPlainly psbt_answers
psbt_reports_texts_plainly words source code report low (status, answer, is) = (
  subst (λ c. c < 2 ^ 64) (sym is) (small status),
  words_plain (request_of words) source (reply status report) (from_all IsLow source low) answer.replies,
)
