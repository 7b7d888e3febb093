-- What `msat-psbt` replies to each command: a status and a report.
use Rattle.std.specs.Prelude.{◌||◌, not, Bool, List, [], ◌∷◌, find, if◌then◌else◌, Option, Some, None, Result, Ok, Err}
use Rattle.std.specs.List.{list_all}
use Rattle.hex.specs.Hex.{encode_lower}
use Rattle.def_script.specs.Bytes.{Bytes}
use Rattle.def_psbt.specs.declared.Refusal.{Refusal}
use Rattle.def_combine.specs.declared.CombineRefusal.{CombineRefusal}
use Rattle.def_psbt.specs.Map.{Psbt, psbt_text}
use Rattle.def_psbt.specs.Source.{has_magic}
use Rattle.def_spend.specs.Reading.{Input}
use Rattle.def_spend.specs.States.{state_of, is_final, is_ready}
use Rattle.def_spend.specs.Finalized.{network_text}
use Rattle.def_verify.specs.Verdict.{verdict_of, is_valid}
use Rattle.def_answer.specs.Lines.{line}
use Rattle.def_answer.specs.Reply.{usage_line}
use Rattle.def_psbt_answer.specs.declared.status.Status.{Status}
use Rattle.def_psbt_answer.specs.declared.status.Status.TheVariants as status
use Rattle.def_psbt_answer.specs.declared.words.Command.{Command}
use Rattle.def_psbt_answer.specs.declared.words.Command.TheVariants as command
use Rattle.def_psbt_answer.specs.declared.words.Form.{Form}
use Rattle.def_psbt_answer.specs.declared.words.Form.TheVariants as form
use Rattle.def_psbt_answer.specs.Lines.{refusal_line, combine_refusal_line, not_final_line}
use Rattle.def_psbt_answer.specs.Report.{inspect_report, hashes_report, finalize_report, in_form}
use Rattle.def_psbt_answer.specs.Verified.{verify_report}

pub record Reply : Type 0 where
  pub status : Status
  pub report : Bytes

abbrev pub reply : Status → (report : Bytes) → Reply
reply status report = record { status = status; report = report }

abbrev pub usage_reply : Reply
usage_reply = reply status.Usage usage_line

abbrev pub refusal_reply : Refusal → Reply
refusal_reply refusal = reply status.Refused (refusal_line refusal)

-- an input is Final or Ready
abbrev pub is_settled : Input → Bool
is_settled input = is_final (state_of input) || is_ready (state_of input)

abbrev pub settled_status : List Input → Status
settled_status inputs = if list_all is_settled inputs then status.Done else status.Open

-- the form of a source
abbrev pub form_of : (source : Bytes) → Form
form_of source = if has_magic source then form.Bytes else form.Base64

-- an input that isn't Final, if there is one
abbrev pub first_open : List Input → Option Input
first_open = find (λ input. not (is_final (state_of input)))

-- the digits of the transaction, where each input is Final and there is one
abbrev pub extract_by : Option Input → Psbt → Reply
extract_by (Some input) psbt = reply status.Open (not_final_line input.spend.number)
extract_by None psbt = reply status.Done (line (encode_lower (network_text psbt)))

abbrev pub extract_reply : Psbt → List Input → Reply
extract_reply psbt [] = reply status.Open (not_final_line 0)
extract_reply psbt (input ∷ inputs) = extract_by (first_open (input ∷ inputs)) psbt

-- each input is valid, or some isn't
abbrev pub verify_status : List Input → Status
verify_status inputs = if list_all (λ input. is_valid (verdict_of input)) inputs then status.Done else status.Open

abbrev pub command_reply : Command → Form → Psbt → List Input → Reply
command_reply (command.Finalize verification) form psbt inputs = reply (settled_status inputs) (finalize_report form psbt inputs)
command_reply (command.Inspect verification) form psbt inputs = reply (settled_status inputs) (inspect_report psbt.transaction inputs)
command_reply command.Extract form psbt inputs = extract_reply psbt inputs
command_reply (command.Hashes verification) form psbt inputs = reply status.Done (hashes_report inputs)
command_reply command.Verify form psbt inputs = reply (verify_status inputs) (verify_report inputs)

-- the PSBT that several give together, as base64, or why nothing is combined
abbrev pub combine_reply : Result Psbt CombineRefusal → Reply
combine_reply (Ok whole) = reply status.Done (in_form form.Base64 (psbt_text whole.global whole.inputs whole.outputs))
combine_reply (Err refusal) = reply status.Refused (combine_refusal_line refusal)
