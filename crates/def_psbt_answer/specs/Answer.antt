-- The answer of `msat-psbt`: for each list of words and each content of the source a status and a report.
use Rattle.std.specs.Prelude.{◌≡◌, List, Option, Some, None, Result, Ok, Err}
use Rattle.def_script.specs.Bytes.{Bytes}
use Rattle.def_combine.specs.Combine.{combined_of}
use Rattle.def_psbt.specs.declared.Refusal.{Refusal}
use Rattle.def_psbt.specs.Map.{Psbt}
use Rattle.def_psbt.specs.Source.{psbt_of}
use Rattle.def_spend.specs.declared.Verification.{Verification}
use Rattle.def_spend.specs.declared.Verification.TheVariants.{Verified, Unverified}
use Rattle.def_spend.specs.Reading.{Input, AreInputs}
use Rattle.def_psbt_answer.specs.declared.status.Status.{Status}
use Rattle.def_psbt_answer.specs.declared.words.Command.{Command}
use Rattle.def_psbt_answer.specs.declared.words.Command.TheVariants as command
use Rattle.def_psbt_answer.specs.declared.words.Request.{Request}
use Rattle.def_psbt_answer.specs.declared.words.Request.TheVariants as request
use Rattle.def_psbt_answer.specs.Words.{request_of}
use Rattle.def_psbt_answer.specs.declared.words.Form.{Form}
use Rattle.def_psbt_answer.specs.Reply.{Reply, reply, usage_reply, refusal_reply, form_of, command_reply, combine_reply}

-- which signatures count: `extract` looks at none, and `verify` says of an open input what `inspect` says without the option
abbrev pub verification_of : Command → Verification
verification_of (command.Finalize verification) = verification
verification_of (command.Inspect verification) = verification
verification_of command.Extract = Unverified
verification_of (command.Hashes verification) = verification
verification_of command.Verify = Verified

-- the reply to a PSBT that came in a form, by its inputs, each read
abbrev pub RepliesToPsbt : Command → Form → Psbt → Reply → Type 0
RepliesToPsbt command form psbt r =
    (inputs : List Input) × AreInputs (verification_of command) psbt inputs × (r ≡ command_reply command form psbt inputs)

-- the reply to what a source gives
abbrev pub RepliesToSource : Command → Form → Result Psbt Refusal → Reply → Type 0
RepliesToSource command form (Ok psbt) r = RepliesToPsbt command form psbt r
RepliesToSource command form (Err refusal) r = r ≡ refusal_reply refusal

-- the reply to what is asked
abbrev pub RepliesToRequest : Request → (source : Bytes) → Reply → Type 0
RepliesToRequest (request.One command) source r = RepliesToSource command (form_of source) (psbt_of source) r
RepliesToRequest request.Combine source r = r ≡ combine_reply (combined_of source)

-- the reply to words: to what they ask, or where they ask nothing
abbrev pub RepliesToWords : Option Request → (source : Bytes) → Reply → Type 0
RepliesToWords (Some request) source r = RepliesToRequest request source r
RepliesToWords None source r = r ≡ usage_reply

-- the words and the source have this answer
pub record Answer (words : List Bytes) (source : Bytes) (status : Status) (report : Bytes) : Type 0 where
  pub replies : RepliesToWords (request_of words) source (reply status report)
