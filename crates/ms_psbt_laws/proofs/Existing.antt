-- There is an answer.
use Rattle.std.proofs.Common.{◌≡◌, Option, Some, None, Result, Ok, Err, refl}
use Rattle.def_script.specs.Bytes.{Bytes, IsBytes}
use Rattle.def_combine.specs.Combine.{combined_of}
use Rattle.def_psbt.specs.declared.Refusal.{Refusal}
use Rattle.def_psbt.specs.Map.{Psbt}
use Rattle.def_psbt.specs.Source.{psbt_of}
use Rattle.def_psbt_answer.specs.declared.words.Command.{Command}
use Rattle.def_psbt_answer.specs.declared.words.Request.{Request}
use Rattle.def_psbt_answer.specs.declared.words.Request.TheVariants as request
use Rattle.def_psbt_answer.specs.Words.{request_of}
use Rattle.def_psbt_answer.specs.declared.words.Form.{Form}
use Rattle.def_psbt_answer.specs.Reply.{Reply, usage_reply, refusal_reply, form_of, command_reply, combine_reply}
use Rattle.def_psbt_answer.specs.Answer.{verification_of, RepliesToSource, RepliesToWords}
use Rattle.ms_psbt_answer_laws.proofs.Answered.{inputs_found, are_inputs}
use Rattle.ms_given_laws.specs.Given.{EachHasKeys}
use Rattle.ms_psbt_laws.specs.Existence.{EachHasAnswer, EachIsRead}

pub each_is_read : EachHasKeys → EachIsRead
each_is_read law source psbt fits e verification = (inputs_found verification psbt, are_inputs verification psbt (law source psbt fits e verification))

source_reply : EachHasKeys → (command : Command) (form : Form) (source : Bytes) → IsBytes source → (o : Result Psbt Refusal) → psbt_of source ≡ o
    → (r : Reply) × RepliesToSource command form o r
source_reply law command form source fits (Ok psbt) e =
    let inputs = each_is_read law source psbt fits e (verification_of command) in
    (command_reply command form psbt inputs.0, (inputs.0, inputs.1, refl))
source_reply law command form source fits (Err refusal) e = (refusal_reply refusal, refl)

words_reply : EachHasKeys → (request : Option Request) (source : Bytes) → IsBytes source → (r : Reply) × RepliesToWords request source r
words_reply law None source fits = (usage_reply, refl)
words_reply law (Some request.Combine) source fits = (combine_reply (combined_of source), refl)
words_reply law (Some (request.One command)) source fits = source_reply law command (form_of source) source fits (psbt_of source) refl

pub each_has_answer : EachHasKeys → EachHasAnswer
each_has_answer law words source fits =
    let r = words_reply law (request_of words) source fits in
    (r.0.status, r.0.report, record { replies = r.1 })
