-- The reply to a source that gives a PSBT.
use Rattle.std.proofs.Common.{◌≡◌, List, Result, Ok, sym, ap, subst, ◌∙◌}
use Rattle.def_script.specs.Bytes.{Bytes, IsBytes}
use Rattle.def_psbt.specs.declared.Refusal.{Refusal}
use Rattle.def_psbt.specs.Map.{Psbt}
use Rattle.def_psbt.specs.Reading.{◌>>=◌, read_psbt}
use Rattle.def_psbt.specs.Source.{psbt_bytes, psbt_of}
use Rattle.def_spend.specs.Reading.{Input, AreInputs}
use Rattle.def_psbt_answer.specs.declared.words.Command.{Command}
use Rattle.def_psbt_answer.specs.declared.words.Form.{Form}
use Rattle.def_psbt_answer.specs.Answer.{verification_of, RepliesToSource}
use Rattle.def_psbt_answer.specs.Reply.{Reply, command_reply}
use Rattle.ms_psbt_answer_laws.proofs.Answered.{inputs_found, are_inputs}
use Rattle.ms_given_laws.specs.Given.{EachHasKeys}

pub given_psbt : (source bytes : Bytes) (psbt : Psbt) → psbt_bytes source ≡ Ok bytes → read_psbt bytes ≡ Ok psbt → psbt_of source ≡ Ok psbt
unfolding psbt_of
given_psbt source bytes psbt e f = ap (λ (r : Result Bytes Refusal). r >>= read_psbt) e ∙ f

-- each input of it has a reading
pub replied_to : EachHasKeys → (command : Command) (form : Form) (source : Bytes) (psbt : Psbt) (r : Reply) → IsBytes source → psbt_of source ≡ Ok psbt
    → ((inputs : List Input) → AreInputs (verification_of command) psbt inputs → r ≡ command_reply command form psbt inputs) → RepliesToSource command form (psbt_of source) r
replied_to keys command form source psbt r bytes given h =
    let counted = verification_of command in
    let are = are_inputs counted psbt (keys source psbt bytes given counted) in
    subst (λ (o : Result Psbt Refusal). RepliesToSource command form o r) (sym given) (inputs_found counted psbt, are, h (inputs_found counted psbt) are)
