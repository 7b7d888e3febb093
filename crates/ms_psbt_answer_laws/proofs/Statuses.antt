-- The statuses of answers are none of the faults.
use Rattle.std.proofs.Common.{Bool, true, false, Some, None, Ok, Err, sym, subst, List, [], ◌∷◌, if◌then◌else◌}
use Rattle.std.specs.Prelude.{Option, Result, ⊤}
use Rattle.std.specs.List.{list_all}
use Rattle.def_script.specs.Bytes.{Bytes}
use Rattle.def_combine.specs.declared.CombineRefusal.{CombineRefusal}
use Rattle.def_combine.specs.Combine.{combined_of}
use Rattle.def_psbt.specs.declared.Refusal.{Refusal}
use Rattle.def_psbt.specs.Map.{Psbt}
use Rattle.def_psbt.specs.Source.{psbt_of}
use Rattle.def_spend.specs.Reading.{Input}
use Rattle.def_psbt_answer.specs.declared.status.Status.{Status}
use Rattle.def_psbt_answer.specs.declared.status.Status.TheVariants as status
use Rattle.def_psbt_answer.specs.declared.words.Command.{Command}
use Rattle.def_psbt_answer.specs.declared.words.Command.TheVariants as command
use Rattle.def_psbt_answer.specs.declared.words.Form.{Form}
use Rattle.def_psbt_answer.specs.declared.words.Request.{Request}
use Rattle.def_psbt_answer.specs.declared.words.Request.TheVariants as request
use Rattle.def_psbt_answer.specs.Words.{request_of}
use Rattle.def_psbt_answer.specs.Reply.{Reply, reply, form_of, is_settled, first_open, extract_by, extract_reply, command_reply, combine_reply}
use Rattle.def_psbt_answer.specs.Answer.{RepliesToSource, RepliesToWords, Answer}

abbrev pub IsAnswered : Status → Type 0
IsAnswered status.Done = ⊤
IsAnswered status.Usage = ⊤
IsAnswered status.Refused = ⊤
IsAnswered status.Open = ⊤
IsAnswered status.ReadFault = ⊥
IsAnswered status.WriteFault = ⊥
IsAnswered status.Memory = ⊥

settled_answered : (b : Bool) → IsAnswered (if b then status.Done else status.Open)
settled_answered true = tt
settled_answered false = tt

extract_answered : (psbt : Psbt) (o : Option Input) → IsAnswered (extract_by o psbt).status
extract_answered psbt (Some input) = tt
extract_answered psbt None = tt

extract_all_answered : (psbt : Psbt) (inputs : List Input) → IsAnswered (extract_reply psbt inputs).status
extract_all_answered psbt [] = tt
extract_all_answered psbt (input ∷ inputs) = extract_answered psbt (first_open (input ∷ inputs))

command_answered : (command : Command) (form : Form) (psbt : Psbt) (inputs : List Input) → IsAnswered (command_reply command form psbt inputs).status
command_answered (command.Finalize verification) form psbt inputs = settled_answered (list_all is_settled inputs)
command_answered (command.Inspect verification) form psbt inputs = settled_answered (list_all is_settled inputs)
command_answered command.Extract form psbt inputs = extract_all_answered psbt inputs
command_answered (command.Hashes verification) form psbt inputs = tt
command_answered command.Verify form psbt inputs = settled_answered (list_all _ inputs)

source_answered : (command : Command) (form : Form) (o : Result Psbt Refusal) (r : Reply) → RepliesToSource command form o r → IsAnswered r.status
source_answered command form (Ok psbt) r (inputs, are, is) = subst (λ (x : Reply). IsAnswered x.status) (sym is) (command_answered command form psbt inputs)
source_answered command form (Err refusal) r is = subst (λ (x : Reply). IsAnswered x.status) (sym is) tt

combine_answered : (o : Result Psbt CombineRefusal) → IsAnswered (combine_reply o).status
combine_answered (Ok whole) = tt
combine_answered (Err refusal) = tt

words_answered : (o : Option Request) (bytes : Bytes) (r : Reply) → RepliesToWords o bytes r → IsAnswered r.status
words_answered None bytes r is = subst (λ (x : Reply). IsAnswered x.status) (sym is) tt
words_answered (Some request.Combine) bytes r is = subst (λ (x : Reply). IsAnswered x.status) (sym is) (combine_answered (combined_of bytes))
words_answered (Some (request.One command)) bytes r h = source_answered command (form_of bytes) (psbt_of bytes) r h

pub answers_have_status : (words : List Bytes) (bytes : Bytes) (answer : Status) (report : Bytes) → Answer words bytes answer report → IsAnswered answer
answers_have_status words bytes answer report a = words_answered (request_of words) bytes (reply answer report) a.replies
