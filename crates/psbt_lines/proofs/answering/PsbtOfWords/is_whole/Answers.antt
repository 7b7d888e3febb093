use Rattle.std.proofs.Common.{◌≢◌, sym, ◌∙◌, None}
use Rattle.ms_frame.proofs.FrameLemmas.{whole_report}
use Rattle.def_psbt_answer.specs.declared.status.Status.TheVariants as status
use Rattle.def_psbt_answer.specs.Answer.{Answer}
use Rattle.def_psbt_answer.specs.Words.{request_of}
use Rattle.psbt_lines.proofs.answering.PsbtOfWords.is_whole.Goals as goal

pub returns-in_default : goal.returns-in_default
returns-in_default c = λ yes call is promises.
    whole_report Answer status.ReadFault status.WriteFault status.Memory (λ words. request_of words ≢ None) (λ words. request_of words ≢ None) call
    (λ e. c.in_default.not-ReadFault (sym is ∙ e)) (λ e. c.in_default.not-WriteFault (sym is ∙ e)) (λ e. c.in_default.not-Memory (sym is ∙ e)) promises.end
