use Rattle.std.proofs.Common.{sym, ◌∙◌}
use Rattle.ms_frame.proofs.FrameLemmas.{whole_report}
use Rattle.def_answer.specs.declared.status.Status.TheVariants as status
use Rattle.def_answer.specs.Answer.{Answer}
use Rattle.def_answer.specs.Sources.{ReadsSource}
use Rattle.msat_cli.specs.Ends.{TakesMemory}
use Rattle.msat_lines.proofs.answering.MsatOfWords.is_whole.Goals as goal

pub returns-in_default : goal.returns-in_default
returns-in_default c = λ yes call is promises.
    whole_report Answer status.ReadFault status.WriteFault status.Memory ReadsSource TakesMemory call
    (λ e. c.in_default.not-ReadFault (sym is ∙ e)) (λ e. c.in_default.not-WriteFault (sym is ∙ e)) (λ e. c.in_default.not-Memory (sym is ∙ e)) promises.end
