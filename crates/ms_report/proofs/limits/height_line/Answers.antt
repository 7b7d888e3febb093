use Rattle.std.proofs.Common.{◌≡◌, append_assoc}
use Rattle.std.proofs.lemmas.Result.{IfOk-weaker}
use Rattle.std.specs.String.{string_bytes}
use Rattle.def_sane.specs.declared.Rules.TheVariants.{Consensus}
use Rattle.def_answer.specs.Lines.{limits_line_under}
use Rattle.ms_report.proofs.limits.height_line.Goals as goal

pub returns : goal.returns
returns c =
    IfOk-weaker c.format.result _ (λ text. string_bytes text ≡ limits_line_under Consensus c.args.limits c.args.height) (λ s e. simp append_assoc e) c.format.ensures.ok
