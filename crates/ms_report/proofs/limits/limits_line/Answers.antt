use Rattle.std.proofs.Common.{◌≡◌, append_assoc}
use Rattle.std.proofs.lemmas.Result.{IfOk-weaker}
use Rattle.std.specs.String.{string_bytes}
use Rattle.def_answer.specs.Lines.{limits_line}
use Rattle.ms_report.proofs.limits.limits_line.Goals as goal

pub returns : goal.returns
returns c = IfOk-weaker c.format.result _ (λ text. string_bytes text ≡ limits_line c.args.limits) (λ s e. simp append_assoc e) c.format.ensures.ok
