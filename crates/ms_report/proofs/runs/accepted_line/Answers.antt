use Rattle.std.proofs.Common.{◌≡◌, append_assoc}
use Rattle.std.proofs.lemmas.Result.{IfOk-weaker}
use Rattle.std.specs.String.{string_bytes}
use Rattle.def_answer.specs.Run.{accepted_line}
use Rattle.ms_report.proofs.runs.accepted_line.Goals as goal

pub returns : goal.returns
returns c = IfOk-weaker c.format.result _ (λ line. string_bytes line ≡ accepted_line c.args.ops c.args.peak) (λ s e. simp append_assoc e) c.format.ensures.ok
