use Rattle.std.proofs.Common.{◌≡◌, append_assoc}
use Rattle.std.proofs.lemmas.Result.{IfOk-weaker}
use Rattle.std.specs.String.{string_bytes}
use Rattle.def_machine.specs.Run.{accepted}
use Rattle.def_answer.specs.Satisfy.{replay_line}
use Rattle.ms_report.proofs.satisfactions.replay_line.Goals as goal

pub returns : goal.returns
returns c =
    IfOk-weaker c.format.result _ (λ line. string_bytes line ≡ replay_line c.args.stack.now (accepted c.args.run.now.ops c.args.run.now.peak c.args.run.now.checks))
    (λ s e. simp append_assoc (rw (c.len-items.ensures, c.weight-weight.ensures) at e)) c.format.ensures.ok
