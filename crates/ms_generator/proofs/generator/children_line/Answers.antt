use Rattle.std.proofs.Common.{◌≡◌, append_assoc}
use Rattle.std.proofs.lemmas.Result.{IfOk-weaker}
use Rattle.std.specs.String.{string_bytes}
use Rattle.def_answer.specs.Generated.{threshold_of}
use Rattle.def_answer.specs.Gen.{children_line}
use Rattle.ms_generator.proofs.generator.children_line.Goals as goal

pub returns : goal.returns
returns c =
    IfOk-weaker c.format.result _ (λ line. string_bytes line ≡ children_line c.args.n (threshold_of c.args.n))
    (λ s e. simp append_assoc (rw c.threshold_of-threshold.ensures at e)) c.format.ensures.ok
