use Rattle.std.proofs.Common.{inl}
use Rattle.std.proofs.lemmas.Result.{IfOk-weaker}
use Rattle.msat_lines.proofs.frame.answer_whole.Goals as goal

pub returns : goal.returns
returns c =
    IfOk-weaker c.answer_in_memory.result _ _
    (λ replied answer. inl (record { others = λ asks. let yes = c.asks_lines.ensures.1 asks in let no = c.if-asks_lines.false in cc; answer = answer }))
    c.answer_in_memory.ensures
