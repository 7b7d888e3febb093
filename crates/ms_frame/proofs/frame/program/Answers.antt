use Rattle.ms_frame.proofs.frame.program.Goals as goal

pub returns-then-asks_lines-clause-lines : goal.returns-then-asks_lines-clause-lines
returns-then-asks_lines-clause-lines g c = λ asks. (c.answer_lines.result, c.status_of.ensures, c.answer_lines.ensures.ends)

pub returns-then-asks_lines-clause-others : goal.returns-then-asks_lines-clause-others
returns-then-asks_lines-clause-others g c = λ other. absurd (other (c.asks_lines.ensures.0 c.if-asks_lines.true))

pub returns-clause-lines : goal.returns-clause-lines
returns-clause-lines g c = λ asks. let yes = c.asks_lines.ensures.1 asks in let no = c.if-asks_lines.false in absurd (cc)
