use Rattle.std.proofs.Common.{None, sym, subst}
use Rattle.def_lines.specs.declared.LineFault.TheVariants as fault
use Rattle.def_lines.specs.Question.{Line}
use Rattle.def_lines.specs.Answer.{answer_line, fault_line, REFUSED}
use Rattle.ms_lines.specs.Puts.{AnswersOrLacks}
use Rattle.ms_lines.proofs.AskedLemmas.{too_long_line, short_line}
use Rattle.ms_lines.proofs.answering.answer_line.Goals as goal

pub returns-then-line-gt-MOST_LINE : goal.returns-then-line-gt-MOST_LINE
returns-then-line-gt-MOST_LINE g c =
    (answer_line None REFUSED (fault_line fault.TooLong), too_long_line g.P.Program.answers c.args.line.now c.if-line-gt-MOST_LINE.true, c.put_too_long.ensures)

pub returns-in-Ok : goal.returns-in-Ok
returns-in-Ok g c =
    let put = c.answer_plain.ensures in (
      put.0,
      short_line g.P.Program.answers c.args.line.now put.0 c.if-line-gt-MOST_LINE.false
          (subst (λ (line : Line). AnswersOrLacks g.P.Program.answers line put.0) (sym c.in-Ok.ensures) put.1),
      put.2,
    )

pub returns-in-Err : goal.returns-in-Err
returns-in-Err g c =
    let put = c.answer_other.ensures in
    (put.0, short_line g.P.Program.answers c.args.line.now put.0 c.if-line-gt-MOST_LINE.false put.1, put.2)
