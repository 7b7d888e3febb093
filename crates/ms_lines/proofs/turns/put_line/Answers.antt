use Rattle.std.proofs.Common.{[], ◌++◌, ◌<◌, length, None, length-append, sym, subst, arith}
use Rattle.def_lines.specs.declared.LineFault.TheVariants as fault
use Rattle.def_lines.specs.Question.{MOST_LINE}
use Rattle.def_lines.specs.Answer.{answer_line, fault_line, REFUSED}
use Rattle.ms_lines.specs.declared.turns.Keeping.{Keeping}
use Rattle.ms_lines.specs.Starts.{beginning}
use Rattle.ms_lines.specs.Turns.{Beginning, IsOf}
use Rattle.ms_lines.proofs.AskedLemmas.{too_long_line}
use Rattle.ms_lines.proofs.turns.put_line.Goals as goal

pub returns-in-TooLong : goal.returns-in-TooLong
returns-in-TooLong g c =
    λ begun is.
    let over : MOST_LINE < length begun =
    subst (λ (k : Keeping). IsOf (beginning k c.start.inside.bytes.items) begun) c.in-TooLong.is
    (subst (λ (b : Beginning). IsOf b begun) (sym c.start.view_is) is) in (
      answer_line None REFUSED (fault_line fault.TooLong),
      too_long_line g.P.Program.answers (begun ++ []) (omega (arith, over, length-append begun [])),
      c.put_too_long.ensures,
    )
