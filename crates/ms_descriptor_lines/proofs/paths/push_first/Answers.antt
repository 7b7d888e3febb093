use Rattle.ms_descriptor.specs.Expressions.{expression_at}
use Rattle.ms_descriptor_lines.proofs.KeyLines.{no_keys}
use Rattle.ms_descriptor_lines.proofs.paths.push_first.Goals as goal

pub returns-in_default : goal.returns-in_default
returns-in_default c more =
    no_keys c.args.branch c.args.index (expression_at c.args.expression.now) c.args.keys.now c.args.report.now.items more c.in_default.ensures.cases
