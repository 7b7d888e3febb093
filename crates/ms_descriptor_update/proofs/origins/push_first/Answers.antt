use Rattle.ms_descriptor.specs.Expressions.{expression_at}
use Rattle.ms_update.specs.Seen.{key_at}
use Rattle.std.proofs.Common.{map}
use Rattle.ms_descriptor_update.proofs.Keyed.{no_keys}
use Rattle.ms_descriptor_update.proofs.origins.push_first.Goals as goal

pub returns-in_default : goal.returns-in_default
returns-in_default c more =
    no_keys c.args.branch c.args.index (expression_at c.args.expression.now) c.args.keys.now (map key_at c.args.known.now.items) more c.in_default.ensures.cases
