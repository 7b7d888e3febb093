use Rattle.std.proofs.Common.{◌∙◌, arith, ap}
use Rattle.std.specs.Result.{result_err}
use Rattle.ms_tree.specs.Shape.{shape}
use Rattle.ms_tree.proofs.Parts.{nodes-le-measure}
use Rattle.ms_mixing.proofs.Mixed.{refusal_is_mix, mix_below}
use Rattle.ms_mixing.proofs.mixing.mix.Goals as goal

pub kinds_from-requires-clause-room : goal.kinds_from-requires-clause-room
kinds_from-requires-clause-room c = omega (arith, c.requires.measure, nodes-le-measure (shape c.args.tree.now))

pub returns-clause-first : goal.returns-clause-first
returns-clause-first c = c.err.ensures.value ∙ ap result_err c.kinds_from.ensures.kinds ∙ refusal_is_mix (shape c.args.tree.now)

pub returns-clause-node : goal.returns-clause-node
returns-clause-node c =
    mix_below (shape c.args.tree.now) c.err.result (c.err.ensures.value ∙ ap result_err c.kinds_from.ensures.kinds ∙ refusal_is_mix (shape c.args.tree.now))
