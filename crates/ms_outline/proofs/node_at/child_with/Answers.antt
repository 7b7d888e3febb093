use Rattle.std.proofs.Common.{◌-◌, ap, arith}
use Rattle.def_tree.specs.Size.{nodes}
use Rattle.ms_tree.specs.Shape.{shape, shapes}
use Rattle.ms_tree.proofs.Parts.{nodes-le-measure}
use Rattle.ms_outline.proofs.Below.{in_x, in_y, in_z, in_first, in_second, in_wrapped, in_threshold}
use Rattle.ms_outline.proofs.node_at.child_with.Goals as goal

pub overflow_add-third : goal.overflow_add-third
overflow_add-third c =
    omega (arith, ap nodes c.in-AndOr.ensures.shows, nodes-le-measure (shape c.args.tree.now), c.requires.range.measure, c.nodes-second.ensures, c.nodes.ensures)

pub returns-then-number-second : goal.returns-then-number-second
returns-then-number-second c =
    in_x _ _ _ _ c.args.number c.in-AndOr.ensures.shows c.in-AndOr.ensures.in_range.0 (omega (arith, c.if-number-second.true, c.nodes-second.ensures))

pub returns-then-number-third : goal.returns-then-number-third
returns-then-number-third c =
    in_y _ _ _ _ c.args.number _ c.in-AndOr.ensures.shows c.in-AndOr.ensures.in_range.1 (omega (arith, c.if-number-second.false, c.nodes-second.ensures))
    (ap (λ n. c.args.number - n) c.nodes-second.ensures)
    (omega (arith, c.if-number-second.false, c.if-number-third.true, c.nodes-second.ensures, c.nodes.ensures))

pub returns-else-number-third : goal.returns-else-number-third
returns-else-number-third c =
    in_z _ _ _ _ c.args.number _ c.in-AndOr.ensures.shows c.in-AndOr.ensures.in_range.2
    (omega (arith, c.if-number-third.false, c.nodes-second.ensures, c.nodes.ensures))
    (omega (arith, c.nodes-second.ensures, c.nodes.ensures)) c.requires.node

pub returns-then-number-second-2 : goal.returns-then-number-second-2
returns-then-number-second-2 c =
    in_first _ _ _ _ c.args.number c.in-Two.ensures.shows c.in-Two.ensures.in_range.0 (omega (arith, c.if-number-second-2.true, c.nodes-second-in-Two.ensures))

pub returns-else-number-second-2 : goal.returns-else-number-second-2
returns-else-number-second-2 c =
    in_second _ _ _ _ c.args.number _ c.in-Two.ensures.shows c.in-Two.ensures.in_range.1
    (omega (arith, c.if-number-second-2.false, c.nodes-second-in-Two.ensures)) (ap (λ n. c.args.number - n) c.nodes-second-in-Two.ensures) c.requires.node

pub returns-in-Thresh : goal.returns-in-Thresh
returns-in-Thresh c = in_threshold _ (shapes c.in-Thresh.children.now) _ c.args.number _ _ c.in-Thresh.ensures.shows c.requires.node c.among.ensures

pub returns-in-Wrap : goal.returns-in-Wrap
returns-in-Wrap c = in_wrapped _ _ _ c.args.number c.in-Wrap.ensures.shows c.in-Wrap.ensures.in_range c.requires.node
