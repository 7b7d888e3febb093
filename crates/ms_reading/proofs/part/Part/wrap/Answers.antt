use Rattle.std.proofs.Common.{◌+◌, arith}
use Rattle.def_tree.specs.Tree as tree
use Rattle.ms_tree.specs.Shape.{shape}
use Rattle.ms_reading.proofs.Fits.{fitting_none, fitting_some}
use Rattle.ms_reading.proofs.part.Part.wrap.Goals as goal

pub returns-then-not-is_small : goal.returns-then-not-is_small
returns-then-not-is_small c =
    let deep = c.args.self.deep in
    let large = c.args.self.large in
    fitting_none (tree.wrap c.args.wrapper (shape c.args.self.tree)) (c.args.self.depth + 1) (c.args.self.measure + 1) c.is_small.result (omega (arith, deep))
    (omega (arith, large)) c.is_small.ensures c.if-not-is_small.true

pub returns : goal.returns
returns c =
    let deep = c.args.self.deep in
    let large = c.args.self.large in
    fitting_some (tree.wrap c.args.wrapper (shape c.args.self.tree)) (shape c.in_ok-tree.tree) (c.args.self.depth + 1)
    (c.args.self.measure + 1) c.is_small.result (omega (arith, deep))
    (omega (arith, large)) c.is_small.ensures c.if-not-is_small.false c.in_ok-tree.ensures.tree
