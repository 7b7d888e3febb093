use Rattle.std.proofs.Common.{◌+◌, arith}
use Rattle.def_tree.specs.Tree as tree
use Rattle.ms_tree.specs.Shape.{shape}
use Rattle.ms_reading.proofs.Fits.{fitting_none, fitting_some}
use Rattle.ms_reading.proofs.part.Part.two.Goals as goal

pub returns-then-not-is_small : goal.returns-then-not-is_small
returns-then-not-is_small c =
    let a = c.args.self.deep in
    let b = c.args.second.deep in
    let d = c.args.self.large in
    let e = c.args.second.large in
    let f = c.max-depth.ensures in
    fitting_none (tree.two c.args.kind (shape c.args.self.tree) (shape c.args.second.tree)) (c.max-depth.result + 1)
    (c.args.self.measure + c.args.second.measure + 1) c.is_small.result (omega (arith, a, b, f))
    (omega (arith, d, e)) c.is_small.ensures c.if-not-is_small.true

pub returns : goal.returns
returns c =
    let a = c.args.self.deep in
    let b = c.args.second.deep in
    let d = c.args.self.large in
    let e = c.args.second.large in
    let f = c.max-depth.ensures in
    fitting_some (tree.two c.args.kind (shape c.args.self.tree) (shape c.args.second.tree)) (shape c.in_ok-tree.tree) (c.max-depth.result + 1)
    (c.args.self.measure + c.args.second.measure + 1) c.is_small.result (omega (arith, a, b, f))
    (omega (arith, d, e)) c.is_small.ensures c.if-not-is_small.false c.in_ok-tree.ensures.tree
