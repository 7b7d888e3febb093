use Rattle.std.proofs.Common.{◌+◌, arith}
use Rattle.def_tree.specs.Tree as tree
use Rattle.ms_tree.specs.Shape.{shape}
use Rattle.ms_reading.proofs.Fits.{fitting_none, fitting_some}
use Rattle.ms_reading.proofs.part.Part.and_or.Goals as goal

pub returns-then-not-is_small : goal.returns-then-not-is_small
returns-then-not-is_small c =
    let a = c.args.self.deep in
    let b = c.args.y.deep in
    let d = c.args.z.deep in
    let e = c.args.self.large in
    let f = c.args.y.large in
    let g = c.args.z.large in
    let m = c.max.ensures in
    let n = c.max-depth.ensures in
    fitting_none (tree.and_or (shape c.args.self.tree) (shape c.args.y.tree) (shape c.args.z.tree)) (c.max-depth.result + 1)
    (c.args.self.measure + c.args.y.measure + c.args.z.measure + 1) c.is_small.result (omega (arith, a, b, d, m, n))
    (omega (arith, e, f, g)) c.is_small.ensures c.if-not-is_small.true

pub returns : goal.returns
returns c =
    let a = c.args.self.deep in
    let b = c.args.y.deep in
    let d = c.args.z.deep in
    let e = c.args.self.large in
    let f = c.args.y.large in
    let g = c.args.z.large in
    let m = c.max.ensures in
    let n = c.max-depth.ensures in
    fitting_some (tree.and_or (shape c.args.self.tree) (shape c.args.y.tree) (shape c.args.z.tree)) (shape c.in_ok-tree.tree) (c.max-depth.result + 1)
    (c.args.self.measure + c.args.y.measure + c.args.z.measure + 1) c.is_small.result (omega (arith, a, b, d, m, n))
    (omega (arith, e, f, g)) c.is_small.ensures c.if-not-is_small.false c.in_ok-tree.ensures.tree
