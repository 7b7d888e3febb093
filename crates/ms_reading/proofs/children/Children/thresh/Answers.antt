use Rattle.std.proofs.Common.{◌∙◌, ap, arith}
use Rattle.def_tree.specs.Tree as tree
use Rattle.ms_tree.specs.Shape.{shape, shapes}
use Rattle.ms_reading.specs.Scaffolding.States.{children_of}
use Rattle.ms_reading.proofs.Fits.{fitting_too_deep, fitting_too_large, fitting_small}
use Rattle.ms_reading.proofs.children.Children.thresh.Goals as goal

pub returns-then-depth-ge-MOST_DEPTH : goal.returns-then-depth-ge-MOST_DEPTH
returns-then-depth-ge-MOST_DEPTH c = let d = c.args.self.deep in fitting_too_deep (tree.thresh c.args.k.value (children_of c.args.self)) (omega (arith, d))

pub returns-then-measure-ge-MOST_MEASURE : goal.returns-then-measure-ge-MOST_MEASURE
returns-then-measure-ge-MOST_MEASURE c = let m = c.args.self.large in fitting_too_large (tree.thresh c.args.k.value (children_of c.args.self)) (omega (arith, m))

pub returns : goal.returns
returns c =
    let d = c.args.self.deep in
    let m = c.args.self.large in
    fitting_small (tree.thresh c.args.k.value (children_of c.args.self)) (shape c.in_ok-tree.tree) (omega (arith, d)) (omega (arith, m))
    (c.in_ok-tree.ensures.tree ∙ ap (λ l. tree.thresh c.args.k.value (shapes l)) c.reverse.ensures.items)
