use Rattle.std.proofs.Common.{arith, ◌∙◌, ap}
use Rattle.ms_tree.specs.Shape.{shape}
use Rattle.ms_tree.proofs.Parts.{nodes-le-measure}
use Rattle.ms_tree.proofs.tree.Tree.nodes.Goals as goal

pub returns : goal.returns
returns c = ap (λ s. s.nodes) c.size.ensures ∙ omega (arith, c.requires.measure, nodes-le-measure (shape c.args.self.now))
