-- The nodes of the tree.
use Rattle.def_tree.specs.Size.{nodes}
use Rattle.ms_tree.specs.Shape.{shape}
use Rattle.ms_outline.proofs.node_at.+node_at.Given as goal

abbrev pub decreases-node_at : goal.decreases-node_at
decreases-node_at l = nodes (shape l.tree.now)
