use Rattle.std.proofs.Common.{◌∙◌}
use Rattle.def_tree.specs.Nodes.{all_nodes}
use Rattle.def_types.specs.Correctness.{correctness}
use Rattle.ms_tree.specs.Shape.{shape}
use Rattle.ms_types.proofs.Telling.{all_told}
use Rattle.ms_types.proofs.nodes.correctness_of_nodes.Goals as goal

pub returns : goal.returns
returns c = c.in_ok-add_tree.ensures.added ∙ rw c.new-types.ensures.items (all_told correctness (all_nodes (shape c.args.tree.now)))
