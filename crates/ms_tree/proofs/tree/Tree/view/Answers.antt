use Rattle.ms_tree.specs.Shape.{shape}
use Rattle.ms_tree.proofs.Parts.{shown_in_range}
use Rattle.ms_tree.proofs.tree.Tree.view.Goals as goal

pub returns-clause-in_range : goal.returns-clause-in_range
returns-clause-in_range c = shown_in_range c.root.result (shape c.args.self.now) c.requires c.root.ensures
