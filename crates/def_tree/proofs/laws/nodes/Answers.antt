use Rattle.def_tree.proofs.laws.nodes.Goals as goal
use Rattle.def_tree.proofs.NodeLists.{nodes_are_all, root_is_last}

pub returns-clause-all : goal.returns-clause-all
returns-clause-all c = nodes_are_all

pub returns-clause-order : goal.returns-clause-order
returns-clause-order c = root_is_last
