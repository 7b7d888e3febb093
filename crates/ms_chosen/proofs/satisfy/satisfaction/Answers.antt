use Rattle.std.proofs.Common.{arith}
use Rattle.ms_tree.specs.Shape.{shape}
use Rattle.ms_chosen.proofs.Valid.{typed_valid}
use Rattle.ms_chosen.proofs.satisfy.satisfaction.Goals as goal

pub weigh_nodes-requires-clause-ready : goal.weigh_nodes-requires-clause-ready
weigh_nodes-requires-clause-ready c = record {
  in_range = c.requires.in_range;
  typed = typed_valid (shape c.args.tree.now) c.requires.valid;
  room = omega (arith, c.deref_mut.ensures.len, c.requires.room);
}
