use Rattle.std.proofs.Common.{arith}
use Rattle.ms_tree.specs.Shape.{shape}
use Rattle.ms_work.proofs.Accepted.{typed_of}
use Rattle.ms_sane.proofs.resources.most_taken.Goals as goal

pub most-requires : goal.most-requires
most-requires c = record {
  in_range = c.requires.in_range;
  typed = typed_of (shape c.args.tree.now) c.requires.typed;
  room = omega (arith, c.deref_mut.ensures.len, c.requires.room);
}
