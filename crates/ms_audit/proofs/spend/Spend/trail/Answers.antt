use Rattle.std.proofs.Common.{arith}
use Rattle.ms_tree.specs.Shape.{shape}
use Rattle.ms_tree.proofs.Parts.{nodes-le-measure}
use Rattle.ms_audit.proofs.spend.Spend.trail.Goals as goal

pub walk-requires-clause-ready : goal.walk-requires-clause-ready
walk-requires-clause-ready g c = record {
  in_range = c.requires.in_range;
  room = omega (arith, c.requires.in_range.measure, nodes-le-measure (shape c.args.tree.now));
  left = omega (arith, c.len.ensures);
}
