-- The rest of the path leads from here to the same node.
use Rattle.std.proofs.Common.{◌≡◌, drop}
use Rattle.def_derive.specs.Child.{descendant}
use Rattle.ms_point.specs.Standing.{IsAffine}
use Rattle.ms_derive.specs.Nodes.{node_at}
use Rattle.ms_derive.proofs.steps.descendant.Given as goal

abbrev pub invariant-loop-number : goal.invariant-loop-number
invariant-loop-number l = record {
  path : descendant (drop l.number-index l.numbers) (node_at l.node) ≡ descendant l.numbers (node_at l.fn.first);
  affine : IsAffine l.node.point;
}
