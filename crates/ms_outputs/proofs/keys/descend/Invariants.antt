-- The steps that are left lead from here to the same node.
use Rattle.std.proofs.Common.{◌≡◌, map, drop}
use Rattle.def_derive.specs.Child.{descendant}
use Rattle.ms_point.specs.Standing.{IsAffine}
use Rattle.ms_derive.specs.Nodes.{node_at}
use Rattle.ms_outputs.specs.Starts.{left_number}
use Rattle.ms_outputs.proofs.keys.descend.Given as goal

abbrev pub invariant-loop-step : goal.invariant-loop-step
invariant-loop-step l = record {
  path : descendant (map (left_number l.index) (drop l.step-index l.left)) (node_at l.node) ≡ descendant (map (left_number l.index) l.left) (node_at l.fn.first);
  affine : IsAffine l.node.point;
}
