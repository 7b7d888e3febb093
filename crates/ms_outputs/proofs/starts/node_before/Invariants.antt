-- At each index the steps that are left lead from here to the same node.
use Rattle.std.proofs.Common.{◌≡◌, ℕ, length}
use Rattle.def_derive.specs.Child.{descendant}
use Rattle.ms_point.specs.Standing.{IsAffine}
use Rattle.ms_derive.specs.Nodes.{node_at}
use Rattle.ms_outputs.proofs.Finding.{numbers_of}
use Rattle.ms_outputs.proofs.starts.node_before.Given as goal

abbrev pub invariant-loop-way : goal.invariant-loop-way
invariant-loop-way l = record {
  path : (i : ℕ) → descendant (numbers_of l.branch i l.left) (node_at l.node) ≡ descendant (numbers_of l.branch i l.fn.ways) (node_at l.fn.first);
  affine : IsAffine l.node.point;
}

abbrev pub decreases-loop-way : goal.decreases-loop-way
decreases-loop-way l = length l.left
