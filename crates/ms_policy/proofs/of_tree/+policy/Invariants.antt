-- Twice the measure of the tree, and one more for a tree that is taken apart.
use Rattle.std.proofs.Common.{◌≡◌, ◌+◌, ◌*◌, ◌++◌, drop, map}
use Rattle.def_tree.specs.InRange.{measure, measure_of}
use Rattle.def_policy.specs.Plain.{plain_each}
use Rattle.def_policy.specs.Simple.{simple_each}
use Rattle.ms_tree.specs.Shape.{shape, shapes}
use Rattle.ms_policy.specs.Shape.{policy_shape}
use Rattle.ms_policy.proofs.of_tree.+policy.Given as goal

abbrev pub decreases-simplified : goal.decreases-simplified
decreases-simplified l = 2 * measure (shape l.tree.now)

abbrev pub decreases-simplified_pair : goal.decreases-simplified_pair
decreases-simplified_pair l = 2 * measure (shape l.x.now) + 2 * measure (shape l.y.now) + 1

abbrev pub decreases-simplified_each : goal.decreases-simplified_each
decreases-simplified_each l = 2 * measure_of (shapes l.children.now) + 1

-- the policies so far, and those of the children that are left
abbrev pub invariant-simplified_each-loop-child : goal.invariant-simplified_each-loop-child
invariant-simplified_each-loop-child l =
    map policy_shape l.parts.items ++ simple_each (plain_each (shapes (drop l.child-index l.children))) ≡
    simple_each (plain_each (shapes l.children))
