-- Four times the measure of the tree, in four steps a node.
use Rattle.std.proofs.Common.{◌≡◌, ◌+◌, ◌*◌, ◌++◌, drop}
use Rattle.std.specs.Prelude.{codes, decimal}
use Rattle.std.specs.String.{string_bytes}
use Rattle.def_tree.specs.InRange.{measure, measure_of}
use Rattle.def_text.specs.Print.{printed_children}
use Rattle.ms_tree.specs.Shape.{shape, shapes}
use Rattle.ms_print.proofs.print.+print.Given as goal

abbrev pub decreases-print_bare : goal.decreases-print_bare
decreases-print_bare l = 4 * measure (shape l.tree.now)

abbrev pub decreases-print_tree : goal.decreases-print_tree
decreases-print_tree l = 4 * measure (shape l.tree.now) + 1

abbrev pub decreases-print_further : goal.decreases-print_further
decreases-print_further l = 4 * measure (shape l.tree.now) + 2

abbrev pub decreases-print_and_or : goal.decreases-print_and_or
decreases-print_and_or l = 4 * measure (shape l.x.now) + 4 * measure (shape l.y.now) + 4 * measure (shape l.z.now) + 3

abbrev pub decreases-print_two : goal.decreases-print_two
decreases-print_two l = 4 * measure (shape l.x.now) + 4 * measure (shape l.y.now) + 3

abbrev pub decreases-print_thresh : goal.decreases-print_thresh
decreases-print_thresh l = 4 * measure_of (shapes l.children.now) + 3

-- what is written, and then the other children and `)`, is the whole
abbrev pub invariant-print_thresh-loop-x : goal.invariant-print_thresh-loop-x
invariant-print_thresh-loop-x l =
    string_bytes l.out ++ (printed_children (shapes (drop l.x-index l.children)) ++ codes ")")
    ≡ string_bytes l.fn.out ++ (codes "thresh(" ++ decimal l.k ++ printed_children (shapes l.children) ++ codes ")")
