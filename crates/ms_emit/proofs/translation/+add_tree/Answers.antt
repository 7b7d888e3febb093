use Rattle.std.proofs.Common.{◌≡◌, ◌+◌, ap, arith}
use Rattle.std.proofs.lemmas.List.Elements.{All-tail}
use Rattle.def_tree.specs.InRange.{IsInRange}
use Rattle.def_tree.specs.Size.{nodes, nodes_of}
use Rattle.ms_tree.specs.Shape.{shape, shapes}
use Rattle.ms_tree.proofs.Parts.{nodes_at, in_range_at}
use Rattle.ms_emit.proofs.translation.+add_tree.Goals as goal

pub add_others-add_tree-requires : goal.add_others-add_tree-requires
add_others-add_tree-requires t c =
    let few = nodes_at c.args.children.now c.loop-child.child-index c.child-item.result c.loop-child-test.true c.child-item.is in
    (omega (arith, c.decreases, few), in_range_at c.args.children.now c.loop-child.child-index c.child-item.result c.loop-child-test.true c.child-item.is c.requires)

pub add_thresh-add_others-requires : goal.add_thresh-add_others-requires
add_thresh-add_others-requires t c =
    let split = c.in-Some.ensures.cases.0 in
    let fewer : nodes_of (shapes c.args.children.now) ≡ nodes (shape c.in-Some.first.now) + nodes_of (shapes c.in-Some.others.now) = ap (λ xs. nodes_of (shapes xs)) split in
    (omega (arith, c.decreases, fewer), All-tail (λ x. IsInRange (shape x)) c.in-Some.first.now c.in-Some.others.now (rw split at c.requires.children))
