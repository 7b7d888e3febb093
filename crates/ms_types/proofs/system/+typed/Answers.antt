use Rattle.std.proofs.Common.{◌∙◌, arith}
use Rattle.ms_tree.specs.Shape.{shape, shapes}
use Rattle.ms_tree.proofs.Parts.{nodes_at, in_range_at}
use Rattle.def_types.specs.System.{typed_each}
use Rattle.ms_types.proofs.OfRows.{leaf_is, and_or_is, two_is, thresh_is, multi_is, wrap_is}
use Rattle.ms_types.proofs.Seen.{types_seen, nodes_left}
use Rattle.ms_types.proofs.system.+typed.Goals as goal

pub typed_children-typed-requires : goal.typed_children-typed-requires
typed_children-typed-requires g t c =
    let few = nodes_at c.args.children.now c.loop-child.child-index c.child-item.result c.loop-child-test.true c.child-item.is in
    let left = nodes_left c.args.children.now c.loop-child.child-index c.child-item.result c.loop-child-test.true c.child-item.is in
    λ κs within. (
      omega (arith, c.decreases, few),
      (
        within.0,
        (
          within.1,
          (
            in_range_at c.args.children.now c.loop-child.child-index c.child-item.result c.loop-child-test.true c.child-item.is c.requires.range,
            omega (arith, left, c.loop-child.invariant.next, c.requires.room),
          ),
        ),
      ),
    )

pub typed-returns-in-Leaf-clause-typed : goal.typed-returns-in-Leaf-clause-typed
typed-returns-in-Leaf-clause-typed g t c =
    c.answer.ensures.typed ∙ rw c.of_leaf.ensures (leaf_is g.T.TypeSystem.rows
    (shape c.args.tree.now) c.in-Leaf.leaf c.args.next.now c.in-Leaf.ensures.shows)

pub typed-returns-in_ok-z-in-AndOr-clause-typed : goal.typed-returns-in_ok-z-in-AndOr-clause-typed
typed-returns-in_ok-z-in-AndOr-clause-typed g t c =
    c.answer-in-AndOr.ensures.typed ∙ rw c.of_and_or.ensures (and_or_is g.T.TypeSystem.rows
    (shape c.args.tree.now) (shape c.in-AndOr.x.now) (shape c.in-AndOr.y.now) (shape c.in-AndOr.z.now)
    c.args.next.now c.typed.new.next c.typed-in-AndOr.new.next c.typed-in-AndOr-2.new.next
    c.in_ok-x-in-AndOr.x c.in_ok-y-in-AndOr.y c.in_ok-z-in-AndOr.z
    c.in-AndOr.ensures.shows c.in_ok-x-in-AndOr.ensures.typed c.in_ok-x-in-AndOr.ensures.next
    c.in_ok-y-in-AndOr.ensures.typed c.in_ok-y-in-AndOr.ensures.next c.in_ok-z-in-AndOr.ensures.typed c.in_ok-z-in-AndOr.ensures.next)

pub typed-returns-in_ok-y-in-Two-clause-typed : goal.typed-returns-in_ok-y-in-Two-clause-typed
typed-returns-in_ok-y-in-Two-clause-typed g t c =
    c.answer-in-Two.ensures.typed ∙ rw c.of_two.ensures (two_is g.T.TypeSystem.rows
    (shape c.args.tree.now) (shape c.in-Two.x.now) (shape c.in-Two.y.now) c.in-Two.kind
    c.args.next.now c.typed-in-Two.new.next c.typed-in-Two-2.new.next
    c.in_ok-x-in-Two.x c.in_ok-y-in-Two.y
    c.in-Two.ensures.shows c.in_ok-x-in-Two.ensures.typed c.in_ok-x-in-Two.ensures.next
    c.in_ok-y-in-Two.ensures.typed c.in_ok-y-in-Two.ensures.next)

pub typed-returns-in_ok-children-in-Thresh-clause-typed : goal.typed-returns-in_ok-children-in-Thresh-clause-typed
typed-returns-in_ok-children-in-Thresh-clause-typed g t c =
    let found = types_seen g.T.TypeSystem.seen (typed_each g.T.TypeSystem.rows c.args.next.now
    (shapes c.in-Thresh.children.now)) c.in_ok-children-in-Thresh.children c.in_ok-children-in-Thresh.ensures.children in
    c.answer-in-Thresh.ensures.typed
    ∙ rw (c.of_thresh.ensures found.0 found.2)
    (thresh_is g.T.TypeSystem.rows
    (shape c.args.tree.now) (shapes c.in-Thresh.children.now) c.in-Thresh.k c.args.next.now c.typed_children.new.next found.0
    c.in-Thresh.ensures.shows found.1 c.in_ok-children-in-Thresh.ensures.next)

pub typed-returns-in-Multi-clause-typed : goal.typed-returns-in-Multi-clause-typed
typed-returns-in-Multi-clause-typed g t c =
    c.answer-in-Multi.ensures.typed ∙ rw c.of_multi.ensures (multi_is g.T.TypeSystem.rows
    (shape c.args.tree.now) c.in-Multi.k c.args.next.now c.in-Multi.keys.now c.in-Multi.ensures.shows)

pub typed-returns-in_ok-x-in-Wrap-clause-typed : goal.typed-returns-in_ok-x-in-Wrap-clause-typed
typed-returns-in_ok-x-in-Wrap-clause-typed g t c =
    c.answer-in-Wrap.ensures.typed ∙ rw c.of_wrap.ensures (wrap_is g.T.TypeSystem.rows
    (shape c.args.tree.now) (shape c.in-Wrap.x.now) c.in-Wrap.wrapper c.args.next.now c.typed-in-Wrap.new.next c.in_ok-x-in-Wrap.x
    c.in-Wrap.ensures.shows c.in_ok-x-in-Wrap.ensures.typed c.in_ok-x-in-Wrap.ensures.next)
