use Rattle.std.proofs.Common.{◌≡◌, ◌+◌, ◌∙◌, ap, arith}
use Rattle.std.proofs.lemmas.List.Elements.{All-tail}
use Rattle.def_tree.specs.InRange.{IsInRange}
use Rattle.def_tree.specs.Size.{nodes, nodes_of}
use Rattle.ms_tree.specs.Shape.{shape, shapes}
use Rattle.ms_tree.proofs.Parts.{nodes_at, in_range_at}
use Rattle.ms_writers.proofs.Joined.{on_ok, thresh_done, verify_done, added_done, nodes_left}
use Rattle.ms_writers.proofs.writing.+add_tree.Goals as goal

pub add_others-add_tree-requires : goal.add_others-add_tree-requires
add_others-add_tree-requires t c =
    let few = nodes_at c.args.children.now c.loop-child.child-index c.child-item.result c.loop-child-test.true c.child-item.is in (
      omega (arith, c.decreases, few),
      (
        in_range_at c.args.children.now c.loop-child.child-index c.child-item.result c.loop-child-test.true c.child-item.is c.requires.children,
        omega (arith, c.nodes.ensures),
      ),
    )

pub add_others-loop-child-preserved : goal.add_others-loop-child-preserved
add_others-loop-child-preserved t c =
    let left = nodes_left c.args.children.now c.loop-child.child-index c.child-item.result c.loop-child-test.true c.child-item.is in
    record {
      left = omega (arith, left, c.nodes.ensures, c.loop-child.invariant.left);
      written =
          added_done c.loop-child.written c.add_tree.new.written c.code.new.self c.loop-child.next c.args.own c.nodes.result c.args.children.now
          c.loop-child.child-index c.child-item.result c.loop-child-test.true c.child-item.is c.nodes.ensures c.in_ok-add_tree.ensures c.in_ok-code.ensures
          ∙ c.loop-child.invariant.written;
    }

pub add_sum-add_others-requires : goal.add_sum-add_others-requires
add_sum-add_others-requires t c =
    let split = c.in-Some.ensures.cases.0 in
    let fewer : nodes_of (shapes c.args.children.now) ≡ nodes (shape c.in-Some.child.now) + nodes_of (shapes c.in-Some.others.now) = ap (λ xs. nodes_of (shapes xs)) split in (
      omega (arith, c.decreases, fewer),
      (
        All-tail (λ x. IsInRange (shape x)) c.in-Some.child.now c.in-Some.others.now (rw split at c.requires.children),
        omega (arith, fewer, c.nodes.ensures, c.requires.own),
      ),
    )

pub add_thresh-returns : goal.add_thresh-returns
add_thresh-returns t c = λ k.
    on_ok c.code.result
    (thresh_done c.args.written.now c.add_sum.new.written c.push.new.self c.code.new.self c.args.first c.args.own k (shapes c.args.children.now) c.requires.own
    c.in_ok-add_sum.ensures c.in_ok-push.ensures)
    c.code.ensures

pub add_tree-returns-in-Multi : goal.add_tree-returns-in-Multi
add_tree-returns-in-Multi t c = rw c.in-Multi.ensures.shows (c.add_multi.ensures c.in-Multi.field-0)

pub add_wrap-returns-in_ok-add_tree-in-V : goal.add_wrap-returns-in_ok-add_tree-in-V
add_wrap-returns-in_ok-add_tree-in-V t c =
    rw c.in-V.is
    (on_ok c.verify.result
    (verify_done c.args.written.now c.add_tree-in-V.new.written c.verify.new.self c.args.first c.args.own (shape c.args.x.now) c.requires.own
    c.in_ok-add_tree-in-V.ensures)
    c.verify.ensures)
