use Rattle.std.proofs.Common.{◌≡◌, ◌+◌, drop, ◌∙◌, ap, sym, arith}
use Rattle.std.proofs.lemmas.List.Elements.{All-tail}
use Rattle.def_script.specs.declared.Op.TheVariants as op
use Rattle.def_script.specs.Instruction.{code}
use Rattle.def_emit.specs.Emit.{emit_added}
use Rattle.def_tree.specs.InRange.{IsInRange}
use Rattle.def_tree.specs.Size.{nodes, nodes_of}
use Rattle.ms_tree.specs.Shape.{shape, shapes}
use Rattle.ms_tree.proofs.Parts.{nodes_at, in_range_at}
use Rattle.ms_extent.specs.declared.extent.Extent.{Extent}
use Rattle.ms_extent.specs.Extent.{extended, extended_by, extended_verify}
use Rattle.ms_extent.proofs.Counting.{verify_behind, others_left}
use Rattle.ms_extent.proofs.length.+add_tree.Goals as goal

pub add_wrap-returns-in-V : goal.add_wrap-returns-in-V
add_wrap-returns-in-V t c =
    rw c.in-V.is
    (c.verify.ensures ∙ ap extended_verify c.add_tree-in-V.ensures ∙ sym (verify_behind c.args.extent.now (shape c.args.x.now)))

pub add_others-add_tree-requires : goal.add_others-add_tree-requires
add_others-add_tree-requires t c =
    let few = nodes_at c.args.children.now c.loop-child.child-index c.child-item.result c.loop-child-test.true c.child-item.is in
    (omega (arith, c.decreases, few), in_range_at c.args.children.now c.loop-child.child-index c.child-item.result c.loop-child-test.true c.child-item.is c.requires)

pub add_sum-add_others-requires : goal.add_sum-add_others-requires
add_sum-add_others-requires t c =
    let split = c.in-Some.ensures.cases.0 in
    let fewer : nodes_of (shapes c.args.children.now) ≡ nodes (shape c.in-Some.first.now) + nodes_of (shapes c.in-Some.others.now) = ap (λ xs. nodes_of (shapes xs)) split in
    (omega (arith, c.decreases, fewer), All-tail (λ x. IsInRange (shape x)) c.in-Some.first.now c.in-Some.others.now (rw split at c.requires))

pub add_others-loop-child-preserved : goal.add_others-loop-child-preserved
add_others-loop-child-preserved t c =
    let others = emit_added (shapes (drop (c.loop-child.child-index + 1) c.args.children.now)) in
    let added = c.code.ensures ∙ ap (λ (e : Extent). extended e (code op.Add)) c.add_tree.ensures in
    ap (λ (e : Extent). extended_by e others) added
    ∙ others_left c.loop-child.extent c.args.children.now c.loop-child.child-index c.child-item.result c.loop-child-test.true c.child-item.is
    ∙ c.loop-child.invariant
