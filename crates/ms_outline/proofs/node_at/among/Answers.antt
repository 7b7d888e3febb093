use Rattle.std.proofs.Common.{◌∙◌, ◌+◌, ◌-◌, [], drop, slice_get, sym, ap, arith}
use Rattle.def_tree.specs.Nodes.{nodes_of_all}
use Rattle.def_answer.specs.Outline.{node_line}
use Rattle.ms_tree.specs.Shape.{shapes}
use Rattle.ms_outline.proofs.Standing.{left_nodes}
use Rattle.ms_outline.proofs.Below.{in_this, in_others}
use Rattle.ms_outline.proofs.node_at.among.Goals as goal

pub returns-then-left-size : goal.returns-then-left-size
returns-then-left-size c =
    let inv = c.loop-child.invariant in
    in_this c.args.children.now c.args.number c.loop-child.child-index c.loop-child.left c.child-item.result c.loop-child-test.true c.child-item.is c.requires.range
    (omega (arith, c.if-left-size.true, c.nodes-size.ensures)) inv.lower inv.same

pub loop-child-preserved : goal.loop-child-preserved
loop-child-preserved c =
    let inv = c.loop-child.invariant in
    let xs = c.args.children.now in
    let i = c.loop-child.child-index in
    let past = c.nodes-size.ensures in
    let left = left_nodes (node_line []) xs i c.child-item.result c.loop-child-test.true c.child-item.is in
    record {
      lower = omega (arith, inv.lower);
      there = omega (arith, inv.there, left, c.if-left-size.false, past);
      same =
          inv.same
          ∙ in_others xs i c.loop-child.left c.child-item.result c.loop-child-test.true c.child-item.is (omega (arith, c.if-left-size.false, past))
          ∙ ap (λ n. slice_get (nodes_of_all (shapes (drop (i + 1) xs))) (c.loop-child.left - n)) (sym past);
    }
