-- One step more, no step, and the end.
use Rattle.std.proofs.Common.{ℕ, arith, ap, sym, ◌∙◌, List, map, get_or}
use Rattle.std.proofs.lemmas.List.{drop_all, get_or_default}
use Rattle.def_derive.specs.Child.{child, descendant}
use Rattle.ms_derive.specs.Nodes.{node_at}
use Rattle.ms_outputs.specs.declared.starts.Left.{Left}
use Rattle.ms_outputs.specs.declared.starts.Left.TheVariants.{Number}
use Rattle.ms_outputs.specs.Starts.{left_number}
use Rattle.ms_outputs.proofs.Finding.{step_more, step_none, no_steps}
use Rattle.ms_outputs.proofs.keys.descend.Goals as goal

pub returns-in_err-node-clause-node : goal.returns-in_err-node-clause-node
returns-in_err-node-clause-node c =
    let j = c.loop-step.step-index in
    let left = c.args.left.now in
    let step = get_or left j (Number 0) in
    let none =
    step_none (left_number c.args.index) left j step c.loop-step-test.true (get_or_default left j (Number 0) step c.loop-step-test.true) (node_at c.loop-step.node)
    (c.in_err-node.ensures.node ∙ ap (λ (z : ℕ). child z (node_at c.loop-step.node)) c.number_left.ensures)
    ∙ c.loop-step.invariant.path in
    cc

pub loop-step-preserved : goal.loop-step-preserved
loop-step-preserved c =
    let j = c.loop-step.step-index in
    let left = c.args.left.now in
    let step = get_or left j (Number 0) in
    record {
      path =
          step_more (left_number c.args.index) left j step c.loop-step-test.true (get_or_default left j (Number 0) step c.loop-step-test.true) (node_at c.loop-step.node)
          (node_at c.in_ok-node.node) (c.in_ok-node.ensures.node ∙ ap (λ (z : ℕ). child z (node_at c.loop-step.node)) c.number_left.ensures)
          ∙ c.loop-step.invariant.path;
      affine = c.in_ok-node.ensures.affine;
    }

pub returns-clause-node : goal.returns-clause-node
returns-clause-node c =
    no_steps (node_at c.loop-step.node)
    ∙ (ap (λ (z : List Left). descendant (map (left_number c.args.index) z) (node_at c.loop-step.node))
    (sym (drop_all c.loop-step.step-index c.args.left.now (omega arith)))
    ∙ c.loop-step.invariant.path)
