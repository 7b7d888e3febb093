-- A step without a node, and one step more.
use Rattle.std.proofs.Common.{ℕ, List, ap, ◌∙◌, sym}
use Rattle.def_derive.specs.Child.{child, descendant}
use Rattle.ms_derive.specs.Nodes.{node_at}
use Rattle.ms_paths.specs.declared.steps.Way.{Way}
use Rattle.ms_outputs.proofs.Finding.{numbers_of}
use Rattle.ms_outputs.proofs.Starting.{no_step, step_on}
use Rattle.ms_outputs.proofs.starts.node_before.Goals as goal

pub returns-in_err-node : goal.returns-in_err-node
returns-in_err-node c =
    let way = c.in-Some.way.now in
    let rest = c.in-Some.rest.now in
    let node = node_at c.loop-way.node in
    rw c.from_residual.ensures (record {
      path = λ (i : ℕ).
          no_step c.args.branch way rest c.in_default-way.not-Index node (c.in_err-node.ensures.node ∙ ap (λ (z : ℕ). child z node) c.number_at.ensures) i
          ∙ (ap (λ (z : List Way). descendant (numbers_of c.args.branch i z) node) (sym c.in-Some.ensures.cases.0) ∙ c.loop-way.invariant.path i);
      affine = tt;
    })

pub loop-way-preserved : goal.loop-way-preserved
loop-way-preserved c =
    let way = c.in-Some.way.now in
    let rest = c.in-Some.rest.now in
    let node = node_at c.loop-way.node in
    record {
      path = λ (i : ℕ).
          step_on c.args.branch way rest c.in_default-way.not-Index node (node_at c.in_ok-node.node)
          (c.in_ok-node.ensures.node ∙ ap (λ (z : ℕ). child z node) c.number_at.ensures) i
          ∙ (ap (λ (z : List Way). descendant (numbers_of c.args.branch i z) node) (sym c.in-Some.ensures.cases.0) ∙ c.loop-way.invariant.path i);
      affine = c.in_ok-node.ensures.affine;
    }
