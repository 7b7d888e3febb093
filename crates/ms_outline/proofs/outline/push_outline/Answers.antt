use Rattle.std.proofs.Common.{◌∙◌, arith, ap, map, sym}
use Rattle.def_tree.specs.Nodes.{all_nodes}
use Rattle.def_tree.specs.Size.{nodes}
use Rattle.def_types.specs.Correctness.{correctness_of}
use Rattle.def_types.specs.Malleable.{malleability_of}
use Rattle.ms_tree.specs.Shape.{shape}
use Rattle.ms_tree.proofs.Parts.{nodes-le-measure}
use Rattle.ms_types.specs.Told.{told}
use Rattle.ms_outline.proofs.Standing.{all_stand}
use Rattle.ms_outline.proofs.outline.push_outline.Goals as goal

pub push_tree-requires-clause-numbers : goal.push_tree-requires-clause-numbers
push_tree-requires-clause-numbers c =
    omega (arith, ap (λ t. nodes (shape t)) c.tree-tree.ensures, nodes-le-measure (shape c.args.text.now.tree), c.requires.measure)

pub push_tree-requires-clause-types : goal.push_tree-requires-clause-types
push_tree-requires-clause-types c = (
  all_stand c.in_ok-types.types.correctness.items (λ t. told (correctness_of t)) (all_nodes (shape c.tree-tree.result.now))
      (c.in_ok-types.ensures.correctness ∙ ap (λ u. map (λ t. told (correctness_of t)) (all_nodes (shape u))) (c.tree.ensures ∙ sym c.tree-tree.ensures)),
  all_stand c.in_ok-types.types.malleability.items (λ t. told (malleability_of t)) (all_nodes (shape c.tree-tree.result.now))
      (c.in_ok-types.ensures.malleability ∙ ap (λ u. map (λ t. told (malleability_of t)) (all_nodes (shape u))) (c.tree.ensures ∙ sym c.tree-tree.ensures)),
)
