-- What is told of the limits of a tree is unique, and its line is that of the tree.
use Rattle.std.proofs.Common.{◌≡◌, ℕ, Ok, Some, None, refl, sym, ap, subst, ◌∙◌}
use Rattle.def_tree.specs.Tree.{Tree}
use Rattle.def_types.specs.declared.CorrectnessType.{CorrectnessType}
use Rattle.def_types.specs.Correctness.{correctness_of}
use Rattle.def_types.proofs.Typing.{correctness_is_typed}
use Rattle.def_limits.specs.declared.Limits.{Limits}
use Rattle.def_sane.specs.TheLimits.{the_limits}
use Rattle.def_sane.specs.declared.Rules.{Rules}
use Rattle.def_sane.specs.declared.Rules.TheVariants.{Policy, Consensus}
use Rattle.def_height.specs.Height.{IsHeight}
use Rattle.def_answer.proofs.TheHeight.{it_is_the_only}
use Rattle.def_answer.specs.Lines.{tree_limits_line}
use Rattle.ms_report.specs.declared.limits.Bounds.{Bounds}
use Rattle.ms_report.specs.Bounds.{bounds_of, bounds_line}

-- what is told by policy and by consensus
abbrev policy_bounds : (limits : Limits) → Bounds
policy_bounds limits = record { limits = limits; height = None }

abbrev consensus_bounds : (limits : Limits) (height : ℕ) → Bounds
consensus_bounds limits height = record { limits = limits; height = Some height }

pub told_by_policy : (rules : Rules) (tree : Tree) (limits : Limits) → rules ≡ Policy → limits ≡ the_limits tree → policy_bounds limits ≡ bounds_of rules tree
told_by_policy rules tree limits is are = subst (λ r. policy_bounds limits ≡ bounds_of r tree) (sym is) (ap policy_bounds are)

pub told_by_consensus : (rules : Rules) (tree : Tree) (ty : CorrectnessType) (limits : Limits) (height : ℕ) → rules ≡ Consensus → correctness_of tree ≡ Ok ty
    → limits ≡ the_limits tree → IsHeight tree height → consensus_bounds limits height ≡ bounds_of rules tree
told_by_consensus rules tree ty limits height is typed are high =
    let has = it_is_the_only tree ((correctness_is_typed tree ty).0 typed).0 height high in
    subst (λ r. consensus_bounds limits height ≡ bounds_of r tree) (sym is)
    (ap (λ l. consensus_bounds l height) are ∙ ap (consensus_bounds (the_limits tree)) has)

-- the line of a tree's limits
line_of : (rules : Rules) (tree : Tree) → bounds_line (bounds_of rules tree) ≡ tree_limits_line rules tree
line_of Policy tree = refl
line_of Consensus tree = refl

pub told_bounds : (rules : Rules) (tree : Tree) (bounds : Bounds) → bounds ≡ bounds_of rules tree → bounds_line bounds ≡ tree_limits_line rules tree
told_bounds rules tree bounds is = ap bounds_line is ∙ line_of rules tree
