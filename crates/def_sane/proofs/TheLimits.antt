-- The limits of a tree are those that are computed, and so are the reasons by them.
use Rattle.std.proofs.Common.{◌≡◌, None, sym, ap, ◌∙◌}
use Rattle.def_tree.specs.Tree.{Tree}
use Rattle.def_limits.specs.Scaffolding.Most.{limits_of}
use Rattle.def_limits.proofs.Greatest.{limits_exist, limits_are_unique, limits_are_computed}
use Rattle.def_sane.specs.declared.Rules.{Rules}
use Rattle.def_sane.specs.TheLimits.{the_limits}
use Rattle.def_sane.specs.Unfit.{first_unfit_valid_by, first_unfit_by, IsValidUnder}
use Rattle.def_sane.specs.Laws.{TheyAreLimits, TheyAreTheOnly, ReasonsAreByLimits}

pub they_are_limits : TheyAreLimits
unfolding the_limits
they_are_limits tree = (limits_exist tree).1

-- a tree has no others
pub they_are_the_only : TheyAreTheOnly
they_are_the_only tree limits are = limits_are_unique tree limits (the_limits tree) are (they_are_limits tree)

-- they are what is computed
pub as_computed : (tree : Tree) → the_limits tree ≡ limits_of tree
as_computed tree = sym (they_are_the_only tree (limits_of tree) (limits_are_computed tree))

pub reasons_are_by_limits : ReasonsAreByLimits
reasons_are_by_limits rules tree limits are =
    let same = sym (they_are_the_only tree limits are) in
    (ap (first_unfit_valid_by rules tree) same, ap (first_unfit_by rules tree) same)

-- a tree is valid where it is so by what is computed
pub valid_by_computed : (rules : Rules) (tree : Tree) → first_unfit_valid_by rules tree (limits_of tree) ≡ None → IsValidUnder rules tree
valid_by_computed rules tree is = (reasons_are_by_limits rules tree (limits_of tree) (limits_are_computed tree)).0 ∙ is
