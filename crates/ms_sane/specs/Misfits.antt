-- Why a tree doesn't pass.
use Rattle.std.specs.Prelude.{◌≡◌, ⊤, Option, Some}
use Rattle.def_tree.specs.Tree.{Tree}
use Rattle.def_sane.specs.declared.Unfit.{Unfit}
use Rattle.ms_sane.specs.Place.{IsOfTree}
use Rattle.ms_sane.specs.declared.misfit.Misfit.{Misfit}
use Rattle.ms_sane.specs.declared.misfit.Misfit.TheVariants as misfit

abbrev pub misfit_of : Unfit → Misfit
misfit_of unfit = misfit.Unfit unfit

-- it is the first reason against the tree, whose node is one of the tree, or memory was wanting
abbrev pub IsMisfit : (first_reason : Tree → Option Unfit) → Tree → Misfit → Type 0
IsMisfit first_reason tree (misfit.Unfit unfit) = (first_reason tree ≡ Some unfit) × IsOfTree tree unfit
IsMisfit first_reason tree misfit.Memory = ⊤
