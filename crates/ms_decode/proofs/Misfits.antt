-- A tree that didn't pass isn't the Script's.
use Rattle.std.proofs.Common.{◌≡◌, Some, None, sym, ◌∙◌, refl}
use Rattle.def_script.specs.Bytes.{Bytes}
use Rattle.def_tree.specs.Tree.{Tree}
use Rattle.def_sane.specs.declared.Unfit.{Unfit}
use Rattle.def_sane.specs.Unfit.{first_unfit_valid, first_unfit_valid_under}
use Rattle.def_sane.specs.declared.Rules.TheVariants.{Policy}
use Rattle.ms_sane.specs.Misfits.{IsMisfit}
use Rattle.ms_sane.specs.declared.misfit.Misfit.{Misfit}
use Rattle.ms_sane.specs.declared.misfit.Misfit.TheVariants as misfit
use Rattle.ms_reading.specs.Candidates.{IsScriptOf}

-- one that is unfit isn't the Script's
tried_unfit : (script : Bytes) (t : Tree) (unfit : Unfit) → first_unfit_valid t ≡ Some unfit → IsScriptOf t script → ⊥
tried_unfit script t unfit e s = let both : None ≡ Some unfit = sym s.0 ∙ e in cc

-- nor is one that didn't pass, where memory wasn't wanting
pub tried_misfit : (script : Bytes) (t : Tree) (why : Misfit) → IsMisfit (first_unfit_valid_under Policy) t why → (why ≡ misfit.Memory → ⊥) → IsScriptOf t script → ⊥
tried_misfit script t (misfit.Unfit unfit) is other s = tried_unfit script t unfit is.0 s
tried_misfit script t misfit.Memory is other s = other refl
