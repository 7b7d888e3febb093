-- What is known of a valid tree, and of one that isn't.
use Rattle.std.proofs.Common.{◌≡◌, ◌≤◌, [], ◌∷◌, false, true, Ok, Some, refl, subst, sym, ap, ◌∙◌}
use Rattle.std.proofs.lemmas.Bool.{le-ltb}
use Rattle.def_tree.specs.Tree.{Tree}
use Rattle.def_types.specs.declared.Base.TheVariants.{B}
use Rattle.def_types.specs.declared.CorrectnessType.{CorrectnessType}
use Rattle.def_types.specs.Correctness.{correctness_of}
use Rattle.def_types.specs.Malleable.{malleability_of}
use Rattle.def_types.specs.Typed.{type_of}
use Rattle.def_types.proofs.Typing.{correctness_is_typed}
use Rattle.def_limits.specs.declared.Limits.{Limits}
use Rattle.def_sane.specs.declared.Rules.{Rules}
use Rattle.def_limits.specs.Scaffolding.Most.{limits_of}
use Rattle.def_sane.specs.Keys.{repeated_key}
use Rattle.def_sane.specs.Laws.{AreFewItems}
use Rattle.def_sane.specs.Locks.{mix}
use Rattle.def_script.specs.Limits.{MAX_OPS_PER_SCRIPT}
use Rattle.def_sane.specs.Unfit.{size_limit, are_too_many, first_reason, malleable, no_signature, mixed_locks, repeated, first_unfit_valid_by, first_unfit_valid_under, first_unfit_under, IsValidUnder}
use Rattle.def_sane.specs.declared.Unfit.TheVariants as unfit
use Rattle.def_sane.proofs.TheLimits.{as_computed}
use Rattle.def_sane.proofs.Meanings.{few_items, valid_means_under}
use Rattle.ms_sane.specs.Misfits.{IsMisfit}
use Rattle.ms_sane.specs.declared.misfit.Misfit.{Misfit}
use Rattle.ms_sane.specs.declared.misfit.Misfit.TheVariants as misfit

pub valid_within : (rules : Rules) (t : Tree) (ty : CorrectnessType) (limits : Limits) → Ok ty ≡ correctness_of t → ty.base ≡ B → limits ≡ limits_of t
    → limits.size ≤ size_limit rules → limits.ops ≤ MAX_OPS_PER_SCRIPT → are_too_many rules limits.items ≡ false → IsValidUnder rules t
valid_within rules t ty limits typed base are size ops items =
    let types = (correctness_is_typed t ty).0 (sym typed) in
    let top : (type_of t).base ≡ B = ap (λ (x : CorrectnessType). x.base) (sym types.1) ∙ base in
    (valid_means_under rules t).1 (
      types.0,
      top,
      subst (λ (l : Limits). l.size ≤ size_limit rules) are size,
      subst (λ (l : Limits). l.ops ≤ MAX_OPS_PER_SCRIPT) are ops,
      subst (λ (l : Limits). AreFewItems rules l.items) are (few_items rules limits.items items),
    )

-- of which a satisfaction has too many items
pub unfit_items : (rules : Rules) (t : Tree) (ty : CorrectnessType) (limits : Limits) → Ok ty ≡ correctness_of t → ty.base ≡ B → limits ≡ limits_of t
    → limits.size ≤ size_limit rules → limits.ops ≤ MAX_OPS_PER_SCRIPT → are_too_many rules limits.items ≡ true
    → first_unfit_valid_under rules t ≡ Some (unfit.Items limits.items)
unfit_items rules t ty limits typed base are size ops many =
    let by_own : first_unfit_valid_by rules t limits ≡ Some (unfit.Items limits.items) =
    rw (sym typed, base, le-ltb (size_limit rules) limits.size size, le-ltb MAX_OPS_PER_SCRIPT limits.ops ops, many) refl in
    subst (λ l. first_unfit_valid_by rules t l ≡ Some (unfit.Items limits.items)) (are ∙ sym (as_computed t)) by_own

-- the first reason against a tree's being valid is the first against its being sane
pub unfit_for_sane : (rules : Rules) (t : Tree) (why : Misfit) → IsMisfit (first_unfit_valid_under rules) t why → IsMisfit (first_unfit_under rules) t why
unfit_for_sane rules t (misfit.Unfit unfit) h = (
  subst (λ o. first_reason (o ∷ malleable (malleability_of t) ∷ no_signature (malleability_of t) ∷ mixed_locks (mix t) ∷ repeated (repeated_key t) ∷ []) ≡ Some unfit)
      (sym h.0) refl,
  h.1,
)
unfit_for_sane rules t misfit.Memory h = h
