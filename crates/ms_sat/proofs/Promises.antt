-- What is promised of the strict choice, of a stack that was found.
use Rattle.std.proofs.Common.{◌≡◌, ◌↔◌, ◌≤◌, List, Option, Some, None, refl, sym, ◌∙◌}
use Rattle.def_script.specs.Bytes.{Bytes}
use Rattle.def_tree.specs.Tree.{Tree}
use Rattle.def_tree.specs.Range.{IsWritable}
use Rattle.def_assets.specs.Assets.{Assets, AreAssets}
use Rattle.def_sane.specs.declared.Rules.TheVariants.{Consensus}
use Rattle.def_sane.specs.Unfit.{IsSaneUnder}
use Rattle.def_script.specs.Witness.{weight}
use Rattle.def_satisfaction.specs.Satisfaction.{Sat}
use Rattle.def_choice.specs.Strict.{strict}
use Rattle.def_choice.specs.NonMalleable.{NonMalleable}
use Rattle.def_choice.proofs.Chosen.{strict_is_canonical}
use Rattle.def_promises.specs.Accepted.{Unchangeable, HasNothingToAccept}
use Rattle.ms_strict_laws.proofs.TightIsUnchangeable.{strict_is_non_malleable, strict_is_unchangeable, nothing_to_accept}
use Rattle.ms_strict_laws.proofs.UnchangeableIsTight.{strict_is_lightest}

module _ (tree : Tree) (assets : Assets) (found : Option (List Bytes)) (writable : IsWritable tree) (sane : IsSaneUnder Consensus tree) (are : AreAssets assets) (is : found ≡ strict tree assets) where
  pub found_sat : (stack : List Bytes) → found ≡ Some stack → Sat tree assets stack
  found_sat stack e = strict_is_canonical tree assets stack writable are (sym is ∙ e)

  pub found_nothing : found ≡ None → HasNothingToAccept tree assets
  found_nothing e = nothing_to_accept tree assets writable sane are (sym is ∙ e)

  pub found_none : (found ≡ None) ↔ ((stack : List Bytes) → Sat tree assets stack → ⊥)
  found_none = (
    λ e. (found_nothing e).none,
    λ never. go found (λ stack e. never stack (found_sat stack e)),
  )
    where
      go : (o : Option (List Bytes)) → ((stack : List Bytes) → o ≡ Some stack → ⊥) → o ≡ None
      go None h = refl
      go (Some stack) h = absurd (h stack refl)

  pub found_non_malleable : (stack : List Bytes) → found ≡ Some stack → NonMalleable tree assets stack × Unchangeable tree assets stack
  found_non_malleable stack e =
      (strict_is_non_malleable tree assets stack writable sane are (sym is ∙ e), strict_is_unchangeable tree assets stack writable sane are (sym is ∙ e))

  pub found_lightest : (other : List Bytes) → Sat tree assets other → NonMalleable tree assets other → (stack : List Bytes) × (found ≡ Some stack) × (weight stack ≤ weight other)
  found_lightest other sat unchanged =
      let s = strict_is_lightest tree assets other writable sane are sat unchanged in
      (s.0, is ∙ s.1, s.2)
