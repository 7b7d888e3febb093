use Rattle.std.proofs.Common.{◌≡◌, subst, rules}
use Rattle.def_sane.specs.declared.Rules.TheVariants.{Policy}
use Rattle.def_sane.specs.Unfit.{IsSaneUnder}
use Rattle.ms_tree.specs.Shape.{shape}
use Rattle.ms_input.proofs.Witnessed.{is_light}
use Rattle.ms_input.proofs.finalize.settled.settle.Goals as goal

pub returns-clause-light : goal.returns-clause-light
returns-clause-light c =
    let tree = shape c.in-Ok.sane.valid.tree in
    let by_policy : c.in-Ok.sane.valid.rules ≡ Policy = search rules in
    is_light tree c.in_ok-counted.counted.assets c.in_ok-stack.stack c.in-Ok.sane.valid.in_range
    (subst (λ r. IsSaneUnder r tree) by_policy c.in-Ok.sane.sane) c.are_assets.ensures c.in_ok-stack.ensures.sat
