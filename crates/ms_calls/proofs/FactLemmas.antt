-- What is known of a sane tree, as plain numbers.
use Rattle.std.proofs.Common.{◌≡◌, ℕ, List, Ok, refl}
use Rattle.def_tree.specs.Tree.{Tree}
use Rattle.def_types.specs.declared.CorrectnessType.{CorrectnessType}
use Rattle.def_types.specs.declared.MalleabilityProperties.{MalleabilityProperties}
use Rattle.def_types.specs.Correctness.{correctness_of}
use Rattle.def_types.specs.Malleable.{malleability_of as the_malleability_of}
use Rattle.def_types.proofs.Typing.{correctness_is_typed, malleability_is_typed}
use Rattle.def_limits.specs.declared.Limits.{Limits}
use Rattle.def_sane.specs.declared.Rules.{Rules}
use Rattle.def_sane.specs.TheLimits.{the_limits}
use Rattle.def_sane.specs.Unfit.{first_unfit_under, IsSaneUnder}
use Rattle.def_height.specs.Height.{IsHeight}
use Rattle.def_answer.proofs.TheHeight.{it_is_the_only}
use Rattle.ms_calls.specs.declared.facts.Facts.{Facts}
use Rattle.ms_calls.specs.Facts.{facts_by, facts_of}
use Rattle.ms_calls.specs.TextReply.{told, unless_unfit}

pub known_facts : (rules : Rules) (t : Tree) (ty : CorrectnessType) (malleability_of : MalleabilityProperties) (limits : Limits) (height : ℕ) (offsets : List ℕ) (facts : Facts)
    → IsSaneUnder rules t → correctness_of t ≡ Ok ty → the_malleability_of t ≡ Ok malleability_of → limits ≡ the_limits t → IsHeight t height
    → facts ≡ facts_by ty malleability_of limits height → unless_unfit (first_unfit_under rules t) offsets (told (facts_of t)) ≡ told facts
known_facts rules t ty malleability_of limits height offsets facts sane typed malleability_typed limited high is =
    let is_typed = (correctness_is_typed t ty).0 typed in
    let is_malleability = ((malleability_is_typed t malleability_of).0 malleability_typed).1 in
    let has = it_is_the_only t is_typed.0 height high in
    rw (sane, is, is_typed.1, is_malleability, limited, has) refl
