-- What is told of trees.
use Rattle.std.proofs.Common.{◌≡◌, Ok}
use Rattle.def_tree.specs.Tree.{Tree}
use Rattle.def_types.specs.declared.CorrectnessType.{CorrectnessType}
use Rattle.def_types.specs.declared.MalleabilityProperties.{MalleabilityProperties}
use Rattle.def_types.specs.Correctness.{correctness_of}
use Rattle.def_types.specs.Malleable.{malleability_of as the_malleability_of}
use Rattle.def_types.specs.Typed.{type_of, properties_of}
use Rattle.def_types.proofs.Typing.{correctness_is_typed, malleability_is_typed}

pub type_is : (t : Tree) (ty : CorrectnessType) → correctness_of t ≡ Ok ty → ty ≡ type_of t
type_is t ty typed = ((correctness_is_typed t ty).0 typed).1

pub malleability_is : (t : Tree) (m : MalleabilityProperties) → the_malleability_of t ≡ Ok m → m ≡ properties_of t
malleability_is t m typed = ((malleability_is_typed t m).0 typed).1
