-- Laws of the types.
use Rattle.std.specs.Prelude.{◌≡◌, ◌↔◌, Ok, Err}
use Rattle.def_tree.specs.Tree.{Tree}
use Rattle.def_types.specs.declared.CorrectnessType.{CorrectnessType}
use Rattle.def_types.specs.declared.MalleabilityProperties.{MalleabilityProperties}
use Rattle.def_types.specs.declared.rule.RuleAt.{RuleAt}
use Rattle.def_types.specs.System.{EveryHolds, IsFirstFalse}
use Rattle.def_types.specs.Correctness.{correctness, correctness_of}
use Rattle.def_types.specs.Malleable.{malleability, malleability_of}
use Rattle.def_types.specs.Typed.{type_of, IsTyped, properties_of, IsMalleabilityTyped}

-- a tree has a correctness type exactly where every requirement of every node holds, and then it is what the
-- rows give
abbrev pub CorrectnessIsTyped : Type 0
CorrectnessIsTyped = (tree : Tree) (ty : CorrectnessType) → (correctness_of tree ≡ Ok ty) ↔ (EveryHolds correctness tree × (ty ≡ type_of tree))

-- a refusal is the first requirement that is false
abbrev pub CorrectnessIsFirst : Type 0
CorrectnessIsFirst = (tree : Tree) (at : RuleAt) → (correctness_of tree ≡ Err at) ↔ IsFirstFalse correctness tree at

-- the same of the malleability properties
abbrev pub MalleabilityIsTyped : Type 0
MalleabilityIsTyped =
    (tree : Tree) (properties : MalleabilityProperties) →
    (malleability_of tree ≡ Ok properties) ↔ (EveryHolds malleability tree × (properties ≡ properties_of tree))

abbrev pub MalleabilityIsFirst : Type 0
MalleabilityIsFirst = (tree : Tree) (at : RuleAt) → (malleability_of tree ≡ Err at) ↔ IsFirstFalse malleability tree at

-- that every requirement of every node holds is said by recursion too
abbrev pub TypedMeans : Type 0
TypedMeans = (tree : Tree) → IsTyped tree ↔ EveryHolds correctness tree

abbrev pub NonMalleableMeans : Type 0
NonMalleableMeans = (tree : Tree) → IsMalleabilityTyped tree ↔ EveryHolds malleability tree
