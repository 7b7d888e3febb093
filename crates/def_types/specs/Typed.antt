-- Types apart from refusals: what the rows of both systems give, and that all of their requirements hold. The
-- laws tie both to `correctness_of` and `malleability_of`.
use Rattle.std.specs.Prelude.{List}
use Rattle.def_tree.specs.Tree.{Tree, Trees}
use Rattle.def_types.specs.declared.CorrectnessType.{CorrectnessType}
use Rattle.def_types.specs.declared.MalleabilityProperties.{MalleabilityProperties}
use Rattle.def_types.specs.System.{gives, gives_each, IsMet, AreMet}
use Rattle.def_types.specs.Correctness.{correctness}
use Rattle.def_types.specs.Malleable.{malleability}

-- the correctness type that the rows give
abbrev pub type_of : Tree → CorrectnessType
type_of tree = gives correctness tree

abbrev pub types_of : Trees → List CorrectnessType
types_of trees = gives_each correctness trees

-- every requirement of correctness holds at every node
abbrev pub IsTyped : Tree → Type 0
IsTyped tree = IsMet correctness tree

abbrev pub AreTyped : Trees → Type 0
AreTyped trees = AreMet correctness trees

-- the malleability properties that the rows give
abbrev pub properties_of : Tree → MalleabilityProperties
properties_of tree = gives malleability tree

abbrev pub all_properties_of : Trees → List MalleabilityProperties
all_properties_of trees = gives_each malleability trees

-- every requirement of malleability holds at every node
abbrev pub IsMalleabilityTyped : Tree → Type 0
IsMalleabilityTyped tree = IsMet malleability tree

abbrev pub AreMalleabilityTyped : Trees → Type 0
AreMalleabilityTyped trees = AreMet malleability trees
