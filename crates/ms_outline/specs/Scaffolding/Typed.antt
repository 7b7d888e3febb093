-- The types of nodes that lie side by side in a list of all nodes' types.
use Rattle.std.specs.Prelude.{◌≡◌, ℕ, List, ◌++◌, codes, map, length, slice_get, Option, Some, None}
use Rattle.def_script.specs.Bytes.{Bytes}
use Rattle.def_tree.specs.Tree.{Tree}
use Rattle.def_types.specs.declared.CorrectnessType.{CorrectnessType}
use Rattle.def_types.specs.declared.MalleabilityProperties.{MalleabilityProperties}
use Rattle.def_types.specs.Correctness.{correctness_of}
use Rattle.def_types.specs.Malleable.{malleability_of}
use Rattle.def_answer.specs.Check.{type_letters}
use Rattle.def_answer.specs.Outline.{correctness_letters}
use Rattle.ms_types.specs.Told.{told}

-- a part's type, by what is told of it
abbrev pub told_type : Option CorrectnessType → Option MalleabilityProperties → Bytes
told_type None properties = codes "-"
told_type (Some ty) None = correctness_letters ty ++ codes "?"
told_type (Some ty) (Some properties) = type_letters ty properties

-- what is told of these nodes stands from this place on
pub record StandsAt {A : Type 0} (items : List A) (first : ℕ) (of_node : Tree → A) (ts : List Tree) : Type 0 where
  pub before : List A
  pub behind : List A
  pub is : items ≡ before ++ map of_node ts ++ behind
  pub place : length before ≡ first

-- so of both systems
abbrev pub AreTypesOf : (correctness : List (Option CorrectnessType)) → (malleability : List (Option MalleabilityProperties)) → (first : ℕ) → List Tree → Type 0
AreTypesOf correctness malleability first ts =
    StandsAt correctness first (λ t. told (correctness_of t)) ts × StandsAt malleability first (λ t. told (malleability_of t)) ts

-- what is told of one node stands at its place
abbrev pub StandTold : (correctness : List (Option CorrectnessType)) → (malleability : List (Option MalleabilityProperties)) → (own : ℕ) → Tree → Type 0
StandTold correctness malleability own t =
    (slice_get correctness own ≡ Some (told (correctness_of t))) × (slice_get malleability own ≡ Some (told (malleability_of t)))
