-- What the reading of a Script has in common with each miniscript that has this Script.
use Rattle.std.specs.Prelude.{◌≡◌, ◌↔◌, List, Some, None, Ok}
use Rattle.def_hash.specs.Hash.{hash160}
use Rattle.def_script.specs.Bytes.{Bytes}
use Rattle.def_tree.specs.Tree.{Key, Tree}
use Rattle.def_types.specs.declared.MalleabilityProperties.{MalleabilityProperties}
use Rattle.def_types.specs.Malleable.{malleability_of}
use Rattle.def_types.specs.Typed.{type_of}
use Rattle.def_limits.specs.declared.Limits.{Limits}
use Rattle.def_limits.specs.Limits.{AreLimits}
use Rattle.def_sane.specs.Locks.{mix}
use Rattle.def_sane.specs.Keys as tree_keys
use Rattle.def_sane.specs.Unfit.{IsSane}
use Rattle.def_decode.specs.Nested.{EachHashed}
use Rattle.def_decode.specs.Decoded.{first_with, IsReading}

-- each `pk_h` key of a tree is the first listed one with its HASH160
abbrev pub HasFirstKeys : List Key → Tree → Type 0
HasFirstKeys keys tree = EachHashed (λ key. first_with keys (hash160 key) ≡ Some key) tree

-- a reading has a tree's type, limits and malleability properties, and mixes timelocks exactly where the tree does; and
-- where the tree's `pk_h` keys are first ones, it has the tree's keys in their order, and is sane exactly where the tree is
pub record IsAlike (keys : List Key) (tree reading : Tree) : Type 0 where
  pub type : type_of reading ≡ type_of tree
  pub limits : (limits : Limits) → AreLimits reading limits ↔ AreLimits tree limits
  pub properties : (m : MalleabilityProperties) → (malleability_of reading ≡ Ok m) ↔ (malleability_of tree ≡ Ok m)
  pub locks : (mix reading ≡ None) ↔ (mix tree ≡ None)
  pub held : HasFirstKeys keys tree → tree_keys.keys reading ≡ tree_keys.keys tree
  pub sane : HasFirstKeys keys tree → (IsSane reading ↔ IsSane tree)

-- it is like every tree that the Script can be read as
abbrev pub IsLikeEach : List Key → (script : Bytes) → (reading : Tree) → Type 0
IsLikeEach keys script reading = (tree : Tree) → IsReading keys script tree → IsAlike keys tree reading
