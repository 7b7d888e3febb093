-- Stacks that are accepted: within limits, and as such that nobody can change, whatever signatures are good; what
-- those have that are accepted beside them; and that there is nothing to accept.
use Rattle.std.specs.Prelude.{◌≡◌, ◌≢◌, ◌⊎◌, ℕ, ◌≤◌, IsTrue, List, length, Contains, Some}
use Rattle.def_hash.specs.declared.HashKind.{HashKind}
use Rattle.def_hash.specs.Hash.{hash160}
use Rattle.def_script.specs.Bytes.{Bytes}
use Rattle.def_script.specs.Key.{is_key}
use Rattle.def_script.specs.Witness.{weight}
use Rattle.def_machine.specs.Stacks.{Pairs, Checker, member}
use Rattle.def_machine.specs.Machine.{Given}
use Rattle.def_machine.specs.Run.{run, accepted}
use Rattle.def_tree.specs.Tree.{Tree, Key, pk_h, hash}
use Rattle.def_tree.specs.Nodes.{all_nodes}
use Rattle.def_emit.specs.Emit.{script_of}
use Rattle.def_assets.specs.Assets.{Assets, known}
use Rattle.def_limits.specs.declared.Limits.{Limits}
use Rattle.def_height.specs.Height.{IsHeight}
use Rattle.def_satisfaction.specs.Rows.{IsPreimageOf}
use Rattle.def_satisfaction.specs.Satisfaction.{Sat, Holds}
use Rattle.def_choice.specs.NonMalleable.{IsAccepted, HasNewPair, Fresh, given_with}

-- the run is accepted, it takes no more than the limits, and both stacks together never hold more than the height
pub record IsAcceptedWithin (tree : Tree) (limits : Limits) (given : Given) (stack : List Bytes) : Type 0 where
  pub ops : ℕ
  pub peak : ℕ
  pub checks : Pairs
  pub run : run given (script_of tree) stack ≡ accepted ops peak checks
  pub few_ops : ops ≤ limits.ops
  pub few_items : length stack ≤ limits.items
  pub light : weight stack ≤ limits.weight
  pub low : (height : ℕ) → IsHeight tree height → peak ≤ height

-- the stack has a preimage of a hash of the miniscript that isn't the known one
pub record HasUnknownPreimage (tree : Tree) (assets : Assets) (stack : List Bytes) : Type 0 where
  pub kind : HashKind
  pub value : Bytes
  pub preimage : Bytes
  pub fragment : Contains (all_nodes tree) (hash kind value)
  pub item : Contains stack preimage
  pub preimage_of : IsPreimageOf kind value preimage
  pub unknown : known assets kind value ≢ Some preimage

-- the stack has another key with the hash of a key of the miniscript
pub record HasOtherKey (tree : Tree) (stack : List Bytes) : Type 0 where
  pub key : Key
  pub other : Key
  pub fragment : Contains (all_nodes tree) (pk_h key)
  pub item : Contains stack other
  pub form : IsTrue (is_key other)
  pub hash : hash160 other ≡ hash160 key
  pub differs : other ≢ key

-- more than `NonMalleable`: whatever signatures are good besides those of the assets, the stack is accepted; and every
-- other stack that is accepted, of bytes or not, passes a check that this one doesn't, or is fresh and has an unknown
-- preimage or a substitute key
abbrev pub Unchangeable : Tree → Assets → (stack : List Bytes) → Type 0
Unchangeable tree assets stack =
    (checker : Checker) → Holds checker assets →
    (checks : Pairs) × IsAccepted tree (given_with assets checker) stack checks ×
    ((other : List Bytes) (others : Pairs) →
    IsAccepted tree (given_with assets checker) other others → other ≢ stack →
    HasNewPair others checks ⊎
    (Fresh tree assets checker other × (HasUnknownPreimage tree assets other ⊎ HasOtherKey tree other)))

-- ---- where there is nothing to accept

-- each stack that is accepted under the assets' own signatures is fresh
abbrev pub AcceptsFreshAlone : Tree → Assets → Type 0
AcceptsFreshAlone tree assets =
    (stack : List Bytes) (checks : Pairs) → IsAccepted tree (given_with assets (member assets.pairs)) stack checks →
    Fresh tree assets (member assets.pairs) stack

-- a fresh stack has an unknown preimage, or another key with the same hash
abbrev pub FreshOnesHaveItem : Tree → Assets → Type 0
FreshOnesHaveItem tree assets =
    (checker : Checker) (stack : List Bytes) → Fresh tree assets checker stack →
    HasUnknownPreimage tree assets stack ⊎ HasOtherKey tree stack

-- there is no canonical satisfaction, and what is accepted is fresh
pub record HasNothingToAccept (tree : Tree) (assets : Assets) : Type 0 where
  pub none : (stack : List Bytes) → ¬ Sat tree assets stack
  pub accepted : AcceptsFreshAlone tree assets
  pub fresh : FreshOnesHaveItem tree assets
