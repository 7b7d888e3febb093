-- What a descriptor has at a branch and an index: a key or a sane tree, or the reason why it has none.
use Rattle.std.specs.Prelude.{◌≡◌, ℕ, List, [], ◌∷◌, Option, Some, None, Result, Ok, Err}
use Rattle.def_tree.specs.Tree.{Key, Tree}
use Rattle.def_sane.specs.declared.Unfit.{Unfit}
use Rattle.def_sane.specs.Unfit.{first_unfit}
use Rattle.def_descriptor.specs.Parts.{Body, miniscript, sorted, single}
use Rattle.def_descriptor.specs.Gives.{expressions_of, keys_at, HasTree}

-- the expression at this place has no key there; or the first reason against the tree, whose nodes have these offsets
pub data Reason : Type 0 where
  no_key : (at : ℕ) → Reason
  unfit : (offsets : List ℕ) → (why : Unfit) → Reason

pub data Place : Type 0 where
  -- the key of a single expression
  of_key : (key : Key) → Place
  -- the keys of a miniscript, and its sane tree with them
  of_tree : (keys : List Key) → (tree : Tree) → Place
  nothing : (reason : Reason) → Place

-- a tree by the first reason against it under the limits of policy
abbrev pub judged : (keys : List Key) → Tree → (offsets : List ℕ) → Option Unfit → Place
judged keys tree offsets None = of_tree keys tree
judged keys tree offsets (Some why) = nothing (unfit offsets why)

-- the tree of a miniscript with keys in place of its expressions
abbrev pub IsTreeOf : Body → List Key → Place → Type 0
IsTreeOf body keys place = (tree : Tree) × (offsets : List ℕ) × HasTree body keys tree offsets × (place ≡ judged keys tree offsets (first_unfit tree))

-- a body with its keys
abbrev pub IsWithKeys : Body → List Key → Place → Type 0
IsWithKeys (miniscript ps) keys place = IsTreeOf (miniscript ps) keys place
IsWithKeys (sorted ps) keys place = IsTreeOf (sorted ps) keys place
IsWithKeys (single expression) keys place = (key : Key) × (keys ≡ key ∷ []) × (place ≡ of_key key)

-- the first expression without a key comes before all reasons against the tree
abbrev pub IsByKeys : Body → Result (List Key) ℕ → Place → Type 0
IsByKeys body (Err at) place = place ≡ nothing (no_key at)
IsByKeys body (Ok keys) place = IsWithKeys body keys place

-- what a body has at a branch and an index
abbrev pub IsAt : Body → (branch index : ℕ) → Place → Type 0
IsAt body branch index place = IsByKeys body (keys_at branch index (expressions_of body)) place
