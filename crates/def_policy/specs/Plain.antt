-- The policy of a miniscript, fragment by fragment.
use Rattle.std.specs.Prelude.{[], ◌∷◌, map}
use Rattle.def_tree.specs.declared.Two.{Two}
use Rattle.def_tree.specs.declared.Two.TheVariants as two_kind
use Rattle.def_tree.specs.Tree.{Tree, Trees, just_0, just_1, pk_k, pk_h, older, after, hash, and_or, two, thresh, multi, wrap, none, more}
use Rattle.def_policy.specs.declared.Join.{Join}
use Rattle.def_policy.specs.declared.Join.TheVariants as join
use Rattle.def_policy.specs.Policy as policy
use Rattle.def_policy.specs.Policy.{Policy, Policies, policies_of, joining}

-- what a fragment with two children demands of them (BIP 379, translation table): `and_v` and `and_b` both, the others
-- one
abbrev pub join_of : Two → Join
join_of two_kind.AndV = join.All
join_of two_kind.AndB = join.All
join_of two_kind.OrB = join.Any
join_of two_kind.OrC = join.Any
join_of two_kind.OrD = join.Any
join_of two_kind.OrI = join.Any

-- two policies, joined
abbrev pub both_of : Join → (x y : Policy) → Policy
both_of how x y = joining how (policies_of (x ∷ y ∷ []))

abbrev mutual
  pub plain : Tree → Policy
  plain just_0 = policy.never
  plain just_1 = policy.always
  plain (pk_k key) = policy.key key
  plain (pk_h key) = policy.key key
  plain (older n) = policy.older n
  plain (after n) = policy.after n
  plain (hash kind value) = policy.hash kind value
  plain (and_or x y z) = both_of join.Any (both_of join.All (plain x) (plain y)) (plain z)
  plain (two kind x y) = both_of (join_of kind) (plain x) (plain y)
  plain (thresh k xs) = policy.thresh k (plain_each xs)
  plain (multi k keys) = policy.thresh k (policies_of (map policy.key keys))
  -- a wrapper changes only how the Script says it
  plain (wrap wrapper x) = plain x

  pub plain_each : Trees → Policies
  plain_each none = policy.none
  plain_each (more x xs) = policy.more (plain x) (plain_each xs)
