-- Laws of limits.
use Rattle.std.specs.Prelude.{◌≡◌}
use Rattle.def_tree.specs.Tree.{Tree}
use Rattle.def_limits.specs.declared.Limits.{Limits}
use Rattle.def_limits.specs.Limits.{AreLimits}

-- a tree has limits
abbrev pub LimitsExist : Type 0
LimitsExist = (tree : Tree) → (limits : Limits) × AreLimits tree limits

-- and no others
abbrev pub LimitsAreUnique : Type 0
LimitsAreUnique = (tree : Tree) (limits others : Limits) → AreLimits tree limits → AreLimits tree others → limits ≡ others
