-- The height of a tree, from the greatest numbers of its formal satisfactions.
use Rattle.std.proofs.Common.{◌≡◌, ℕ, Option, Some, None, Ok, refl, subst, inl, inr}
use Rattle.def_tree.specs.Tree.{Tree}
use Rattle.def_types.specs.Correctness.{correctness_of}
use Rattle.def_types.specs.Typed.{type_of, IsTyped}
use Rattle.def_types.proofs.Typing.{correctness_is_typed}
use Rattle.def_height.specs.Formal.{Way, FormalSat}
use Rattle.def_limits.specs.Limits.{IsGreatest}
use Rattle.def_limits.proofs.Greatest.{one_greatest}
use Rattle.def_height.specs.Height.{IsHeight, peak}
use Rattle.def_height.specs.declared.Highest.{Highest}
use Rattle.def_height.specs.Scaffolding.Highest.{highest_sat, height_of_option, height_of}
use Rattle.def_height.specs.Laws.{HeightExists, HeightIsUnique}
use Rattle.def_height.proofs.Courses.{IsHighest}
use Rattle.def_height.proofs.Heights.{left, sat_highest}

greatest_of : (left : ℕ) (P : Way → Type 0) (o : Option Highest) → IsHighest left P o → IsGreatest P peak (height_of_option o)
greatest_of left P None h = inr (h, refl)
greatest_of left P (Some m) h = inl (h.height.0, h.height.1, h.height.2, h.low)

-- what is computed is the height
pub height_is_computed : (tree : Tree) → IsTyped tree → IsHeight tree (height_of tree)
height_is_computed tree typed = greatest_of (left tree) (FormalSat tree) (highest_sat tree) (sat_highest tree typed)

unfoldable pub height_exists : HeightExists
height_exists tree = (height_of tree, height_is_computed tree)

pub height_is_unique : HeightIsUnique
height_is_unique tree = one_greatest (FormalSat tree) peak

-- a height is what is computed
pub as_computed : (tree : Tree) (h : ℕ) → IsTyped tree → IsHeight tree h → h ≡ height_of tree
as_computed tree h typed is = height_is_unique tree h (height_of tree) is (height_is_computed tree typed)

-- and what is computed, it
pub height_by : (tree : Tree) (h : ℕ) → correctness_of tree ≡ Ok (type_of tree) → height_of tree ≡ h → IsHeight tree h
height_by tree h typed is = subst (IsHeight tree) is (height_is_computed tree ((correctness_is_typed tree (type_of tree)).0 typed).0)
