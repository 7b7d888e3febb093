-- What the recursion over a tree needs.
use Rattle.std.specs.Prelude.{ℕ, ◌*◌, ◌≤◌}
use Rattle.def_tree.specs.Tree.{Tree}
use Rattle.def_tree.specs.InRange.{IsInRange, measure}
use Rattle.def_types.specs.Typed.{IsTyped}

-- the tree is in range, has a correctness type, and has room
pub record IsReady (t : Tree) (slots : ℕ) : Type 0 where
  pub in_range : IsInRange t
  pub typed : IsTyped t
  pub room : 4 * measure t ≤ slots
