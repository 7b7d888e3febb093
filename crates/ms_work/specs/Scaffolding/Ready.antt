-- What a recursion over a tree needs that writes at most one slot for each child of a threshold.
use Rattle.std.specs.Prelude.{ℕ, ◌≤◌, List, length, All}
use Rattle.def_tree.specs.Tree as model
use Rattle.def_tree.specs.InRange.{MOST_MEASURE, IsInRange, measure, measure_of}
use Rattle.def_types.specs.Typed.{IsTyped}
use Rattle.ms_tree.specs.declared.tree.Tree.{Tree}
use Rattle.ms_tree.specs.Shape.{shape, shapes}

-- the tree is in range, has a correctness type, and has room
pub record IsReady (t : model.Tree) (slots : ℕ) : Type 0 where
  pub in_range : IsInRange t
  pub typed : IsTyped t
  pub room : measure t ≤ slots

-- each of the trees is and has; they are not too many, and have room together
pub record AreReady (xs : List Tree) (slots : ℕ) : Type 0 where
  pub in_range : All (λ x. IsInRange (shape x)) xs
  pub typed : All (λ x. IsTyped (shape x)) xs
  pub few : length xs ≤ MOST_MEASURE
  pub room : measure_of (shapes xs) ≤ slots
