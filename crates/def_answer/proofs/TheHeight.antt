-- The height of a tree is its height, and it has no other.
use Rattle.std.proofs.Common.{◌≡◌, ℕ}
use Rattle.def_tree.specs.Tree.{Tree}
use Rattle.def_types.specs.Typed.{IsTyped}
use Rattle.def_height.specs.Height.{IsHeight}
use Rattle.def_height.proofs.Found.{height_exists, height_is_unique}
use Rattle.def_answer.specs.TheHeight.{the_height}

pub it_is_height : (tree : Tree) → IsTyped tree → IsHeight tree (the_height tree)
unfolding the_height
it_is_height tree = (height_exists tree).1

pub it_is_the_only : (tree : Tree) → IsTyped tree → (h : ℕ) → IsHeight tree h → h ≡ the_height tree
it_is_the_only tree typed h is = height_is_unique tree h (the_height tree) is (it_is_height tree typed)
