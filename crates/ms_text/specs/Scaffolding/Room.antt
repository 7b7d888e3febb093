-- Trees that leave room for the nodes that are put on them.
use Rattle.std.specs.Prelude.{◌+◌, ◌≤◌, ◌<◌, ℕ, ◌*◌}
use Rattle.def_script.specs.Bytes.{Bytes}
use Rattle.def_tree.specs.Tree.{Tree, Trees}
use Rattle.def_tree.specs.InRange.{measure, depth, measure_of, depth_of, MOST_MEASURE, MOST_DEPTH}
use Rattle.def_tree.specs.Range.{IsWritable, AreWritable, count}
use Rattle.ms_text.specs.Scaffolding.Place.{IsPlace}

-- for two nodes, of which one stands above it
pub record HasRoom (x : Tree) : Type 0 where
  pub measure : measure x + 2 ≤ MOST_MEASURE
  pub depth : depth x + 1 ≤ MOST_DEPTH
  pub writable : IsWritable x

-- for so many letters before it
pub record HasRoomFor (n : ℕ) (x : Tree) : Type 0 where
  pub measure : measure x + 2 * n ≤ MOST_MEASURE
  pub depth : depth x + n ≤ MOST_DEPTH
  pub writable : IsWritable x

-- a tree has so many letters before it
pub record IsLarger (n : ℕ) (x y : Tree) : Type 0 where
  pub measure : measure y ≤ measure x + 2 * n
  pub depth : depth y ≤ depth x + n
  pub writable : IsWritable y

-- for two nodes above two trees, of which one stands above the other
pub record HaveRoom (x y : Tree) : Type 0 where
  pub measure : measure x + measure y + 2 ≤ MOST_MEASURE
  pub first_depth : depth x + 1 ≤ MOST_DEPTH
  pub second_depth : depth y + 1 ≤ MOST_DEPTH
  pub first : IsWritable x
  pub second : IsWritable y

-- a tree that was read from one place of a text to another, behind so many names and letters: at most two nodes or
-- keys a byte, and no deeper than they allow
pub record IsPart (text : Bytes) (at : ℕ) (enclosing : ℕ) (x : Tree) (end : ℕ) : Type 0 where
  pub after : at < end
  pub place : IsPlace text end
  pub measure : measure x + 2 * at ≤ 2 * end
  pub depth : depth x + enclosing ≤ MOST_DEPTH
  pub writable : IsWritable x

-- the same of several trees, of which there is one at least
pub record AreParts (text : Bytes) (at : ℕ) (enclosing : ℕ) (xs : Trees) (end : ℕ) : Type 0 where
  pub after : at < end
  pub place : IsPlace text end
  pub some : 1 ≤ count xs
  pub measure : measure_of xs + 2 * at ≤ 2 * end
  pub depth : depth_of xs + enclosing ≤ MOST_DEPTH
  pub writable : AreWritable xs
