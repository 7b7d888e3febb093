-- The lines of an outline are the tree: what they say of each node is read back, and then the nodes are.
use Rattle.std.proofs.Common.{◌≡◌, ℕ, ◌+◌, List, [], ◌∷◌, ◌++◌, map, refl, ap}
use Rattle.def_tree.specs.Range.{IsWritable, AreWritable}
use Rattle.def_tree.specs.Size.{nodes}
use Rattle.def_tree.specs.Tree.{Tree, Trees, and_or, two, thresh, wrap, none, more}
use Rattle.def_script.specs.Bytes.{Bytes}
use Rattle.def_outline.specs.Outline.{Node, outline, outlines}
use Rattle.ms_outline_laws.specs.Laws.{shown, LinesAreTheTree}
use Rattle.ms_outline_laws.proofs.Bare.{bare, bared}
use Rattle.ms_outline_laws.proofs.Heads.{one_head}
use Rattle.ms_outline_laws.proofs.Trees.{one_tree}
use Rattle.std.specs.Prelude.{⊤}

-- each of these nodes can be written
abbrev AllWritable : List Node → Type 0
AllWritable [] = ⊤
AllWritable (n ∷ ns) = IsWritable n.tree × AllWritable ns

joined : (ns ms : List Node) → AllWritable ns → AllWritable ms → AllWritable (ns ++ ms)
joined [] ms v w = w
joined (n ∷ ns) ms v w = (v.0, joined ns ms v.1 w)

mutual
  written : (first depth : ℕ) (t : Tree) → IsWritable t → AllWritable (outline first depth t)
  written first depth (and_or x y z) w =
      let one = outline first (depth + 1) x in
      let two = outline (first + nodes x) (depth + 1) y in
      let three = outline (first + nodes x + nodes y) (depth + 1) z in
      (w, joined (one ++ two) three (joined one two (written first (depth + 1) x w.0) (written (first + nodes x) (depth + 1) y w.1)) (written (first + nodes x + nodes y) (depth + 1) z w.2))
  written first depth (two kind x y) w =
      (w, joined (outline first (depth + 1) x) (outline (first + nodes x) (depth + 1) y) (written first (depth + 1) x w.0) (written (first + nodes x) (depth + 1) y w.1))
  written first depth (thresh k xs) w = (w, all_written first (depth + 1) xs w.2)
  written first depth (wrap wrapper x) w = (w, written first (depth + 1) x w)
  written first depth leaf w = (w, tt)

  all_written : (first depth : ℕ) (xs : Trees) → AreWritable xs → AllWritable (outlines first depth xs)
  all_written first depth none w = tt
  all_written first depth (more x xs) w =
      joined (outline first depth x) (outlines (first + nodes x) depth xs) (written first depth x w.0) (all_written (first + nodes x) depth xs w.1)

-- ---- what the lines say is what the nodes are

first_head : List (ℕ × Bytes) → Bytes
first_head [] = []
first_head (l ∷ rest) = l.1

first_depth : List (ℕ × Bytes) → ℕ
first_depth [] = 0
first_depth (l ∷ rest) = l.0

rest_of : List (ℕ × Bytes) → List (ℕ × Bytes)
rest_of [] = []
rest_of (l ∷ rest) = rest

nodes_same : (ns ms : List Node) → AllWritable ns → AllWritable ms → map shown ns ≡ map shown ms → map bared ns ≡ map bared ms
unfolding first_head first_depth rest_of
nodes_same [] [] v w e = refl
nodes_same [] (m ∷ ms) v w e = absurd (cc e)
nodes_same (n ∷ ns) [] v w e = absurd (cc e)
nodes_same (n ∷ ns) (m ∷ ms) v w e =
    let depth : n.depth ≡ m.depth = ap first_depth e in
    let tree : bare n.tree ≡ bare m.tree = one_head n.tree m.tree v.0 w.0 (ap first_head e) in
    rw (depth, tree, nodes_same ns ms v.1 w.1 (ap rest_of e)) refl

pub lines_are_the_tree : LinesAreTheTree
lines_are_the_tree t u v w e = one_tree t u (nodes_same (outline 0 0 t) (outline 0 0 u) (written 0 0 t v) (written 0 0 u w) e)
