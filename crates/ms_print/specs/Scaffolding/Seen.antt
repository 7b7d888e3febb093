-- How the text of a tree begins.
use Rattle.std.specs.Prelude.{Bool, true, false}
use Rattle.def_tree.specs.Tree.{Tree, wrap}

-- whether a tree is a wrapper on another one, so that its text begins with a letter
abbrev pub is_lettered : Tree → Bool
is_lettered (wrap wrapper x) = true
is_lettered t = false
