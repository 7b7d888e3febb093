-- Trees beside their sizes, seen as trees.
use Rattle.std.specs.Prelude.{Option, Some, None, if◌then◌else◌}
use Rattle.def_tree.specs.Tree.{Tree}
use Rattle.ms_tree.specs.Shape.{shape}
use Rattle.ms_decode_laws.specs.Scaffolding.Reader.{fits}
use Rattle.ms_reading.specs.declared.part.Part.{Part}

-- the tree, where it fits
abbrev pub fitting : Tree → Option Tree
fitting t = if fits t then Some t else None

abbrev pub tree_of : Part → Tree
tree_of part = shape part.tree

abbrev pub made : Option Part → Option Tree
made None = None
made (Some part) = Some (tree_of part)
