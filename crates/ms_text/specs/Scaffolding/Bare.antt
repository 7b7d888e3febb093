-- The trees without arguments.
use Rattle.std.specs.Prelude.{Bool, true, false}
use Rattle.def_tree.specs.Tree.{Tree, just_0, just_1}

abbrev pub is_just_0 : Tree → Bool
is_just_0 just_0 = true
is_just_0 t = false

abbrev pub is_just_1 : Tree → Bool
is_just_1 just_1 = true
is_just_1 t = false
