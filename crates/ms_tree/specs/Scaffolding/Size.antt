-- The three numbers of a tree's size as the code counts them, up to the last value of 32 bits.
use Rattle.std.specs.Prelude.{ℕ, ◌+◌, ◌-◌, ◌^◌, min, max}
use Rattle.def_tree.specs.Size as size
use Rattle.def_tree.specs.InRange as size_there
use Rattle.def_tree.specs.Tree.{Tree, Trees}
use Rattle.ms_tree.specs.declared.size.Size.{Size}

abbrev pub capped_u32 : ℕ → ℕ
capped_u32 n = min n (2 ^ 32 - 1)

abbrev pub beside : Size → Size → Size
beside a b = record { nodes = capped_u32 (a.nodes + b.nodes); measure = capped_u32 (a.measure + b.measure); depth = max a.depth b.depth }

abbrev pub below_root : Size → Size
below_root a = record { nodes = capped_u32 (a.nodes + 1); measure = capped_u32 (a.measure + 1); depth = capped_u32 (a.depth + 1) }

abbrev pub keyed : ℕ → Size
keyed count = record { nodes = 0; measure = capped_u32 count; depth = 0 }

abbrev pub size_of : Tree → Size
size_of t = record { nodes = capped_u32 (size.nodes t); measure = capped_u32 (size_there.measure t); depth = capped_u32 (size_there.depth t) }

abbrev pub size_of_trees : Trees → Size
size_of_trees ts = record { nodes = capped_u32 (size.nodes_of ts); measure = capped_u32 (size_there.measure_of ts); depth = capped_u32 (size_there.depth_of ts) }
