-- The height of a miniscript: how many elements both stacks hold together at most, over the runs of all of its
-- formal satisfactions (Bitcoin Core, script/interpreter.cpp, MAX_STACK_SIZE).
use Rattle.std.specs.Prelude.{ℕ, ◌+◌}
use Rattle.def_tree.specs.Tree.{Tree}
use Rattle.def_limits.specs.Limits.{IsGreatest}
use Rattle.def_height.specs.Course.{rise}
use Rattle.def_height.specs.Formal.{Way, FormalSat}

-- the most elements at once on a way: its items, which lie there at the start, and the rise of its course
abbrev pub peak : Way → ℕ
peak w = w.items + rise w.course

-- h is the height of the tree
abbrev pub IsHeight : Tree → (h : ℕ) → Type 0
IsHeight tree h = IsGreatest (FormalSat tree) peak h
