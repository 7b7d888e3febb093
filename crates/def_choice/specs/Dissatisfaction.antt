-- The dissatisfaction of a miniscript.
use Rattle.std.specs.Prelude.{Option}
use Rattle.def_machine.specs.Stacks.{Stack}
use Rattle.def_tree.specs.Tree.{Tree}
use Rattle.def_table.specs.Table.{row_of}
use Rattle.def_choice.specs.Chosen.{chosen}

-- the dissatisfaction, or none
abbrev pub dissatisfaction : Tree → Option Stack
dissatisfaction tree = (row_of chosen tree).dsat
