-- The strict satisfaction of a miniscript, which nobody can change. Inside, the top of a stack stands first.
use Rattle.std.specs.Prelude.{Bool, List, reverse, Option}
use Rattle.std.specs.Option.{option_map}
use Rattle.def_script.specs.Bytes.{Bytes}
use Rattle.def_machine.specs.Stacks.{Stack}
use Rattle.def_tree.specs.Tree.{Tree, Trees}
use Rattle.def_assets.specs.Assets.{Assets}
use Rattle.def_table.specs.Table.{row_of, rows_of}
use Rattle.def_choice.specs.Chosen.{chosen, children, free_rows, Child}
pub use Rattle.def_choice.specs.Chosen.{free_first, has_all}

-- which children of a threshold have a free satisfaction
abbrev pub free_children : Assets → Trees → List Bool
free_children assets xs = free_rows assets (rows_of chosen xs)

abbrev pub strict_of : Assets → Tree → Option Stack
strict_of assets tree = (row_of chosen tree).sat.strict assets

abbrev pub strict_children : Assets → Trees → List Child
strict_children assets xs = children (λ c. c.strict assets) (rows_of chosen xs)

-- the strict satisfaction, or none; its top stands last
abbrev pub strict : Tree → Assets → Option (List Bytes)
strict tree assets = option_map reverse (strict_of assets tree)
