-- The cheapest satisfaction of a miniscript. Inside, the top of a stack stands first.
use Rattle.std.specs.Prelude.{List, reverse, Option}
use Rattle.std.specs.Option.{option_map}
use Rattle.def_script.specs.Bytes.{Bytes}
use Rattle.def_machine.specs.Stacks.{Stack}
use Rattle.def_tree.specs.Tree.{Tree, Trees}
use Rattle.def_assets.specs.Assets.{Assets}
use Rattle.def_table.specs.Table.{row_of, rows_of}
use Rattle.def_choice.specs.Chosen.{chosen, children, none_satisfied}
pub use Rattle.def_choice.specs.Chosen.{Child, stack_of, signatures_of, signatures}

abbrev pub all_dissatisfied : Trees → Option Stack
all_dissatisfied xs = none_satisfied (rows_of chosen xs)

abbrev pub cheapest_of : Assets → Tree → Option Stack
cheapest_of assets tree = (row_of chosen tree).sat.cheapest assets

abbrev pub cheapest_children : Assets → Trees → List Child
cheapest_children assets xs = children (λ c. c.cheapest assets) (rows_of chosen xs)

-- the cheapest satisfaction, or none; its top stands last
abbrev pub cheapest : Tree → Assets → Option (List Bytes)
cheapest tree assets = option_map reverse (cheapest_of assets tree)
