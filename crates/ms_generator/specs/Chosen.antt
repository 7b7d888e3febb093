-- The items of the satisfactions that are chosen, where there are any.
use Rattle.std.specs.Prelude.{List, [], unwrap_or}
use Rattle.def_script.specs.Bytes.{Bytes}
use Rattle.def_tree.specs.Tree.{Tree}
use Rattle.def_assets.specs.Assets.{Assets}
use Rattle.def_choice.specs.Cheapest.{cheapest}
use Rattle.def_choice.specs.Strict.{strict}

abbrev pub strict_items : Tree → Assets → List Bytes
strict_items tree assets = unwrap_or (strict tree assets) []

abbrev pub cheapest_items : Tree → Assets → List Bytes
cheapest_items tree assets = unwrap_or (cheapest tree assets) []
