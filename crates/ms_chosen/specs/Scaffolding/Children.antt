-- What trees and keys are as children of a choice.
use Rattle.std.specs.Prelude.{List, [], length, map, Some}
use Rattle.std.specs.Option.{option_map}
use Rattle.def_tree.specs.Tree as model
use Rattle.def_tree.specs.Tree.{Key}
use Rattle.def_assets.specs.Assets.{Assets, sig_of}
use Rattle.def_choice.specs.Least.{item}
use Rattle.def_choice.specs.Cheapest.{cheapest_of, Child}
use Rattle.def_choice.specs.Dissatisfaction.{dissatisfaction}
use Rattle.ms_tree.specs.declared.tree.Tree.{Tree}
use Rattle.ms_tree.specs.Shape.{shape}
use Rattle.ms_choice.specs.declared.children.Costs.{Costs}

abbrev pub child_of_tree : Assets → model.Tree → Child
child_of_tree assets t = record { sat = cheapest_of assets t; dsat = dissatisfaction t }

abbrev pub children_of : Assets → List Tree → List Child
children_of assets xs = map (λ x. child_of_tree assets (shape x)) xs

-- a key of a `multi`: its signature, or nothing where it is passed over
abbrev pub child_of_key : Assets → Key → Child
child_of_key assets key = record { sat = item (sig_of assets key); dsat = Some [] }

abbrev pub children_of_keys : Assets → List Key → List Child
children_of_keys assets = map (child_of_key assets)

-- what the choice among the keys of a `multi` compares: the length of a key's signature. Its item weighs one more
abbrev pub length_of_key : Assets → Key → Costs
length_of_key assets key = record { sat = option_map length (sig_of assets key); dsat = Some 0 }

abbrev pub lengths_of_keys : Assets → List Key → List Costs
lengths_of_keys assets = map (length_of_key assets)
