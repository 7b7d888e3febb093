use Rattle.std.proofs.Common.{reverse}
use Rattle.std.specs.Option.{option_map}
use Rattle.def_satisfaction.specs.Satisfaction.{Sat, Dsat}
use Rattle.def_choice.specs.Cheapest.{cheapest}
use Rattle.def_choice.specs.Dissatisfaction.{dissatisfaction}
use Rattle.def_choice.proofs.Chosen.{cheapest_is_lightest, dissatisfaction_is_lightest}
use Rattle.ms_tree.specs.Shape.{shape}
use Rattle.ms_sat.proofs.Lightest.{least_weight}
use Rattle.ms_sat.proofs.weigh.costs.Goals as goal

pub returns-clause-least_sat : goal.returns-clause-least_sat
returns-clause-least_sat c =
    let t = shape c.args.valid.now.tree in
    let assets = c.args.assets.now in
    least_weight (Sat t assets) (cheapest t assets) c.least_costs.result.sat c.least_costs.ensures.sat
    (cheapest_is_lightest t assets c.args.valid.now.in_range.writable c.are_assets.ensures.held)

pub returns-clause-least_dsat : goal.returns-clause-least_dsat
returns-clause-least_dsat c =
    let t = shape c.args.valid.now.tree in
    let assets = c.args.assets.now in
    least_weight (Dsat t assets) (option_map reverse (dissatisfaction t)) c.least_costs.result.dsat c.least_costs.ensures.dsat
    (dissatisfaction_is_lightest t assets c.args.valid.now.in_range.writable)
