use Rattle.std.proofs.Common.{◌-◌, ◌∙◌, ap, subst, sym, arith, length, take}
use Rattle.def_tree.specs.Size.{nodes}
use Rattle.ms_tree.specs.Shape.{shape}
use Rattle.ms_work.proofs.Children.{ready_children}
use Rattle.ms_chosen.specs.Scaffolding.Costs.{weight_of, costs_of}
use Rattle.ms_chosen.specs.Scaffolding.Children.{child_of_tree, children_of}
use Rattle.ms_choice.specs.declared.children.Number.TheVariants.{First}
use Rattle.ms_choice.specs.Tally.{Tells}
use Rattle.ms_chosen.proofs.Picked.{chosen_weight, choice_weight}
use Rattle.std.specs.Option.{option_map}
use Rattle.ms_choice.specs.Choice.{Pick}
use Rattle.ms_chosen.proofs.Light.{light_by}
use Rattle.def_choice.specs.declared.choice.Choice.TheVariants.{Cheapest}
use Rattle.ms_choice.proofs.Tallies.{told_written}
use Rattle.ms_chosen.proofs.Trees.{thresh_chosen, all_chosen, costs_child, costs_more}
use Rattle.ms_chosen.proofs.Weighed.{weighs_and_or, weighs_two, weighs_wrap}
use Rattle.ms_chosen.proofs.weigh.+weigh.Goals as goal

pub weigh-returns-clause-light : goal.weigh-returns-clause-light
weigh-returns-clause-light t c =
    let is = c.of_node.ensures in
    light_by Cheapest c.args.assets.now (shape c.args.tree.now) c.of_node.result c.requires.ready.in_range c.requires.ready.typed c.requires.are is.sat is.dsat

pub of_node-of_thresh-requires : goal.of_node-of_thresh-requires
of_node-of_thresh-requires t c =
    let shows = c.in-Thresh.ensures.shows in
    (omega (arith, c.decreases, ap nodes shows), (ready_children _ c.in-Thresh.k c.in-Thresh.children.now _ shows c.requires.ready, c.requires.are))

pub of_thresh-returns : goal.of_thresh-returns
of_thresh-returns t c =
    let xs = c.args.children.now in
    let assets = c.args.assets.now in
    let costs = costs_of (children_of assets xs) in
    record {
      sat = c.weight_of_choice-sat.ensures ∙
          choice_weight costs c.lightest_of.result ∙
          ap (option_map (λ (pick : Pick). pick.0)) (c.lightest_of.ensures costs c.tally_of-tally.ensures.told) ∙
          chosen_weight (children_of assets xs) c.args.k ∙
          sym (ap weight_of (thresh_chosen assets c.args.k xs));
      dsat = c.first_of-dsat.ensures ∙
          c.none_of.ensures.least First costs c.tally_of-tally.new.slots c.tally_of-tally.ensures.told ∙
          chosen_weight (children_of assets xs) 0 ∙
          sym (ap weight_of (all_chosen assets xs));
    }

pub tally_of-loop-child-preserved : goal.tally_of-loop-child-preserved
tally_of-loop-child-preserved t c =
    let assets = c.args.assets.now in
    let xs = c.args.children.now in
    let i = c.loop-child.child-index in
    let tally = c.loop-child.tally in
    let slots = c.loop-child.slots in
    let before = children_of assets (take i xs) in
    let told = told_written First (costs_of before) tally slots c.weigh-costs.new.slots (length slots - tally.free) c.loop-child.invariant.fits.room c.loop-child.invariant.told in
    let x = c.child-item.result in
    let is = costs_child assets x c.weigh-costs.result c.weigh-costs.ensures.costs in
    let more = costs_more (λ y. child_of_tree assets (shape y)) xs i x c.weigh-costs.result c.loop-child-test.true c.child-item.is is in
    record {
      fits = c.add_costs.ensures.fits;
      told = subst (λ cs. Tells First cs c.add_costs.new.self c.add_costs.new.slots) more (c.add_costs.ensures.told (costs_of before) told);
      free = omega (arith, c.add_costs.ensures.free, c.loop-child.invariant.free);
      place = omega (arith, c.add_costs.ensures.place, c.loop-child.invariant.place);
    }

pub of_and_or-returns : goal.of_and_or-returns
of_and_or-returns t c =
    weighs_and_or c.args.assets.now _ _ _ _ _ _ _ _ c.of_row.ensures c.and_or.ensures c.weigh-x.ensures.costs c.weigh-y.ensures.costs c.weigh-z.ensures.costs

pub of_two-returns : goal.of_two-returns
of_two-returns t c = weighs_two c.args.assets.now c.args.kind _ _ _ _ _ _ c.of_row.ensures c.two.ensures c.weigh-x.ensures.costs c.weigh-z.ensures.costs

pub of_wrap-returns : goal.of_wrap-returns
of_wrap-returns t c = weighs_wrap c.args.assets.now c.args.wrapper _ _ _ _ c.of_row.ensures c.wrap.ensures c.weigh-x.ensures.costs
