use Rattle.std.proofs.Common.{◌∙◌, sym, arith}
use Rattle.def_choice.specs.Cheapest.{cheapest_of}
use Rattle.def_choice.specs.Dissatisfaction.{dissatisfaction}
use Rattle.ms_tree.specs.Shape.{shape}
use Rattle.ms_chosen.proofs.Valid.{weight_of-reverse, typed_valid}
use Rattle.ms_chosen.proofs.weigh.least_costs.Goals as goal

pub weigh-requires-clause-ready : goal.weigh-requires-clause-ready
weigh-requires-clause-ready c = record {
  in_range = c.requires.in_range;
  typed = typed_valid (shape c.args.tree.now) c.requires.valid;
  room = omega (arith, c.deref_mut.ensures.len, c.requires.room);
}

pub returns-clause-sat : goal.returns-clause-sat
returns-clause-sat c = c.weigh.ensures.costs.sat ∙ sym (weight_of-reverse (cheapest_of c.args.assets.now (shape c.args.tree.now)))

pub returns-clause-dsat : goal.returns-clause-dsat
returns-clause-dsat c = c.weigh.ensures.costs.dsat ∙ sym (weight_of-reverse (dissatisfaction (shape c.args.tree.now)))
