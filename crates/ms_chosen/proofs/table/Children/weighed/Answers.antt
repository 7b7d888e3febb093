use Rattle.std.proofs.Common.{map, ◌∙◌, sym, ap, subst}
use Rattle.ms_chosen.specs.Scaffolding.Costs.{weight_of, costs_of}
use Rattle.ms_chosen.specs.Rule.{child_by}
use Rattle.ms_chosen.specs.Scaffolding.Table.{IsFound}
use Rattle.ms_chosen.proofs.Counts.{found_weight}
use Rattle.ms_chosen.proofs.Picked.{found_choice}
use Rattle.ms_chosen.proofs.Rules.{children_are, thresh_by, free_thresh}
use Rattle.ms_chosen.proofs.table.Children.weighed.Goals as goal

pub returns : goal.returns
returns c = λ rule assets ts told.
    let cs = map (child_by rule assets) ts in
    let k = c.args.count in
    let found = found_choice cs k c.lightest_of-choice.result (c.lightest_of-choice.ensures (costs_of cs) told.tally) in
    record {
      sat = c.weight_of_choice.ensures ∙ found_weight (costs_of cs) cs k c.lightest_of-choice.result found ∙ sym (ap weight_of (thresh_by rule assets k ts));
      dsat = told.dsat;
      free = c.allows.ensures ∙ free_thresh rule assets k ts c.args.self.now.free c.requires.some told.free;
      choice = subst (λ l. IsFound (costs_of l) l k c.lightest_of-choice.result) (sym (children_are rule assets ts)) found;
    }
