use Rattle.std.proofs.Common.{◌∙◌, sym, ap}
use Rattle.ms_chosen.specs.Scaffolding.Costs.{weight_of}
use Rattle.ms_chosen.proofs.Rules.{free_multi, multi_by}
use Rattle.ms_chosen.proofs.table.weigh_multi.Goals as goal

pub returns : goal.returns
returns c = λ rule.
    let assets = c.args.assets.now in
    let keys = c.args.keys.now in
    record {
      sat = c.of_multi-choice.ensures.sat ∙ sym (ap weight_of (multi_by rule assets c.args.k keys));
      dsat = c.of_multi-choice.ensures.dsat;
      free = free_multi rule assets c.args.k keys c.requires.some;
      choice = c.of_multi-choice.ensures.choice;
    }
