use Rattle.std.proofs.Common.{sym, ◌∙◌, ap}
use Rattle.ms_chosen.specs.Scaffolding.Costs.{weight_of}
use Rattle.ms_chosen.proofs.table.weigh_row.Goals as goal

pub returns : goal.returns
returns c = λ rule assets t row seen choice.
    let paid = c.price_of_sat-sat.ensures rule assets seen.0 in
    record {
      sat = paid.0 ∙ sym (ap weight_of (row.sat rule assets));
      dsat = c.price_of_dsat.ensures rule assets seen.1 ∙ sym (ap weight_of (row.dsat rule assets));
      free = paid.1 ∙ sym (row.free rule assets);
      choice = choice;
    }
