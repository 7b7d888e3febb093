use Rattle.std.proofs.Common.{◌++◌, ◌∷◌, [], map, ◌∙◌, sym, ap, subst}
use Rattle.ms_chosen.specs.Scaffolding.Costs.{costs_of, sum_of}
use Rattle.ms_chosen.specs.Rule.{child_by, free_child_by}
use Rattle.ms_choice.specs.declared.children.Number.TheVariants.{First}
use Rattle.ms_choice.specs.Tally.{Tells}
use Rattle.ms_choice.specs.Kinds.{with_child, Counts}
use Rattle.ms_chosen.proofs.Counts.{child_costs, costs_push, counts_push, dsat_push}
use Rattle.ms_chosen.proofs.table.Children.add.Goals as goal

pub returns-clause-told : goal.returns-clause-told
returns-clause-told c = λ rule assets ts t told h.
    let is = child_costs rule assets t c.args.child.now c.as_child.result h c.as_child.ensures.sat c.as_child.ensures.dsat in
    let more = costs_push (child_by rule assets) ts t c.as_child.result is in
    let count = counts_push rule assets ts t c.args.child.now c.args.self.now.free told.free h in
    let flag = ap (λ b. with_child c.args.self.now.free c.args.child.now.free b) (sym c.is_some.ensures) in
    record {
      tally = subst (λ cs. Tells First cs c.add_costs.new.self c.add_costs.new.slots) more (c.add_costs.ensures.told (costs_of (map (child_by rule assets) ts)) told.tally);
      free = subst (Counts (costs_of (map (free_child_by rule assets) (ts ++ t ∷ [])))) (flag ∙ sym c.add.ensures) count;
      dsat = c.with_others-self.ensures ∙ ap (λ n. sum_of n c.args.child.now.costs.dsat) told.dsat ∙ ap (sum_of _) h.dsat ∙ sym (dsat_push ts t);
    }
