use Rattle.std.proofs.Common.{◌≡◌, ◌∙◌, ◌+◌, ◌*◌, [], ◌∷◌, sym, ap, arith, Some}
use Rattle.def_satisfaction.specs.Rows.{EMPTY}
use Rattle.def_choice.specs.Cheapest.{signatures}
use Rattle.ms_chosen.specs.Scaffolding.Children.{children_of_keys, lengths_of_keys}
use Rattle.ms_chosen.proofs.Bounds.{signatures_light, weight-replicate}
use Rattle.ms_chosen.proofs.Counts.{found_weight}
use Rattle.ms_chosen.proofs.Keys.{signatures_weigh}
use Rattle.ms_chosen.proofs.Weights.{both_weighs}
use Rattle.ms_chosen.proofs.weigh.of_multi.Goals as goal

pub both-requires-clause-above : goal.both-requires-clause-above
both-requires-clause-above c =
    let assets = c.args.assets.now in
    let keys = c.args.keys.now in
    signatures_light assets c.requires.are c.args.k keys c.weight_of_choice-signatures.result c.requires.few
    (c.weight_of_choice-signatures.ensures ∙ found_weight (lengths_of_keys assets keys)
    (children_of_keys assets keys) c.args.k c.choice_of_keys-choice.result c.choice_of_keys-choice.ensures ∙ sym (signatures_weigh assets c.args.k keys))

pub returns-clause-sat : goal.returns-clause-sat
returns-clause-sat c =
    let assets = c.args.assets.now in
    let keys = c.args.keys.now in
    c.both.ensures ∙
    both_weighs (Some c.of_item.result) c.weight_of_choice-signatures.result (Some (EMPTY ∷ [])) (signatures assets c.args.k keys)
    (ap Some c.of_item.ensures)
    (c.weight_of_choice-signatures.ensures ∙ found_weight (lengths_of_keys assets keys)
    (children_of_keys assets keys) c.args.k c.choice_of_keys-choice.result c.choice_of_keys-choice.ensures ∙ sym (signatures_weigh assets c.args.k keys))

pub returns-clause-dsat : goal.returns-clause-dsat
returns-clause-dsat c =
    let items = weight-replicate (c.args.k + 1) in
    let times : (c.args.k + 1) * c.of_item-2.result ≡ (c.args.k + 1) * 1 = ap (λ n. (c.args.k + 1) * n) c.of_item-2.ensures in
    ap Some (omega (arith, items, times))
