use Rattle.std.proofs.Common.{◌≡◌, ◌+◌, ◌<◌, ◌^◌, ◌∙◌, Some, None, sym, ap, arith}
use Rattle.ms_choice.specs.Choice.{lightest}
use Rattle.ms_choice.specs.Marks.{picked}
use Rattle.ms_chosen.specs.Scaffolding.Children.{lengths_of_keys}
use Rattle.ms_chosen.proofs.Bounds.{signatures_light}
use Rattle.ms_chosen.proofs.Keys.{signatures_weigh}
use Rattle.ms_chosen.proofs.Lengths.{lengths_found}
use Rattle.ms_chosen.proofs.weigh.choice_of_keys.Goals as goal

pub overflow_add-result : goal.overflow_add-result
overflow_add-result c =
    let assets = c.args.assets.now in
    let keys = c.args.keys.now in
    let k = c.args.k in
    let choice = c.in-Some.choice in
    let lengths = lengths_of_keys assets keys in
    let is : picked lengths (Some choice) ≡ lightest lengths k = sym (ap (picked lengths) c.in-Some.is) ∙ c.lightest_of.ensures lengths c.tally_of_keys-tally.ensures.told in
    let found = lengths_found assets keys k (Some choice) is in
    let light : choice.weight + k < 2 ^ 32 = signatures_light assets c.requires.are k keys (Some (choice.weight + k)) c.requires.few (sym found.weight ∙ sym (signatures_weigh assets k keys)) in
    omega (arith, light)

pub returns-in-Some : goal.returns-in-Some
returns-in-Some c =
    let lengths = lengths_of_keys c.args.assets.now c.args.keys.now in
    lengths_found c.args.assets.now c.args.keys.now c.args.k (Some c.in-Some.choice)
    (sym (ap (picked lengths) c.in-Some.is) ∙ c.lightest_of.ensures lengths c.tally_of_keys-tally.ensures.told)

pub returns-in-None : goal.returns-in-None
returns-in-None c =
    let lengths = lengths_of_keys c.args.assets.now c.args.keys.now in
    lengths_found c.args.assets.now c.args.keys.now c.args.k None
    (sym (ap (picked lengths) c.in-None.is) ∙ c.lightest_of.ensures lengths c.tally_of_keys-tally.ensures.told)
