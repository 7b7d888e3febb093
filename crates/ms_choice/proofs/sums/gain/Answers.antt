use Rattle.std.proofs.Common.{w64, rules}
use Rattle.std.proofs.lemmas.Int.{to_z-of_z}
use Rattle.std.proofs.lemmas.List.Elements.{All-take, All-drop}
use Rattle.std.proofs.lemmas.List.Sorted.{All-permutation}
use mir.Val.{SFits}
use Rattle.ms_choice.specs.Numbers.{difference, IsLightSlot}
use Rattle.ms_choice.proofs.Gains.{gain_from}
use Rattle.ms_choice.proofs.sums.gain.Goals as goal

pub sum_of-requires-clause-light : goal.sum_of-requires-clause-light
sum_of-requires-clause-light c =
    All-take IsLightSlot _ _ (All-drop IsLightSlot _ _ (All-permutation IsLightSlot _ _ c.sort_by.ensures.permutation c.requires.light))

pub returns-clause-gain : goal.returns-clause-gain
returns-clause-gain c =
    let fits : SFits w64 c.sum_of.result = search rules in
    rw (to_z-of_z w64 c.sum_of.result fits)
    (gain_from (difference c.args.number) c.args.slots.now c.sort_by.new.slots c.args.count c.sum_of.result c.sort_by.ensures.permutation
    c.sort_by.ensures.sorted c.requires.enough c.sum_of.ensures.sum)
