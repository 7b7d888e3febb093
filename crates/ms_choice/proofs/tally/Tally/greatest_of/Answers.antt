use Rattle.std.proofs.Common.{take, arith}
use Rattle.std.proofs.lemmas.Int.{ints}
use Rattle.std.proofs.lemmas.List.Sorted.{All-permutation, IsPermutation-trans}
use Rattle.ms_choice.specs.declared.children.Number.TheVariants.{First, Second, Third}
use Rattle.ms_choice.specs.Numbers.{difference, IsLightSlot}
use Rattle.ms_choice.proofs.Totals.{each_number}
use Rattle.ms_choice.proofs.Gains.{gain_of_permutation}
use Rattle.ms_choice.proofs.Tallies.{none_greatest, gain_low, greatest_told}
use Rattle.ms_choice.proofs.tally.Tally.greatest_of.Goals as goal

pub returns-in_default : goal.returns-in_default
returns-in_default c = λ n cs told. none_greatest n cs c.args.self.now c.args.slots.now told c.args.count (c.wanted.ensures.none c.in_default.is)

pub gain-second-requires-clause-light : goal.gain-second-requires-clause-light
gain-second-requires-clause-light c = All-permutation IsLightSlot _ _ c.gain-first.ensures.permutation c.requires.fits.light

pub gain-third-requires-clause-light : goal.gain-third-requires-clause-light
gain-third-requires-clause-light c =
    All-permutation IsLightSlot _ _ c.gain-second.ensures.permutation (All-permutation IsLightSlot _ _ c.gain-first.ensures.permutation c.requires.fits.light)

pub raised-requires-clause-low : goal.raised-requires-clause-low
raised-requires-clause-low c =
    let wanted = c.in-Some.ensures.some in
    let told = c.requires.told First in
    let low = gain_low First told.0 c.args.self.now c.args.slots.now told.1 c.args.count c.in-Some.wanted wanted.0 wanted.1 c.gain-first.result c.gain-first.ensures.gain in
    omega (arith, ints, low)

pub raised-requires-2-clause-low : goal.raised-requires-2-clause-low
raised-requires-2-clause-low c =
    let wanted = c.in-Some.ensures.some in
    let told = c.requires.told Second in
    let free = take c.args.self.now.free c.args.slots.now in
    let gain = gain_of_permutation (difference Second) free c.gain-first.new.slots c.in-Some.wanted c.gain-second.result c.gain-first.ensures.permutation c.gain-second.ensures.gain in
    let low = gain_low Second told.0 c.args.self.now c.args.slots.now told.1 c.args.count c.in-Some.wanted wanted.0 wanted.1 c.gain-second.result gain in
    omega (arith, ints, low)

pub raised-requires-3-clause-low : goal.raised-requires-3-clause-low
raised-requires-3-clause-low c =
    let wanted = c.in-Some.ensures.some in
    let told = c.requires.told Third in
    let free = take c.args.self.now.free c.args.slots.now in
    let moved = IsPermutation-trans free c.gain-first.new.slots c.gain-second.new.slots c.gain-first.ensures.permutation c.gain-second.ensures.permutation in
    let gain = gain_of_permutation (difference Third) free c.gain-second.new.slots c.in-Some.wanted c.gain-third.result moved c.gain-third.ensures.gain in
    let low = gain_low Third told.0 c.args.self.now c.args.slots.now told.1 c.args.count c.in-Some.wanted wanted.0 wanted.1 c.gain-third.result gain in
    omega (arith, ints, low)

pub returns : goal.returns
returns c =
    let t = c.args.self.now in
    let slots = c.args.slots.now in
    let count = c.args.count in
    let m = c.in-Some.wanted in
    let wanted = c.in-Some.ensures.some in
    let free = take t.free slots in
    let moved = IsPermutation-trans free c.gain-first.new.slots c.gain-second.new.slots c.gain-first.ensures.permutation c.gain-second.ensures.permutation in
    let first = c.gain-first.ensures.gain in
    let second = gain_of_permutation (difference Second) free c.gain-first.new.slots m c.gain-second.result c.gain-first.ensures.permutation c.gain-second.ensures.gain in
    let third = gain_of_permutation (difference Third) free c.gain-second.new.slots m c.gain-third.result moved c.gain-third.ensures.gain in
    each_number _
    (λ cs told. greatest_told First cs t slots told count m wanted.0 wanted.1 c.raised.result c.gain-first.result first (omega (arith, ints, c.raised.ensures)))
    (λ cs told. greatest_told Second cs t slots told count m wanted.0 wanted.1 c.raised-2.result c.gain-second.result second (omega (arith, ints, c.raised-2.ensures)))
    (λ cs told. greatest_told Third cs t slots told count m wanted.0 wanted.1 c.raised-3.result c.gain-third.result third (omega (arith, ints, c.raised-3.ensures)))
