use Rattle.std.proofs.Common.{◌-◌, ◌∙◌, Option, refl, arith, length, take, length-take}
use Rattle.std.specs.List.{slice_get}
use Rattle.std.proofs.lemmas.Int.{ints}
use Rattle.std.proofs.lemmas.List.Elements.{All-take}
use Rattle.std.proofs.lemmas.List.Sorted.{All-permutation, length_permutation}
use Rattle.ms_choice.specs.declared.slot.Slot.{Slot}
use Rattle.ms_choice.specs.declared.children.Number.TheVariants.{First}
use Rattle.ms_choice.specs.Numbers.{IsLightSlot}
use Rattle.ms_choice.proofs.Tallies.{Sorted, none_lightest, sum_low, lightest_told}
use Rattle.ms_choice.proofs.tally.Tally.lightest_of.Goals as goal

pub returns-in_default : goal.returns-in_default
returns-in_default c = λ cs told. none_lightest First cs c.args.self.now c.args.slots.now told c.args.count (c.wanted.ensures.none c.in_default.is)

pub sum_of-requires-clause-light : goal.sum_of-requires-clause-light
sum_of-requires-clause-light c =
    All-take IsLightSlot _ _ (All-permutation IsLightSlot _ _ c.sort_unstable.ensures.permutation c.requires.fits.light)

pub raised-requires-clause-low : goal.raised-requires-clause-low
raised-requires-clause-low c =
    let m = c.in-Some.wanted in
    let t = c.args.self.now in
    let slots = c.args.slots.now in
    let ys = c.sort_unstable.new.self in
    let last : Option Slot = slice_get (take m ys) (length (take m ys) - 1) in
    let same = length_permutation (take t.free slots) ys c.sort_unstable.ensures.permutation in
    let front = length-take t.free slots in
    let sorted : Sorted t slots m ys last c.sum_of.result =
    record {
      moved = c.sort_unstable.ensures.permutation;
      sorted = c.sort_unstable.ensures.sorted;
      enough = omega (arith, same, front, c.requires.fits.room, c.in-Some.ensures.some.2);
      is_last = refl;
      sum = c.sum_of.ensures.sum;
    }
    in
    let low = sum_low c.requires.told.0 t slots c.requires.told.1 m ys last c.sum_of.result sorted in
    omega (arith, ints, low)

pub returns : goal.returns
returns c = λ cs told.
    let m = c.in-Some.wanted in
    let t = c.args.self.now in
    let slots = c.args.slots.now in
    let ys = c.sort_unstable.new.self in
    let wanted = c.in-Some.ensures.some in
    let same = length_permutation (take t.free slots) ys c.sort_unstable.ensures.permutation in
    let front = length-take t.free slots in
    let sorted : Sorted t slots m ys c.copied.result c.sum_of.result =
    record {
      moved = c.sort_unstable.ensures.permutation;
      sorted = c.sort_unstable.ensures.sorted;
      enough = omega (arith, same, front, c.requires.fits.room, wanted.2);
      is_last = c.copied.ensures ∙ c.last.ensures.value;
      sum = c.sum_of.ensures.sum;
    }
    in
    lightest_told cs t slots told c.args.count m wanted.0 wanted.1 ys
    (record { weight = c.raised.result; last = c.copied.result }) c.sum_of.result sorted
    (omega (arith, ints, c.raised.ensures))
