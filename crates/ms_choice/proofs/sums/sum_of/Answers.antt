use Rattle.std.proofs.Common.{pos, arith}
use Rattle.std.proofs.lemmas.Int.{ints}
use borrow.Author.Differences.{up, down}
use Rattle.ms_choice.specs.declared.slot.Slot.{Slot}
use Rattle.ms_choice.specs.Numbers.{difference}
use Rattle.ms_choice.proofs.Totals.{total_more}
use Rattle.ms_choice.proofs.sums.sum_of.Goals as goal

pub loop-slot-preserved : goal.loop-slot-preserved
loop-slot-preserved c =
    let number = c.args.number in
    let slots = c.args.slots.now in
    let i = c.loop-slot.slot-index in
    let none : Slot = record { first = pos 0; place = 0; second = pos 0; third = pos 0 } in
    let is = c.of-sum.ensures in
    let small = c.requires.light i none c.loop-slot-test.true number in
    let downs = total_more (λ s. down (difference number s)) slots i none c.loop-slot-test.true in
    let ups = total_more (λ s. up (difference number s)) slots i none c.loop-slot-test.true in
    record {
      sum = omega (arith, ints, is, downs, ups, c.loop-slot.invariant.sum);
      low = omega (arith, ints, is, small.0, small.1, c.loop-slot.invariant.low);
      high = omega (arith, ints, is, small.0, small.1, c.loop-slot.invariant.high);
    }
