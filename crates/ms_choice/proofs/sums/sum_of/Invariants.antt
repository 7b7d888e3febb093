use Rattle.std.proofs.Common.{◌≡◌, ◌+◌, ◌*◌, ◌≤◌, ◌^◌, take}
use borrow.Author.Differences.{up, down}
use Rattle.ms_choice.specs.Sums.{total}
use Rattle.ms_choice.specs.Numbers.{difference}
use Rattle.ms_choice.proofs.sums.sum_of.Given as goal

abbrev pub invariant-loop-slot : goal.invariant-loop-slot
invariant-loop-slot l = record {
  sum : up l.sum + total (λ s. down (difference l.number s)) (take l.slot-index l.slots) ≡ down l.sum + total (λ s. up (difference l.number s)) (take l.slot-index l.slots);
  low : down l.sum ≤ up l.sum + l.slot-index * 2 ^ 32;
  high : up l.sum ≤ down l.sum + l.slot-index * 2 ^ 32;
}
