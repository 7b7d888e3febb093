use Rattle.std.proofs.Common.{◌≡◌, ◌+◌, ◌≤◌, sum, drop}
use Rattle.ms_arrays.proofs.cutting.add_up_to.Given as goal

abbrev pub invariant-loop-length : goal.invariant-loop-length
invariant-loop-length l = record {
  within : l.rest ≤ l.whole;
  rest : sum l.lengths + l.rest ≡ l.whole + sum (drop l.length-index l.lengths);
}
