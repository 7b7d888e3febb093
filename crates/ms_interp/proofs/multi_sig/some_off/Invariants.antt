use Rattle.std.proofs.Common.{◌≡◌, ◌-◌, ◌≤◌, ◌++◌, length}
use Rattle.ms_interp.proofs.multi_sig.some_off.Given as goal

abbrev pub invariant-loop-main : goal.invariant-loop-main
invariant-loop-main l = record {
  within : length l.taken.items ≤ l.n;
  enough : l.n ≤ length l.fn.main;
  split : l.taken.items ++ l.main ≡ l.fn.main;
}

abbrev pub decreases-loop-main : goal.decreases-loop-main
decreases-loop-main l = l.n - length l.taken.items
