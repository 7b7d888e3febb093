-- The sum so far, and that of the numbers that are left.
use Rattle.std.proofs.Common.{◌≡◌, ◌+◌, drop}
use Rattle.ms_choice.specs.Sums.{total}
use Rattle.ms_policy.proofs.keys.sum_of.Given as goal

abbrev pub invariant-loop-n : goal.invariant-loop-n
invariant-loop-n l = l.sum + total (λ n. n) (drop l.n-index l.numbers) ≡ total (λ n. n) l.numbers
