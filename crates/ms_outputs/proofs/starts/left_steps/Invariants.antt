-- At each index the numbers of the steps so far, and of those behind them, are those of all.
use Rattle.std.proofs.Common.{◌≡◌, ℕ, ◌++◌, map, drop}
use Rattle.ms_outputs.specs.Starts.{left_number}
use Rattle.ms_outputs.proofs.Finding.{numbers_of}
use Rattle.ms_outputs.proofs.starts.left_steps.Given as goal

abbrev pub invariant-loop-way : goal.invariant-loop-way
invariant-loop-way l =
    (i : ℕ) → map (left_number i) l.left.items ++ numbers_of l.branch i (drop l.way-index l.ways) ≡ numbers_of l.branch i l.ways
