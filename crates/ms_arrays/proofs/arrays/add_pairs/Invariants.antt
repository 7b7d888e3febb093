use Rattle.std.proofs.Common.{◌≡◌, ◌++◌, drop}
use Rattle.ms_arrays.proofs.arrays.add_pairs.Given as goal

abbrev pub invariant-loop-pair : goal.invariant-loop-pair
invariant-loop-pair l =
    record l.assets { pairs = l.assets.pairs ++ drop l.pair-index l.pairs } ≡ record l.initial.assets { pairs = l.initial.assets.pairs ++ l.pairs }
