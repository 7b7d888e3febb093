use Rattle.std.proofs.Common.{◌≡◌, ◌+◌, ◌-◌, ◌*◌, ◌/◌, ◌++◌, length}
use Rattle.ms_arrays.specs.Pieces.{PREIMAGE_SIZE, preimages_at, preimages_in}
use Rattle.ms_arrays.proofs.cutting.add_preimages.Given as goal

abbrev pub invariant-loop : goal.invariant-loop
invariant-loop l = record {
  rest : length l.rest + PREIMAGE_SIZE * l.counter ≡ length l.preimages;
  locks : l.assets.locks ≡ l.initial.assets.locks;
  pairs : l.assets.pairs ≡ l.initial.assets.pairs;
  preimages :
      l.assets.preimages ++ preimages_at (length l.preimages / PREIMAGE_SIZE - l.counter) l.rest
      ≡ l.initial.assets.preimages ++ preimages_in l.preimages;
}
