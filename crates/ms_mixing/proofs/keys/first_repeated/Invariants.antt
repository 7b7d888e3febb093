use Rattle.std.proofs.Common.{◌≡◌, [], drop, take}
use Rattle.ms_mixing.specs.Scaffolding.Repeats.{repeats_first}
use Rattle.ms_mixing.proofs.keys.first_repeated.Given as goal

abbrev pub invariant-loop-index : goal.invariant-loop-index
invariant-loop-index l = repeats_first (take l.index l.entries) (drop l.index l.entries) ≡ repeats_first [] l.entries
