use Rattle.std.proofs.Common.{◌≡◌, take, option_map}
use Rattle.def_assets.specs.Assets.{sigs_with, shortest}
use Rattle.ms_held.proofs.signatures.shortest_by_walk.Given as goal

abbrev pub invariant-pairs : goal.invariant-pairs
invariant-pairs l = option_map (λ sig. sig.now) l.found ≡ shortest (sigs_with (take l.pair-index l.table) l.key)
