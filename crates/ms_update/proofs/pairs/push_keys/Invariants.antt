use Rattle.std.proofs.Common.{◌≡◌, ◌++◌, drop, map}
use Rattle.def_update.specs.Known.{derivation_pair}
use Rattle.ms_update.specs.Seen.{pair_at, key_at}
use Rattle.ms_update.proofs.pairs.push_keys.Given as goal

abbrev pub invariant-keys : goal.invariant-keys
invariant-keys l =
    map pair_at l.pairs.items ++ map (derivation_pair l.type_number) (map key_at (drop l.known-index l.keys))
    ≡ map pair_at l.initial.pairs.items ++ map (derivation_pair l.type_number) (map key_at l.keys)
