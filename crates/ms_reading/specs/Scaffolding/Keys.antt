-- Keys beside their HASH160s, seen as keys.
use Rattle.std.specs.Prelude.{List, map}
use Rattle.def_tree.specs.Tree.{Key}
use Rattle.ms_reading.specs.declared.hashed.Hashed.{Hashed}

abbrev pub keys_of : List Hashed → List Key
keys_of hashed = map (λ h. h.key) hashed
