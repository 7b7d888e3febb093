-- The bytes of pairs. No public clause cites it, so it need not be believed.
use Rattle.std.specs.Prelude.{◌≡◌, ◌^◌, ◌<◌, length}
use Rattle.std.specs.List.{AllByRecursion}
use Rattle.def_script.specs.Bytes.{Bytes}
use Rattle.def_psbt.specs.Map.{Pair, Map, map_text}

-- a pair whose key isn't that which ends a map, and whose sizes can be spelled
pub record IsSpelled (pair : Pair) : Type 0 where
  pub some : 0 < length pair.key
  pub key : length pair.key < 2 ^ 64
  pub value : length pair.value < 2 ^ 64

-- these are the bytes of a map
pub record IsMapText (bytes : Bytes) : Type 0 where
  pub map : Map
  pub text : bytes ≡ map_text map
  pub spelled : AllByRecursion IsSpelled map
