-- A map at the front of bytes. No public clause cites it, so it need not be believed.
use Rattle.std.specs.Prelude.{◌≡◌, ◌++◌}
use Rattle.std.specs.List.{AllByRecursion}
use Rattle.def_script.specs.Bytes.{Bytes}
use Rattle.def_psbt.specs.Map.{Map, map_text}
use Rattle.ms_psbt.specs.Scaffolding.Pairs.{IsSpelled}

-- the bytes of a map stand at the front
pub record BeginsWithMap (bytes : Bytes) : Type 0 where
  pub map : Map
  pub rest : Bytes
  pub text : bytes ≡ map_text map ++ rest
  pub spelled : AllByRecursion IsSpelled map
