-- The items of a witness, as they lie in two buffers.
use Rattle.std.specs.Prelude.{ℕ, List, length, map}
use Rattle.std.specs.List.{flat_map}
use Rattle.def_script.specs.Bytes.{Bytes}

pub record Joined : Type 0 where
  -- one after the other
  pub bytes : Bytes
  -- how many bytes each has
  pub lengths : List ℕ

abbrev pub joined : List Bytes → Joined
joined items = record { bytes = flat_map (λ (item : Bytes). item) items; lengths = map (λ (item : Bytes). length item) items }
