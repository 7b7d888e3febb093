-- What printing leaves of a text that grows, where it stops for want of memory.
use Rattle.std.specs.Prelude.{◌≡◌, ℕ, ◌++◌, take}
use Rattle.def_script.specs.Bytes.{Bytes}

-- a front of what was to be added was added behind what stood before, which is kept
pub record AddsFront (old new added : Bytes) : Type 0 where
  pub count : ℕ
  pub kept : new ≡ old ++ take count added
