-- What a call read of a source.
use Rattle.std.specs.Prelude.{◌≡◌, ℕ, ◌≤◌, ⊤, List, length, Option, None, Some}
use Rattle.std.specs.Io.KnownBytes.{Consumes, IsAtEnd}
use Rattle.ms_io.specs.Sides.{Side}

-- a front of its bytes was read, and the rest is left
abbrev pub ReadsFront : (old new : Option (List ℕ)) → Type 0
ReadsFront old new = (front : List ℕ) × Consumes old new front

-- the source is as it was
pub record IsUnread (source : Side) : Type 0 where
  pub left : source.new ≡ source.old
  pub faults : source.now ≡ source.before

-- these are the bytes that are told, where any are
abbrev pub AreTold : Option (List ℕ) → (bytes : List ℕ) → Type 0
AreTold None bytes = ⊤
AreTold (Some told) bytes = told ≡ bytes

-- the source held these bytes, and was read to its end unless they are more than a limit
pub record Held (limit : ℕ) (source : Side) (bytes : List ℕ) : Type 0 where
  pub told : AreTold source.old bytes
  pub end : length bytes ≤ limit → IsAtEnd source.new
