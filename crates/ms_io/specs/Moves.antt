-- What moves of bytes leave behind.
use Rattle.std.specs.Prelude.{ℕ, ◌<◌, ◌≤◌, List, length, take}
use Rattle.std.specs.declared.option.Option.{Option}
use Rattle.std.specs.Io.KnownBytes.{Appends, Consumes, IsAtEnd}

-- known bytes grow by a prefix of these
pub record AppendsPrefix (old new : Option (List ℕ)) (bytes : List ℕ) : Type 0 where
  pub count : ℕ
  pub at_most : count ≤ length bytes
  pub appended : Appends old new (take count bytes)

-- known bytes were given whole, to their end
pub record GivesAll (old new : Option (List ℕ)) (bytes : List ℕ) : Type 0 where
  pub given : Consumes old new bytes
  pub end : IsAtEnd new

-- a front of known bytes was given that is no longer than a limit, and one that is longer
pub record GivesWithin (old new : Option (List ℕ)) (limit : ℕ) : Type 0 where
  pub bytes : List ℕ
  pub within : length bytes ≤ limit
  pub given : Consumes old new bytes

pub record GivesOver (old new : Option (List ℕ)) (limit : ℕ) : Type 0 where
  pub bytes : List ℕ
  pub over : limit < length bytes
  pub given : Consumes old new bytes
