-- How far the writing of bytes has come.
use Rattle.std.specs.Prelude.{◌≡◌, ℕ, List, ◌++◌}
use Rattle.std.specs.declared.option.Option.{Option}
use Rattle.std.specs.Io.KnownBytes.{Appends}

-- part way through writing bytes: a front of them, `done`, was written, and `rest` is left
pub record WritesSoFar (old new : Option (List ℕ)) (bytes rest : List ℕ) : Type 0 where
  pub done : List ℕ
  pub whole : bytes ≡ done ++ rest
  pub appended : Appends old new done
