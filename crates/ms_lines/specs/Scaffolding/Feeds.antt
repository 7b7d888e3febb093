-- Bytes without a line feed.
use Rattle.std.specs.Prelude.{◌≡◌, ◌≢◌, ⊤, [], ◌∷◌, ◌++◌}
use Rattle.def_script.specs.Bytes.{Bytes}
use Rattle.def_lines.specs.Lines.{LF}

abbrev pub HasNoFeed : Bytes → Type 0
HasNoFeed [] = ⊤
HasNoFeed (byte ∷ bytes) = (byte ≢ LF) × HasNoFeed bytes

-- bytes up to their first line feed, and behind it
pub record IsFirstLine (bytes line rest : Bytes) : Type 0 where
  pub whole : bytes ≡ line ++ LF ∷ rest
  pub free : HasNoFeed line
