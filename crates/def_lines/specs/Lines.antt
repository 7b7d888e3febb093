-- The lines of bytes: what stands before each line feed, and what stands behind the last one where it has a byte.
use Rattle.std.specs.Prelude.{ℕ, ◌==◌, List, [], ◌∷◌, ◌++◌, if◌then◌else◌}
use Rattle.def_script.specs.Bytes.{Bytes}

-- the line feed
abbrev pub LF : ℕ
LF = 10

-- bytes, cut behind each line feed: the lines that end in them, and what stands behind the last one
pub record Cut : Type 0 where
  pub ended : List Bytes
  pub rest : Bytes

-- with one byte more, which is no line feed, before the first line
abbrev pub byte_before : ℕ → (ended : List Bytes) → (rest : Bytes) → Cut
byte_before byte [] rest = record { ended = []; rest = byte ∷ rest }
byte_before byte (line ∷ ended) rest = record { ended = (byte ∷ line) ∷ ended; rest = rest }

-- with one byte more before them
abbrev pub cut_before : ℕ → Cut → Cut
cut_before byte c = if byte == LF then record { ended = [] ∷ c.ended; rest = c.rest } else byte_before byte c.ended c.rest

unfoldable pub cut : Bytes → Cut
cut [] = record { ended = []; rest = [] }
cut (byte ∷ bytes) = cut_before byte (cut bytes)

-- what stands behind the last line feed is a line where it has a byte
abbrev pub last_line : (rest : Bytes) → List Bytes
last_line [] = []
last_line (byte ∷ rest) = (byte ∷ rest) ∷ []

abbrev pub lines : Bytes → List Bytes
lines bytes = (cut bytes).ended ++ last_line (cut bytes).rest
