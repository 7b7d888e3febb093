-- What is added of a text of pieces with words for the key expressions.
use Rattle.std.specs.Prelude.{◌≡◌, List, [], ◌∷◌, ◌++◌}
use Rattle.def_script.specs.Bytes.{Bytes}
use Rattle.def_descriptor.specs.Pieces.{Piece, text_with}

-- the first word stands behind what was before, and the others are left: without one nothing is added
abbrev pub AddsFirst : (words : List Bytes) → (before after : Bytes) → (rest : List Bytes) → Type 0
AddsFirst [] before after rest = (after ≡ before) × (rest ≡ [])
AddsFirst (word ∷ words) before after rest = (after ≡ before ++ word) × (rest ≡ words)

-- a piece was added: with the words that are left, each text goes on as that of the piece and what is behind it
abbrev pub AddsPiece : Piece → (words : List Bytes) → (before after : Bytes) → (rest : List Bytes) → Type 0
AddsPiece piece words before after rest = (more : List Piece) → after ++ text_with rest more ≡ before ++ text_with words (piece ∷ more)
