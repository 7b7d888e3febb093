-- The text of pieces with words for the key expressions, piece by piece.
use Rattle.std.proofs.Common.{◌≡◌, ℕ, ◌+◌, ◌<◌, List, [], ◌∷◌, ◌++◌, length, map, drop, get_or, ap, ◌∙◌, sym, append_assoc}
use Rattle.def_script.specs.Bytes.{Bytes}
use Rattle.def_descriptor.specs.Expression.{Expression}
use Rattle.def_descriptor.specs.Pieces.{plain, key, text_with}
use Rattle.ms_descriptor.specs.declared.pieces.Piece.{Piece as OwnPiece}
use Rattle.ms_descriptor.specs.Miniscripts.{piece_at}
use Rattle.ms_outputs.specs.Texts.{AddsFirst, AddsPiece}
use Rattle.ms_outputs.proofs.Lists.{left_of}

-- ---- a piece

pub adds_token : (at : ℕ) (bytes : Bytes) (words : List Bytes) (before after : Bytes) → after ≡ before ++ bytes → AddsPiece (plain at bytes) words before after words
adds_token at bytes words before after e = λ more. ap (λ (z : Bytes). z ++ text_with words more) e ∙ append_assoc before bytes (text_with words more)

pub adds_key : (expression : Expression) (words : List Bytes) (before after : Bytes) (rest : List Bytes) → AddsFirst words before after rest
    → AddsPiece (key expression) words before after rest
adds_key expression [] before after rest h = λ more. ap (λ (z : Bytes). z ++ text_with rest more) h.0 ∙ ap (λ (z : List Bytes). before ++ text_with z more) h.1
adds_key expression (word ∷ words) before after rest h = λ more.
    ap (λ (z : Bytes). z ++ text_with rest more) h.0
    ∙ (ap (λ (z : List Bytes). (before ++ word) ++ text_with z more) h.1 ∙ append_assoc before word (text_with words more))

-- ---- one piece after another

pub piece_more : (text : Bytes) (pieces : List OwnPiece) (i : ℕ) (p : OwnPiece) (words rest : List Bytes) (before after whole : Bytes) → i < length pieces → p ≡ get_or pieces i p
    → AddsPiece (piece_at text p) words before after rest → before ++ text_with words (map (piece_at text) (drop i pieces)) ≡ whole
    → after ++ text_with rest (map (piece_at text) (drop (i + 1) pieces)) ≡ whole
piece_more text pieces i p words rest before after whole inside is adds h =
    adds (map (piece_at text) (drop (i + 1) pieces))
    ∙ (ap (λ (z : List OwnPiece). before ++ text_with words (map (piece_at text) z)) (sym (left_of pieces i p inside is)) ∙ h)
