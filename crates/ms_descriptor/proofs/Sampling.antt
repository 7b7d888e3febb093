-- The text of pieces with a key in the place of each expression, and the places in it, piece by piece.
use Rattle.std.proofs.Common.{◌≡◌, ℕ, zero, suc, ◌+◌, ◌-◌, ◌<◌, ◌≤◌, true, false, List, [], ◌∷◌, ◌++◌, length, map, drop, get_or, replicate, ap, ◌∙◌, refl, sym, arith, append-nil, append_assoc, drop-cons, length-take-le, length-drop, Option, Some, None}
use Rattle.std.specs.Prelude.{nat_lt}
use Rattle.std.proofs.lemmas.Bool.{cond-true, cond-false}
use Rattle.def_script.specs.Bytes.{Bytes}
use Rattle.def_descriptor.specs.declared.DescriptorFault.{DescriptorFault}
use Rattle.def_descriptor.specs.Token.{place}
use Rattle.def_descriptor.specs.Expression.{Expression}
use Rattle.def_descriptor.specs.Pieces.{Piece, plain, key, text_with, length_in_text, offset_of, place_of}
use Rattle.def_descriptor.specs.Answer.{ANY_KEY, sample}
use Rattle.ms_paths.proofs.Places.{place_is}
use Rattle.ms_descriptor.specs.declared.pieces.Piece.{Piece as OwnPiece}
use Rattle.ms_descriptor.specs.declared.pieces.Piece.TheVariants as own
use Rattle.ms_descriptor.specs.Miniscripts.{piece_at, piece_offset, piece_length, IsWithin, rest_at, end_at}

-- with one word for all keys
filled : (word : Bytes) → List Piece → Bytes
filled word [] = []
filled word (plain at bytes ∷ ps) = bytes ++ filled word ps
filled word (key expression ∷ ps) = word ++ filled word ps

-- a list of as many words as there are pieces has enough
filled_is : (word : Bytes) (count : ℕ) (ps : List Piece) → length ps ≤ count → text_with (replicate count word) ps ≡ filled word ps
unfolding filled
filled_is word count [] h = refl
filled_is word count (plain at bytes ∷ ps) h = ap (λ (z : Bytes). bytes ++ z) (filled_is word count ps (omega (arith, h)))
filled_is word zero (key expression ∷ ps) h = absurd (omega (arith, h))
filled_is word (suc count) (key expression ∷ ps) h = ap (λ (z : Bytes). word ++ z) (filled_is word count ps (omega (arith, h)))

filled_first : (word : Bytes) (p : Piece) (ps : List Piece) → filled word (p ∷ ps) ≡ filled word (p ∷ []) ++ filled word ps
unfolding filled
filled_first word (plain at bytes) ps = ap (λ (z : Bytes). z ++ filled word ps) (sym (append-nil bytes))
filled_first word (key expression) ps = ap (λ (z : Bytes). z ++ filled word ps) (sym (append-nil word))

sample_is : (ps : List Piece) → sample ps ≡ filled ANY_KEY ps
sample_is ps = filled_is ANY_KEY (length ps) ps (omega arith)

-- the text of the first piece, and that of the others
pub sample_first : (p : Piece) (ps : List Piece) → sample (p ∷ ps) ≡ sample (p ∷ []) ++ sample ps
sample_first p ps =
    sample_is (p ∷ ps)
    ∙ (filled_first ANY_KEY p ps
    ∙ (ap (λ (z : Bytes). z ++ filled ANY_KEY ps) (sym (sample_is (p ∷ []))) ∙ ap (λ (z : Bytes). sample (p ∷ []) ++ z) (sym (sample_is ps))))

pub sample_plain : (at : ℕ) (bytes : Bytes) → bytes ≡ sample (plain at bytes ∷ [])
unfolding filled
sample_plain at bytes = sym (append-nil bytes) ∙ sym (sample_is (plain at bytes ∷ []))

pub sample_key : (expression : Expression) → ANY_KEY ≡ sample (key expression ∷ [])
unfolding filled
sample_key expression = sym (append-nil ANY_KEY) ∙ sym (sample_is (key expression ∷ []))

-- a name before the others
pub sample_name : (at : ℕ) (name : Bytes) (ps : List Piece) → sample (plain at name ∷ ps) ≡ name ++ sample ps
sample_name at name ps = sample_first (plain at name) ps ∙ ap (λ (z : Bytes). z ++ sample ps) (sym (sample_plain at name))

-- ---- a piece of the code's

pub length_is : (text : Bytes) (p : OwnPiece) → IsWithin text p → length_in_text (piece_at text p) ≡ piece_length p
length_is text (own.Plain at end) h =
    length-take-le (end - at) (drop at text) (omega (arith, length-drop at text, h.0, h.1))
length_is text (own.Key expression) h = refl

pub offset_is : (text : Bytes) (p : OwnPiece) → offset_of (piece_at text p) ≡ piece_offset p
offset_is text (own.Plain at end) = refl
offset_is text (own.Key expression) = refl

pub within_end : (text : Bytes) (p : OwnPiece) → IsWithin text p → piece_offset p + piece_length p < length text + 67
within_end text (own.Plain at end) h = omega (arith, h.0, h.1)
within_end text (own.Key expression) h = omega (arith, h)

-- ---- the pieces that are left, the first of them and the others

module _ (text : Bytes) (pieces : List OwnPiece) (i : ℕ) (p : OwnPiece) (inside : i < length pieces) (is : p ≡ get_or pieces i p) where
  abbrev rest : List Piece
  rest = map (piece_at text) (drop (i + 1) pieces)

  left_of : map (piece_at text) (drop i pieces) ≡ piece_at text p ∷ rest
  left_of =
      let next : suc i ≡ i + 1 = omega arith in
      ap (map (piece_at text)) (drop-cons pieces i p inside)
      ∙ (ap (λ (z : OwnPiece). piece_at text z ∷ map (piece_at text) (drop (suc i) pieces)) (sym is)
      ∙ ap (λ (z : ℕ). piece_at text p ∷ map (piece_at text) (drop z pieces)) next)

  pub pushed : (before after whole : Bytes) → after ≡ before ++ sample (piece_at text p ∷ []) → before ++ sample (map (piece_at text) (drop i pieces)) ≡ whole
      → after ++ sample (map (piece_at text) (drop (i + 1) pieces)) ≡ whole
  pushed before after whole e h =
      ap (λ (z : Bytes). z ++ sample rest) e
      ∙ (append_assoc before (sample (piece_at text p ∷ [])) (sample rest)
      ∙ (ap (λ (z : Bytes). before ++ z) (sym (sample_first (piece_at text p) rest)) ∙ (ap (λ (z : List Piece). before ++ sample z) (sym left_of) ∙ h)))

  module _ (within : IsWithin text p) (end offset whole : ℕ) (h : place_of end (map (piece_at text) (drop i pieces)) offset ≡ whole) where
    first_of_left : place_of end (piece_at text p ∷ rest) offset ≡ whole
    first_of_left = ap (λ (z : List Piece). place_of end z offset) (sym left_of) ∙ h

    test_is : nat_lt offset (length_in_text (piece_at text p)) ≡ nat_lt offset (piece_length p)
    test_is = ap (λ (z : ℕ). nat_lt offset z) (length_is text p within)

    pub place_here : nat_lt offset (piece_length p) ≡ true → piece_offset p + offset ≡ whole
    place_here t =
        ap (λ (z : ℕ). z + offset) (sym (offset_is text p))
        ∙ (sym (cond-true (nat_lt offset (length_in_text (piece_at text p))) (offset_of (piece_at text p) + offset)
        (place_of end rest (offset - length_in_text (piece_at text p))) (test_is ∙ t))
        ∙ first_of_left)

    pub place_later : nat_lt offset (piece_length p) ≡ false → place_of end (map (piece_at text) (drop (i + 1) pieces)) (offset - piece_length p) ≡ whole
    place_later t =
        ap (λ (z : ℕ). place_of end rest (offset - z)) (sym (length_is text p within))
        ∙ (sym (cond-false (nat_lt offset (length_in_text (piece_at text p))) (offset_of (piece_at text p) + offset)
        (place_of end rest (offset - length_in_text (piece_at text p))) (test_is ∙ t))
        ∙ first_of_left)

-- ---- where a body ends

pub end_is : (text : Bytes) (refused : Option DescriptorFault) (at : ℕ) → place (rest_at text refused at) ≡ end_at refused at
end_is text None at = place_is text at
end_is text (Some fault) at = refl
