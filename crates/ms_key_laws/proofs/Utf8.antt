-- The text of pieces with keys in it is in UTF-8.
use Rattle.std.proofs.Common.{◌≡◌, arith, true, List, [], ◌∷◌, map, refl}
use Rattle.std.specs.Prelude.{IsUtf8, ⊤}
use Rattle.std.specs.Str.{IsAscii}
use Rattle.std.specs.Char.{is_ascii}
use Rattle.std.specs.List.{list_all}
use Rattle.std.proofs.lemmas.Bool.{and_parts}
use Rattle.std.proofs.lemmas.Str.Ascii.{IsAscii-nil, IsAscii-cons}
use Rattle.std.proofs.lemmas.Str.{IsUtf8-nil, IsUtf8-append, IsUtf8-from_ascii}
use Rattle.hex.specs.Hex.{lower_digits, encode_lower}
use Rattle.hex.proofs.HexLemmas.{IsAscii-encode_with}
use Rattle.def_script.specs.Bytes.{Bytes}
use Rattle.def_tree.specs.Tree.{Key}
use Rattle.def_descriptor.specs.Pieces.{Piece, plain, key, text_with}
use Rattle.def_descriptor.proofs.Pieces.{PiecesUtf8}

abbrev AllUtf8 : List Bytes → Type 0
AllUtf8 [] = ⊤
AllUtf8 (word ∷ words) = IsUtf8 word × AllUtf8 words

all_ascii : (bs : Bytes) → list_all is_ascii bs ≡ true → IsAscii bs
all_ascii [] h = IsAscii-nil
all_ascii (b ∷ bs) h =
    let parts = and_parts (is_ascii b) (list_all is_ascii bs) h in
    let first : is_ascii b ≡ true = parts.0 in
    let others : list_all is_ascii bs ≡ true = parts.1 in
    IsAscii-cons b bs (grind arith) (all_ascii bs others)

digits_utf8 : (keys : List Key) → AllUtf8 (map encode_lower keys)
digits_utf8 [] = tt
digits_utf8 (own ∷ keys) = (IsUtf8-from_ascii (encode_lower own) (IsAscii-encode_with lower_digits own (all_ascii lower_digits refl)), digits_utf8 keys)

words_utf8 : (words : List Bytes) (ps : List Piece) → AllUtf8 words → PiecesUtf8 ps → IsUtf8 (text_with words ps)
words_utf8 words [] a h = IsUtf8-nil
words_utf8 words (plain at bytes ∷ ps) a h = IsUtf8-append bytes (text_with words ps) h.0 (words_utf8 words ps a h.1)
words_utf8 [] (key expression ∷ ps) a h = words_utf8 [] ps tt h
words_utf8 (word ∷ words) (key expression ∷ ps) a h = IsUtf8-append word (text_with words ps) a.0 (words_utf8 words ps a.1 h)

pub with_utf8 : (keys : List Key) (ps : List Piece) → PiecesUtf8 ps → IsUtf8 (text_with (map encode_lower keys) ps)
with_utf8 keys ps h = words_utf8 (map encode_lower keys) ps (digits_utf8 keys) h
