-- The tokens of a text, each with its byte offset.
use Rattle.std.specs.Prelude.{ℕ, ◌+◌, ◌==◌, ◌&&◌, ◌||◌, nat_le, Bool, List, [], ◌∷◌, if◌then◌else◌}
use Rattle.std.specs.Char.{is_ascii_alphanumeric}
use Rattle.std.specs.Str.{byte}
use Rattle.def_script.specs.Bytes.{Bytes}

pub data Token : Type 0 where
  -- a longest run of ASCII letters, digits and `_`
  word : (at : ℕ) → (bytes : Bytes) → Token
  -- `(`, `)`, `,` and `:`
  opening : (at : ℕ) → Token
  closing : (at : ℕ) → Token
  comma : (at : ℕ) → Token
  colon : (at : ℕ) → Token
  -- any other character, which stands in no spelled text
  other : (at : ℕ) → Token
  -- the end of the text
  end : (at : ℕ) → Token

-- the offset of a token
abbrev pub offset : Token → ℕ
offset (word at bytes) = at
offset (opening at) = at
offset (closing at) = at
offset (comma at) = at
offset (colon at) = at
offset (other at) = at
offset (end at) = at

-- whether a byte belongs to a word
abbrev pub is_word_byte : ℕ → Bool
is_word_byte b = is_ascii_alphanumeric b || b == byte "_"

-- whether a byte goes on with a character of UTF-8 that began before it
abbrev pub goes_on : ℕ → Bool
goes_on b = nat_le 0x80 b && nat_le b 0xbf

-- a byte of a word before the tokens that follow it: it belongs to the word that begins there, if one does
abbrev pub word_before : (at b : ℕ) → List Token → List Token
word_before at b (word next bytes ∷ ts) = word at (b ∷ bytes) ∷ ts
word_before at b ts = word at (b ∷ []) ∷ ts

-- a byte before the tokens that follow it
abbrev pub byte_before : (at b : ℕ) → List Token → List Token
byte_before at b ts =
    if is_word_byte b then word_before at b ts
    else if b == byte "(" then opening at ∷ ts
    else if b == byte ")" then closing at ∷ ts
    else if b == byte "," then comma at ∷ ts
    else if b == byte ":" then colon at ∷ ts
    else if goes_on b then ts
    else other at ∷ ts

-- the tokens of bytes of which the first has this offset
abbrev pub tokens_from : (at : ℕ) → Bytes → List Token
tokens_from at [] = end at ∷ []
tokens_from at (b ∷ bytes) = byte_before at b (tokens_from (at + 1) bytes)

-- the tokens of a text
abbrev pub tokens : (text : Bytes) → List Token
tokens text = tokens_from 0 text
