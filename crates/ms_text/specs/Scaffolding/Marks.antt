-- Tokens of one character.
use Rattle.std.specs.Prelude.{ℕ, ◌==◌, Bool, false, [], ◌∷◌, Option, Some, None}
use Rattle.std.specs.Str.{byte}
use Rattle.def_script.specs.Bytes.{Bytes}
use Rattle.def_text.specs.Token.{is_word_byte, Token, opening, closing, comma, colon}
use Rattle.ms_text.specs.declared.tokens.Mark.{Mark}
use Rattle.ms_text.specs.declared.tokens.Mark.TheVariants as mark
use Rattle.ms_text.specs.declared.tokens.Separator.{Separator}
use Rattle.ms_text.specs.declared.tokens.Separator.TheVariants as separator

abbrev pub mark_code : Mark → ℕ
mark_code mark.Open = byte "("
mark_code mark.Close = byte ")"
mark_code mark.Comma = byte ","
mark_code mark.Colon = byte ":"

abbrev pub mark_token : Mark → (at : ℕ) → Token
mark_token mark.Open at = opening at
mark_token mark.Close at = closing at
mark_token mark.Comma at = comma at
mark_token mark.Colon at = colon at

-- a token, where it is this mark
abbrev pub mark_read : Mark → Token → Option Unit
mark_read mark.Open (opening at) = Some tt
mark_read mark.Close (closing at) = Some tt
mark_read mark.Comma (comma at) = Some tt
mark_read mark.Colon (colon at) = Some tt
mark_read m t = None

-- a comma or `)`
abbrev pub separator_read : Token → Option Separator
separator_read (comma at) = Some separator.Comma
separator_read (closing at) = Some separator.Close
separator_read t = None

-- whether a byte of a word begins the bytes
abbrev pub starts_word : Bytes → Bool
starts_word [] = false
starts_word (b ∷ bytes) = is_word_byte b

-- whether a byte begins the bytes
abbrev pub begins_with : ℕ → Bytes → Bool
begins_with b [] = false
begins_with b (c ∷ bytes) = c == b
