-- The tokens of a descriptor's text: runs of ASCII letters, digits and `_`, any other single characters, and the end. Each has its byte offset.
use Rattle.std.specs.Prelude.{ℕ, ◌+◌, ◌&&◌, ◌||◌, Bool, false, if◌then◌else◌, List, [], ◌∷◌, Result, Ok, Err}
use Rattle.std.specs.Str.{bytes_eq}
use Rattle.def_script.specs.Bytes.{Bytes}
use Rattle.def_text.specs.Token.{is_word_byte, goes_on}
use Rattle.def_descriptor.specs.declared.DescriptorFault.{DescriptorFault}
use Rattle.def_descriptor.specs.declared.DescriptorFault.TheVariants.{Syntax}

-- a token with its bytes: the end has none
pub data Token : Type 0 where
  token : (at : ℕ) → (bytes : Bytes) → Token

-- whether a byte belongs to the token behind it: both are of a run, or its character goes on there
abbrev pub belongs : ℕ → Bytes → Bool
belongs b [] = false
belongs b (c ∷ bytes) = (is_word_byte b && is_word_byte c) || goes_on c

-- a byte before the tokens that follow it
abbrev pub byte_before : (at b : ℕ) → List Token → List Token
byte_before at b [] = token at (b ∷ []) ∷ []
byte_before at b (token next bytes ∷ ts) =
    if belongs b bytes then token at (b ∷ bytes) ∷ ts else token at (b ∷ []) ∷ token next bytes ∷ ts

-- the tokens of bytes of which the first has this offset
abbrev pub tokens_from : (at : ℕ) → Bytes → List Token
tokens_from at [] = token at [] ∷ []
tokens_from at (b ∷ bytes) = byte_before at b (tokens_from (at + 1) bytes)

-- the tokens of a text
abbrev pub tokens : (text : Bytes) → List Token
tokens text = tokens_from 0 text

-- whether a token is a run of letters, digits and `_`
abbrev pub is_word : Bytes → Bool
is_word [] = false
is_word (b ∷ bytes) = is_word_byte b

-- whether the first of some tokens is this one, and its offset
abbrev pub starts : (bytes : Bytes) → List Token → Bool
starts bytes [] = false
starts bytes (token at own ∷ ts) = bytes_eq own bytes

abbrev pub place : List Token → ℕ
place [] = 0
place (token at bytes ∷ ts) = at

-- ---- what is read of some tokens, with the tokens behind it, or the refusal

abbrev pub Read : Type 0 → Type 0
Read A = Result (A × List Token) DescriptorFault

-- something read, and what is read behind it
abbrev pub and_then : {A B : Type 0} → Result (A × List Token) DescriptorFault → (A → List Token → Result B DescriptorFault) → Result B DescriptorFault
and_then (Ok (x, ts)) next = next x ts
and_then (Err fault) next = Err fault

-- this token, and what is read behind it
abbrev pub behind : {B : Type 0} → (bytes : Bytes) → List Token → (List Token → Result B DescriptorFault) → Result B DescriptorFault
behind bytes [] next = Err (Syntax 0)
behind bytes (token at own ∷ ts) next =
    let found = next ts in
    if bytes_eq own bytes then found else Err (Syntax at)

-- what is read, made into something else
abbrev pub mapped : {A B : Type 0} → (A → B) → Result A DescriptorFault → Result B DescriptorFault
mapped f (Ok x) = Ok (f x)
mapped f (Err fault) = Err fault
