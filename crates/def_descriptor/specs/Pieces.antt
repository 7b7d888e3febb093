-- A miniscript with key expressions in the place of keys, in pieces: its tokens, and its key expressions.
use Rattle.std.specs.Prelude.{ℕ, zero, suc, ◌+◌, ◌-◌, ◌==◌, ◌&&◌, nat_lt, Bool, true, false, if◌then◌else◌, List, [], ◌∷◌, ◌++◌, length, codes, Option, Some, None, Ok, Err}
use Rattle.std.specs.List.{list_any}
use Rattle.std.specs.Str.{bytes_eq}
use Rattle.def_script.specs.Bytes.{Bytes}
use Rattle.def_descriptor.specs.declared.DescriptorFault.{DescriptorFault}
use Rattle.def_descriptor.specs.declared.DescriptorFault.TheVariants.{Syntax}
use Rattle.def_descriptor.specs.Token.{Token, token, is_word, Read}
use Rattle.def_descriptor.specs.Expression.{Expression}
use Rattle.def_descriptor.specs.ReadKey.{Seen, seen_with, read_key}

pub data Piece : Type 0 where
  plain : (at : ℕ) → (bytes : Bytes) → Piece
  key : (expression : Expression) → Piece

-- its key expressions
abbrev pub expressions : List Piece → List Expression
expressions [] = []
expressions (plain at bytes ∷ ps) = expressions ps
expressions (key expression ∷ ps) = expression ∷ expressions ps

-- the text with these words for the key expressions, in their order
abbrev pub text_with : (words : List Bytes) → List Piece → Bytes
text_with words [] = []
text_with words (plain at bytes ∷ ps) = bytes ++ text_with words ps
text_with [] (key expression ∷ ps) = text_with [] ps
text_with (word ∷ words) (key expression ∷ ps) = word ++ text_with words ps

-- where a token of such a text, or its end, stands in the descriptor: a key's word has 66 digits
abbrev pub length_in_text : Piece → ℕ
length_in_text (plain at bytes) = length bytes
length_in_text (key expression) = 66

abbrev pub offset_of : Piece → ℕ
offset_of (plain at bytes) = at
offset_of (key expression) = expression.at

abbrev pub place_of : (end : ℕ) → List Piece → (offset : ℕ) → ℕ
place_of end [] offset = end
place_of end (p ∷ ps) offset =
    let later = place_of end ps (offset - length_in_text p) in
    if nat_lt offset (length_in_text p) then offset_of p + offset else later

-- ---- where a key may stand: behind `(` of a fragment of one key, and behind each comma of a `multi`

pub data Spot : Type 0 where
  elsewhere : Spot
  -- behind the name of a fragment of one key, its `(`, and its key
  single_name single_key single_next : Spot
  -- behind `multi`, its `(`, its number, a comma, and a key
  multi_name multi_open multi_number multi_key multi_next : Spot

abbrev pub takes_key : Spot → Bool
takes_key single_key = true
takes_key multi_key = true
takes_key spot = false

abbrev pub KEY_NAMES : List Bytes
KEY_NAMES = codes "pk_k" ∷ codes "pk_h" ∷ codes "pk" ∷ codes "pkh" ∷ []

-- behind one more token that begins no fragment, and behind any one more
abbrev pub spot_within : Spot → Bytes → Spot
spot_within single_name bytes = if bytes_eq bytes (codes "(") then single_key else elsewhere
spot_within multi_name bytes = if bytes_eq bytes (codes "(") then multi_open else elsewhere
spot_within multi_open bytes = multi_number
spot_within multi_number bytes = if bytes_eq bytes (codes ",") then multi_key else elsewhere
spot_within multi_next bytes = if bytes_eq bytes (codes ",") then multi_key else elsewhere
spot_within spot bytes = elsewhere

abbrev pub spot_behind : Spot → Bytes → Spot
spot_behind spot bytes =
    if list_any (bytes_eq bytes) KEY_NAMES then single_name
    else if bytes_eq bytes (codes "multi") then multi_name
    else spot_within spot bytes

abbrev pub spot_behind_key : Spot → Spot
spot_behind_key multi_key = multi_next
spot_behind_key spot = single_next

-- a word right behind a key, as in `/*x`, is no part of it
abbrev pub follows_key : Spot → Bool
follows_key single_next = true
follows_key multi_next = true
follows_key spot = false

-- ---- the pieces of a miniscript: up to the `)` that closes what it stands in, to the end, or to a token of a key that is refused

-- the pieces, the refusal of a key, and the tokens behind
pub record Gathered : Type 0 where
  pub pieces : List Piece
  pub refused : Option DescriptorFault
  pub rest : List Token

abbrev pub with_piece : Piece → Gathered → Gathered
with_piece piece g = record { pieces = piece ∷ g.pieces; refused = g.refused; rest = g.rest }

-- how many parentheses are open behind a token
abbrev pub opened : (level : ℕ) → Bytes → ℕ
opened level bytes =
    if bytes_eq bytes (codes "(") then level + 1
    else if bytes_eq bytes (codes ")") then level - 1
    else level

abbrev pub ends_at : (level : ℕ) → Bytes → Bool
ends_at level [] = true
ends_at level (b ∷ bytes) = (level == 0) && bytes_eq (b ∷ bytes) (codes ")")

-- a piece more, and at most so many behind it
abbrev pub with_key : Seen → Read Expression → (Seen → List Token → Gathered) → Gathered
with_key seen (Err fault) more = record { pieces = []; refused = Some fault; rest = [] }
with_key seen (Ok (expression, rest)) more = with_piece (key expression) (more (seen_with seen expression) rest)

unfoldable pub gather : (most : ℕ) → Spot → (level : ℕ) → Seen → List Token → Gathered
gather zero spot level seen ts = record { pieces = []; refused = None; rest = ts }
gather (suc most) spot level seen [] = record { pieces = []; refused = None; rest = [] }
gather (suc most) spot level seen (token at bytes ∷ ts) =
    let by_key = with_key seen (read_key seen (token at bytes ∷ ts)) (gather most (spot_behind_key spot) level) in
    let by_token = with_piece (plain at bytes) (gather most (spot_behind spot bytes) (opened level bytes) seen ts) in
    if takes_key spot then by_key
    else if follows_key spot && is_word bytes then record { pieces = []; refused = Some (Syntax at); rest = [] }
    else if ends_at level bytes then record { pieces = []; refused = None; rest = token at bytes ∷ ts }
    else by_token
