-- Which pieces of the definitions those of the code stand for.
use Rattle.std.specs.Prelude.{suc, length, All, ◌≡◌, ◌<◌, ◌-◌, ◌&&◌, ℕ, Bool, true, false, List, [], ◌∷◌, map, take, drop, Option, Some, None, Ok, Err}
use Rattle.def_script.specs.Bytes.{Bytes}
use Rattle.def_descriptor.specs.declared.DescriptorFault.{DescriptorFault}
use Rattle.def_descriptor.specs.declared.DescriptorFault.TheVariants as fault
use Rattle.def_descriptor.specs.Token.{Token, token, is_word}
use Rattle.def_descriptor.specs.ReadKey.{Seen, read_key}
use Rattle.def_descriptor.specs.Pieces as the
use Rattle.def_descriptor.specs.Pieces.{Spot, takes_key, follows_key, ends_at}
use Rattle.ms_paths.specs.Places.{IsPlace, tokens_at, behind}
use Rattle.ms_descriptor.specs.declared.pieces.Piece.{Piece}
use Rattle.ms_descriptor.specs.declared.pieces.Piece.TheVariants as piece
use Rattle.ms_descriptor.specs.declared.pieces.Gathered.{Gathered}
use Rattle.ms_descriptor.specs.declared.pieces.Next.{Next}
use Rattle.ms_descriptor.specs.declared.pieces.Next.TheVariants as next
use Rattle.ms_descriptor.specs.Expressions.{expression_at}

-- the bytes between two places
abbrev pub between : (text : Bytes) → (at end : ℕ) → Bytes
between text at end = take (end - at) (drop at text)

abbrev pub piece_at : (text : Bytes) → Piece → the.Piece
piece_at text (piece.Plain at end) = the.plain at (between text at end)
piece_at text (piece.Key expression) = the.key (expression_at expression.value)

-- where a piece stands, and how long its text is: a key's word has 66 digits
abbrev pub piece_offset : Piece → ℕ
piece_offset (piece.Plain at end) = at
piece_offset (piece.Key expression) = expression.value.at

abbrev pub piece_length : Piece → ℕ
piece_length (piece.Plain at end) = end - at
piece_length (piece.Key expression) = 66

-- a piece lies within the text
abbrev pub IsWithin : (text : Bytes) → Piece → Type 0
IsWithin text (piece.Plain at end) = (at < end) × (end < suc (length text))
IsWithin text (piece.Key expression) = expression.value.at < suc (length text)

abbrev pub AreWithin : (text : Bytes) → List Piece → Type 0
AreWithin text = All (IsWithin text)

-- no tokens are left behind a key that is refused
abbrev pub rest_at : (text : Bytes) → Option DescriptorFault → (at : ℕ) → List Token
rest_at text None at = tokens_at text at
rest_at text (Some fault) at = []

-- where they begin
abbrev pub end_at : Option DescriptorFault → (at : ℕ) → ℕ
end_at None at = at
end_at (Some fault) at = 0

abbrev pub gathered_at : (text : Bytes) → Gathered → the.Gathered
gathered_at text all = record { pieces = map (piece_at text) all.pieces.items; refused = all.refused; rest = rest_at text all.refused all.rest }

-- ---- what stands at a place of a miniscript

-- where a key has to stand: one, or what is refused
abbrev pub IsNextKey : (text : Bytes) → (at : ℕ) → Seen → Next → Type 0
IsNextKey text at seen (next.Key expression end) = (read_key seen (tokens_at text at) ≡ Ok (expression_at expression, tokens_at text end)) × IsPlace text end × at < end × (expression.at ≡ at)
IsNextKey text at seen (next.Refused why) = read_key seen (tokens_at text at) ≡ Err why
IsNextKey text at seen (next.Token end) = ⊥
IsNextKey text at seen next.End = ⊥

-- elsewhere: a token that is a piece, one that ends the miniscript, or a word right behind a key
abbrev pub IsNextToken : (text : Bytes) → (at : ℕ) → Spot → (level : ℕ) → Next → Type 0
IsNextToken text at spot level (next.Token end) =
    let w = between text at end in
    (tokens_at text at ≡ token at w ∷ tokens_at text end) × ((follows_key spot && is_word w) ≡ false) × (ends_at level w ≡ false) × IsPlace text end × at < end
IsNextToken text at spot level next.End =
    (w : Bytes) × (tokens_at text at ≡ token at w ∷ behind text at w) × ((follows_key spot && is_word w) ≡ false) × (ends_at level w ≡ true)
IsNextToken text at spot level (next.Refused why) =
    (w : Bytes) × (tokens_at text at ≡ token at w ∷ behind text at w) × ((follows_key spot && is_word w) ≡ true) × (why ≡ fault.Syntax at)
IsNextToken text at spot level (next.Key expression end) = ⊥

abbrev pub IsNextBy : Bool → (text : Bytes) → (at : ℕ) → Spot → (level : ℕ) → Seen → Next → Type 0
IsNextBy true text at spot level seen = IsNextKey text at seen
IsNextBy false text at spot level seen = IsNextToken text at spot level

abbrev pub IsNext : (text : Bytes) → (at : ℕ) → Spot → (level : ℕ) → Seen → Next → Type 0
IsNext text at spot level seen = IsNextBy (takes_key spot) text at spot level seen
