-- Which texts are descriptors, and why the others are none.
use Rattle.std.specs.Prelude.{◌≡◌, ℕ, ◌==◌, ◌<◌, ◌≤◌, Bool, ⊤, if◌then◌else◌, List, [], ◌++◌, length, replicate, codes, Option, Some, None, Result, Ok, Err}
use Rattle.std.specs.Option.{unwrap_or}
use Rattle.def_script.specs.Bytes.{Bytes}
use Rattle.def_tree.specs.Tree.{Tree}
use Rattle.def_text.specs.declared.TextFault.{TextFault}
use Rattle.def_text.specs.declared.TextFault.TheVariants as text_fault
use Rattle.def_text.specs.Refusal.{MOST_BYTES, TextReads, TextRefusal}
use Rattle.def_descriptor.specs.declared.DescriptorFault.{DescriptorFault}
use Rattle.def_descriptor.specs.declared.DescriptorFault.TheVariants as fault
use Rattle.def_descriptor.specs.Token.{place, mapped}
use Rattle.def_descriptor.specs.Pieces.{Piece, text_with, place_of}
use Rattle.def_descriptor.specs.Parts.{Body, miniscript, sorted, single, Found, read_parts, read_tail}

-- a descriptor: whether it stands in `sh(..)`, its body, and the length of its text without a checksum
pub record Descriptor : Type 0 where
  pub under : Bool
  pub body : Body
  pub length : ℕ

-- ---- the miniscript, as `msat` reads it

-- some key: that of the generator
abbrev pub ANY_KEY : Bytes
ANY_KEY = codes "0279be667ef9dcbbac55a06295ce870b07029bfcdb2dce28d959f2815b16f81798"

-- the text of pieces with a key in the place of each expression
abbrev pub sample : List Piece → Bytes
sample ps = text_with (replicate (length ps) ANY_KEY) ps

-- and with a token that stands in no text, where a key was refused
abbrev pub stop : Option DescriptorFault → Bytes
stop None = []
stop (Some fault) = codes "!"

-- what such a text is refused by: where it ends, by the key
abbrev pub refusal_of : List Piece → Found → TextFault → DescriptorFault
refusal_of ps found text_fault.TooLong = fault.TooLong
refusal_of ps found (text_fault.Syntax at) =
    let own = fault.Syntax (place_of (place found.rest) ps at) in
    if at == length (sample ps) then unwrap_or found.refused own else own
refusal_of ps found (text_fault.TooDeep at) = fault.TooDeep (place_of (place found.rest) ps at)
refusal_of ps found text_fault.Memory = fault.Memory

-- the pieces of a body
abbrev pub pieces_of : Body → Option (List Piece)
pieces_of (miniscript ps) = Some ps
pieces_of (sorted ps) = Some ps
pieces_of (single expression) = None

-- `msat` reads the text of pieces up to its end
abbrev pub IsRead : Option (List Piece) → Found → Type 0
IsRead None found = ⊤
IsRead (Some ps) found = (tree : Tree) × (offsets : List ℕ) × TextReads (sample ps ++ stop found.refused) tree offsets

-- ---- the answers

-- what a text of bytes in UTF-8 answers
pub data Answers (text : Bytes) : Result Descriptor DescriptorFault → Type 0 where
  -- it is too long
  too_long : MOST_BYTES < length text → Answers text (Err fault.TooLong)
  -- what stands before the body, or a single key, is refused
  wrong_parts : {why : DescriptorFault} → length text ≤ MOST_BYTES → read_parts text ≡ Err why → Answers text (Err why)
  -- the miniscript is refused
  wrong_miniscript : {under : Bool} {found : Found} {ps : List Piece} (why : TextFault) → length text ≤ MOST_BYTES →
      read_parts text ≡ Ok (under, found) → pieces_of found.body ≡ Some ps → TextRefusal (sample ps ++ stop found.refused) why →
      Answers text (Err (refusal_of ps found why))
  -- both are read: what stands behind them decides
  right_parts : {under : Bool} {found : Found} → length text ≤ MOST_BYTES →
      read_parts text ≡ Ok (under, found) → IsRead (pieces_of found.body) found →
      Answers text (mapped (λ count. record { under = under; body = found.body; length = count }) (read_tail text under found.rest))
