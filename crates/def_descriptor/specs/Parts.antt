-- The parts of a descriptor's text (BIP 380, BIP 382, BIP 383).
use Rattle.std.specs.Prelude.{ℕ, suc, ◌+◌, Bool, true, false, if◌then◌else◌, List, [], ◌∷◌, length, take, drop, codes, Option, Some, None, Result, Ok, Err}
use Rattle.std.specs.List.{list_any}
use Rattle.std.specs.Str.{bytes_eq}
use Rattle.def_script.specs.Bytes.{Bytes}
use Rattle.def_address.specs.DescriptorSum.{descriptor_sum}
use Rattle.def_descriptor.specs.declared.Form.{Form}
use Rattle.def_descriptor.specs.declared.Form.TheVariants.{Wsh, Wpkh}
use Rattle.def_descriptor.specs.declared.DescriptorFault.{DescriptorFault}
use Rattle.def_descriptor.specs.declared.DescriptorFault.TheVariants.{Syntax, Other, Checksum}
use Rattle.def_descriptor.specs.Token.{Token, token, tokens, starts, place, Read, and_then, behind, mapped}
use Rattle.def_descriptor.specs.ReadKey.{NOTHING_SEEN, read_key}
use Rattle.def_descriptor.specs.Expression.{Expression}
use Rattle.def_descriptor.specs.Pieces.{Gathered, Piece, plain, with_piece, elsewhere, multi_name, gather}

-- ---- what stands before the parts

-- the names of other kinds of descriptors
abbrev pub OTHER_NAMES : List Bytes
OTHER_NAMES =
    codes "pk" ∷ codes "pkh" ∷ codes "combo" ∷ codes "multi" ∷ codes "sortedmulti" ∷ codes "tr" ∷ codes "rawtr" ∷ codes "addr" ∷ codes "raw" ∷ []

abbrev pub other_name : (at : ℕ) → Bytes → DescriptorFault
other_name at name = if list_any (bytes_eq name) OTHER_NAMES then Other at else Syntax at

-- `wsh(` or `wpkh(`
abbrev pub read_form : List Token → Read Form
read_form [] = Err (Syntax 0)
read_form (token at name ∷ ts) =
    if bytes_eq name (codes "wsh") then behind (codes "(") ts (λ rest. Ok (Wsh, rest))
    else if bytes_eq name (codes "wpkh") then behind (codes "(") ts (λ rest. Ok (Wpkh, rest))
    else Err (other_name at name)

-- that, or `sh(` and that
abbrev pub read_head : List Token → Read (Bool × Form)
read_head ts =
    let under : Read (Bool × Form) = behind (codes "(") (drop 1 ts) (λ rest. and_then (read_form rest) (λ form end. Ok ((true, form), end))) in
    let alone : Read (Bool × Form) = and_then (read_form ts) (λ form end. Ok ((false, form), end)) in
    if starts (codes "sh") ts then under else alone

-- ---- what stands behind them

-- the end, or `#` and the checksum of what is before it: the length of the text without both
abbrev pub is_sum : Option Bytes → Bytes → Bool
is_sum None sum = false
is_sum (Some own) sum = bytes_eq own sum

abbrev pub read_sum : (text : Bytes) → List Token → Result ℕ DescriptorFault
read_sum text [] = Err (Syntax 0)
read_sum text (token at [] ∷ ts) = Ok at
read_sum text (token at (b ∷ bytes) ∷ ts) =
    let right = is_sum (descriptor_sum (take at text)) (drop (at + 1) text) in
    let by_sum = if right then Ok at else Err (Checksum at) in
    if bytes_eq (b ∷ bytes) (codes "#") then by_sum else Err (Syntax at)

-- each `)`, and that
unfoldable pub read_tail : (text : Bytes) → (under : Bool) → List Token → Result ℕ DescriptorFault
read_tail text false ts = behind (codes ")") ts (read_sum text)
read_tail text true ts = behind (codes ")") ts (λ rest. behind (codes ")") rest (read_sum text))

-- ---- the parts

-- a miniscript, or a `multi` whose keys are put in order, both in pieces; or a single key
pub data Body : Type 0 where
  miniscript : (pieces : List Piece) → Body
  sorted : (pieces : List Piece) → Body
  single : (expression : Expression) → Body

-- a body as far as it was read: it may end at a key that is refused
pub record Found : Type 0 where
  pub body : Body
  pub refused : Option DescriptorFault
  pub rest : List Token

abbrev pub found_by : (List Piece → Body) → Gathered → Found
found_by body g = record { body = body g.pieces; refused = g.refused; rest = g.rest }

-- `sortedmulti` is written where a `multi` would be
abbrev pub gather_sorted : (most : ℕ) → List Token → Gathered
gather_sorted most ts = with_piece (plain (place ts) (codes "multi")) (gather most multi_name 0 NOTHING_SEEN (drop 1 ts))

abbrev pub read_wsh : (most : ℕ) → List Token → Found
read_wsh most ts =
    let by_sorted = found_by sorted (gather_sorted most ts) in
    let by_pieces = found_by miniscript (gather most elsewhere 0 NOTHING_SEEN ts) in
    if starts (codes "sortedmulti") ts then by_sorted else by_pieces

abbrev pub read_body : (most : ℕ) → Form → List Token → Result Found DescriptorFault
read_body most Wsh ts = Ok (read_wsh most ts)
read_body most Wpkh ts = and_then (read_key NOTHING_SEEN ts) (λ expression rest. Ok (record { body = single expression; refused = None; rest = rest }))

-- whether the text begins with `sh(`, and its body, whose pieces are no more than the text has bytes
unfoldable pub read_parts : (text : Bytes) → Result (Bool × Found) DescriptorFault
read_parts text =
    and_then (read_head (tokens text)) (λ head rest. mapped (λ found. (head.0, found)) (read_body (suc (length text)) head.1 rest))
