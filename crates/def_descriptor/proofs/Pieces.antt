-- The text of a body's pieces is in UTF-8.
use Rattle.std.proofs.Common.{◌≡◌, ℕ, zero, suc, Bool, true, false, List, [], ◌∷◌, ◌++◌, length, drop, replicate, refl, ap, subst, cond, Option, Some, None, Result, Ok, Err}
use Rattle.std.specs.Prelude.{◌-◌, ◌&&◌, ⊤, IsUtf8, codes}
use Rattle.std.specs.Str.{bytes_eq}
use Rattle.std.proofs.lemmas.Str.{IsUtf8-nil, IsUtf8-append}
use Rattle.def_script.specs.Bytes.{Bytes}
use Rattle.def_text.specs.Word.{key_of}
use Rattle.def_text.proofs.Completion.{ascii_is_utf8}
use Rattle.def_curve.specs.Point.{Point}
use Rattle.def_curve.specs.Key.{point_of}
use Rattle.def_derive.specs.Extended.{Extended}
use Rattle.def_descriptor.specs.declared.Form.{Form}
use Rattle.def_descriptor.specs.declared.Form.TheVariants.{Wsh, Wpkh}
use Rattle.def_descriptor.specs.declared.DescriptorFault.{DescriptorFault}
use Rattle.def_descriptor.specs.Token.{Token, token, tokens, is_word, starts, and_then, mapped}
use Rattle.def_descriptor.specs.Expression.{Expression}
use Rattle.def_descriptor.specs.Steps.{MOST_STEPS, read_steps, fits, read_ways}
use Rattle.def_descriptor.specs.ReadKey.{print_of, origin_by, read_print, read_origin, Seen, NOTHING_SEEN, seen_with, extended_word, with_point, ways_behind, named_by, read_named, read_key}
use Rattle.def_descriptor.specs.Pieces.{Piece, plain, key, text_with, Spot, takes_key, spot_behind, spot_behind_key, follows_key, Gathered, opened, ends_at, with_key, elsewhere, multi_name, gather}
use Rattle.def_descriptor.specs.Parts.{read_form, read_head, single, Found, gather_sorted, read_wsh, read_body, read_parts}
use Rattle.def_descriptor.specs.Answer.{ANY_KEY, sample, stop, pieces_of}
use Rattle.def_descriptor.proofs.Utf8.{AllUtf8, Keeps, keeps_then, keeps_if, keeps_behind, keeps_steps, keeps_ways, all_behind, all_utf8}

-- ---- key expressions

keeps_origin_by : (at : ℕ) (print : Option Bytes) (ts : List Token) → AllUtf8 ts → Keeps (origin_by at print ts)
keeps_origin_by at None ts h = tt
keeps_origin_by at (Some print) ts h =
    keeps_then (read_steps MOST_STEPS ts) _ (keeps_steps MOST_STEPS ts h) (λ steps rest k. keeps_behind (codes "]") rest _ k (λ end l. l))

keeps_print : (ts : List Token) → AllUtf8 ts → Keeps (read_print ts)
keeps_print [] h = tt
keeps_print (token at word ∷ ts) h = keeps_origin_by at (print_of word) ts h.1

keeps_origin : (ts : List Token) → AllUtf8 ts → Keeps (read_origin ts)
keeps_origin ts h = keeps_if (starts (codes "[") ts) _ _ (keeps_print (drop 1 ts) (all_behind ts h)) h

keeps_point : {A : Type 0} (at : ℕ) (own : Option Point) (r : Result (A × List Token) DescriptorFault) → Keeps r → Keeps (with_point at own r)
keeps_point at None r h = tt
keeps_point at (Some own) r h = h

keeps_named_by : (seen : Seen) (at : ℕ) (word : Bytes) (own : Option Bytes) (other : Option Extended) (ts : List Token) → AllUtf8 ts
    → Keeps (named_by seen at word own other ts)
keeps_named_by seen at word (Some own) other ts h = keeps_point at (point_of own) _ h
keeps_named_by seen at word None (Some own) ts h =
    keeps_point at (point_of own.key) (ways_behind seen at own ts)
    (keeps_if (fits seen.version own.version) _ _
    (keeps_then (read_ways (MOST_STEPS - own.depth) seen.length false ts) _ (keeps_ways (MOST_STEPS - own.depth) seen.length false ts h) (λ ways rest k. k)) tt)
keeps_named_by seen at word None None ts h = tt

keeps_named : (seen : Seen) (ts : List Token) → AllUtf8 ts → Keeps (read_named seen ts)
unfolding read_named
keeps_named seen [] h = tt
keeps_named seen (token at word ∷ ts) h = keeps_named_by seen at word (key_of word) (extended_word word) ts h.1

keeps_key : (seen : Seen) (ts : List Token) → AllUtf8 ts → Keeps (read_key seen ts)
unfolding read_key
keeps_key seen ts h =
    keeps_then (read_origin ts) _ (keeps_origin ts h) (λ origin rest k. keeps_then (read_named seen rest) _ (keeps_named seen rest k) (λ named end l. l))

-- ---- pieces

abbrev pub PiecesUtf8 : List Piece → Type 0
PiecesUtf8 [] = ⊤
PiecesUtf8 (plain at bytes ∷ ps) = IsUtf8 bytes × PiecesUtf8 ps
PiecesUtf8 (key expression ∷ ps) = PiecesUtf8 ps

pieces_if : (t : Bool) (g h : Gathered) → PiecesUtf8 g.pieces → PiecesUtf8 h.pieces → PiecesUtf8 (cond t g h).pieces
pieces_if true g h a b = a
pieces_if false g h a b = b

by_key : (seen : Seen) (r : Result (Expression × List Token) DescriptorFault) (more : Seen → List Token → Gathered) → Keeps r
    → ((seen : Seen) (ts : List Token) → AllUtf8 ts → PiecesUtf8 (more seen ts).pieces) → PiecesUtf8 (with_key seen r more).pieces
by_key seen (Err fault) more h go = tt
by_key seen (Ok (expression, rest)) more h go = go (seen_with seen expression) rest h

gather_utf8 : (most : ℕ) (spot : Spot) (level : ℕ) (seen : Seen) (ts : List Token) → AllUtf8 ts → PiecesUtf8 (gather most spot level seen ts).pieces
unfolding gather
gather_utf8 zero spot level seen ts h = tt
gather_utf8 (suc most) spot level seen [] h = tt
gather_utf8 (suc most) spot level seen (token at bytes ∷ ts) h =
    pieces_if (takes_key spot) _ _
    (by_key seen (read_key seen (token at bytes ∷ ts)) (gather most (spot_behind_key spot) level) (keeps_key seen (token at bytes ∷ ts) h)
    (λ later rest k. gather_utf8 most (spot_behind_key spot) level later rest k))
    (pieces_if (follows_key spot && is_word bytes) _ _ tt (pieces_if (ends_at level bytes) _ _ tt (h.0, gather_utf8 most (spot_behind spot bytes) (opened level bytes) seen ts h.1)))

-- ---- the pieces of a body

abbrev FoundUtf8 : Found → Type 0
FoundUtf8 found = (ps : List Piece) → pieces_of found.body ≡ Some ps → PiecesUtf8 ps

of_some : (ps qs : List Piece) → PiecesUtf8 ps → Some ps ≡ Some qs → PiecesUtf8 qs
of_some ps qs h e = let same : ps ≡ qs = cc in subst PiecesUtf8 same h

found_if : (t : Bool) (f g : Found) → FoundUtf8 f → FoundUtf8 g → FoundUtf8 (cond t f g)
found_if true f g h k = h
found_if false f g h k = k

wsh_utf8 : (most : ℕ) (ts : List Token) → AllUtf8 ts → FoundUtf8 (read_wsh most ts)
wsh_utf8 most ts h =
    found_if (starts (codes "sortedmulti") ts) _ _
    (λ ps e. of_some (gather_sorted most ts).pieces ps (ascii_is_utf8 (codes "multi") refl, gather_utf8 most multi_name 0 NOTHING_SEEN (drop 1 ts) (all_behind ts h)) e)
    (λ ps e. of_some (gather most elsewhere 0 NOTHING_SEEN ts).pieces ps (gather_utf8 most elsewhere 0 NOTHING_SEEN ts h) e)

abbrev PartsUtf8 : Result (Bool × Found) DescriptorFault → Type 0
PartsUtf8 (Ok (under, found)) = FoundUtf8 found
PartsUtf8 (Err fault) = ⊤

single_utf8 : (under : Bool) (r : Result (Expression × List Token) DescriptorFault)
    → PartsUtf8 (mapped (λ found. (under, found)) (and_then r (λ expression rest. Ok (record { body = single expression; refused = None; rest = rest }))))
single_utf8 under (Ok (expression, rest)) = λ ps e. absurd (cc)
single_utf8 under (Err fault) = tt

body_utf8 : (most : ℕ) (under : Bool) (form : Form) (ts : List Token) → AllUtf8 ts → PartsUtf8 (mapped (λ found. (under, found)) (read_body most form ts))
body_utf8 most under Wsh ts h = wsh_utf8 most ts h
body_utf8 most under Wpkh ts h = single_utf8 under (read_key NOTHING_SEEN ts)

keeps_form : (ts : List Token) → AllUtf8 ts → Keeps (read_form ts)
keeps_form [] h = tt
keeps_form (token at name ∷ ts) h =
    keeps_if (bytes_eq name (codes "wsh")) _ _ (keeps_behind (codes "(") ts _ h.1 (λ rest k. k))
    (keeps_if (bytes_eq name (codes "wpkh")) _ _ (keeps_behind (codes "(") ts _ h.1 (λ rest k. k)) tt)

keeps_head : (ts : List Token) → AllUtf8 ts → Keeps (read_head ts)
keeps_head ts h =
    keeps_if (starts (codes "sh") ts) _ _
    (keeps_behind (codes "(") (drop 1 ts) _ (all_behind ts h) (λ rest k. keeps_then (read_form rest) _ (keeps_form rest k) (λ form end l. l)))
    (keeps_then (read_form ts) _ (keeps_form ts h) (λ form end l. l))

head_utf8 : (most : ℕ) (r : Result ((Bool × Form) × List Token) DescriptorFault) → Keeps r
    → PartsUtf8 (and_then r (λ head rest. mapped (λ found. (head.0, found)) (read_body most head.1 rest)))
head_utf8 most (Ok ((under, form), rest)) h = body_utf8 most under form rest h
head_utf8 most (Err fault) h = tt

parts_utf8 : (text : Bytes) → IsUtf8 text → PartsUtf8 (read_parts text)
unfolding read_parts
parts_utf8 text h = head_utf8 (suc (length text)) (read_head (tokens text)) (keeps_head (tokens text) (all_utf8 text h))

found_in : Found → Result (Bool × Found) DescriptorFault → Found
found_in other (Ok x) = x.1
found_in other (Err fault) = other

by_parts : (r : Result (Bool × Found) DescriptorFault) (under : Bool) (found : Found) → PartsUtf8 r → r ≡ Ok (under, found) → FoundUtf8 found
unfolding found_in
by_parts (Ok (other, own)) under found h e = let same : own ≡ found = ap (found_in own) e in subst FoundUtf8 same h
by_parts (Err fault) under found h e = absurd (cc)

pub pieces_utf8 : (text : Bytes) (under : Bool) (found : Found) (ps : List Piece) → IsUtf8 text → read_parts text ≡ Ok (under, found) → pieces_of found.body ≡ Some ps
    → PiecesUtf8 ps
pieces_utf8 text under found ps h parts pieces = by_parts (read_parts text) under found (parts_utf8 text h) parts ps pieces

-- ---- their text

text_utf8 : (count : ℕ) (ps : List Piece) → PiecesUtf8 ps → IsUtf8 (text_with (replicate count ANY_KEY) ps)
text_utf8 count [] h = IsUtf8-nil
text_utf8 count (plain at bytes ∷ ps) h = IsUtf8-append bytes (text_with (replicate count ANY_KEY) ps) h.0 (text_utf8 count ps h.1)
text_utf8 zero (key expression ∷ ps) h = text_utf8 zero ps h
text_utf8 (suc count) (key expression ∷ ps) h =
    IsUtf8-append ANY_KEY (text_with (replicate count ANY_KEY) ps) (ascii_is_utf8 ANY_KEY refl) (text_utf8 count ps h)

stop_utf8 : (refused : Option DescriptorFault) → IsUtf8 (stop refused)
stop_utf8 None = IsUtf8-nil
stop_utf8 (Some fault) = ascii_is_utf8 (codes "!") refl

pub sample_utf8 : (ps : List Piece) (refused : Option DescriptorFault) → PiecesUtf8 ps → IsUtf8 (sample ps ++ stop refused)
sample_utf8 ps refused h = IsUtf8-append (sample ps) (stop refused) (text_utf8 (length ps) ps h) (stop_utf8 refused)
