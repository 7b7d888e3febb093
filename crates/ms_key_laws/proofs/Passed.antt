-- What is read of a descriptor's tokens is printed: keys, pieces and parts.
use Rattle.std.proofs.Common.{◌≡◌, ℕ, zero, suc, ◌-◌, ◌<◌, ◌==◌, arith, Bool, true, false, List, [], ◌∷◌, length, drop, get_or, codes, refl, ap, subst, cond, Option, Some, None, Result, Ok, Err}
use Rattle.std.specs.Prelude.{◌&&◌, ⊤, if◌then◌else◌}
use Rattle.std.specs.List.{list_all, position}
use Rattle.std.specs.Str.{bytes_eq}
use Rattle.std.proofs.lemmas.Bool.{and_parts, eqb-true}
use Rattle.std.proofs.lemmas.List.Quantifiers.{position-Some}
use Rattle.def_script.specs.Bytes.{Bytes}
use Rattle.def_text.specs.Word.{key_of}
use Rattle.def_curve.specs.Point.{Point}
use Rattle.def_curve.specs.Key.{point_of}
use Rattle.def_address.specs.Digits.{with_digit, read_digits}
use Rattle.def_address.specs.Base58.{base58_alphabet, unchecked, rebased, read_base58, read_base58_check}
use Rattle.def_derive.specs.Extended.{Extended, read_extended, extended_of}
use Rattle.def_descriptor.specs.declared.Form.{Form}
use Rattle.def_descriptor.specs.declared.Form.TheVariants.{Wsh, Wpkh}
use Rattle.def_descriptor.specs.declared.DescriptorFault.{DescriptorFault}
use Rattle.def_descriptor.specs.Token.{Token, token, tokens, is_word, starts, and_then, behind, mapped}
use Rattle.def_descriptor.specs.Expression.{Expression}
use Rattle.def_descriptor.specs.Steps.{MOST_STEPS, fits, read_ways}
use Rattle.def_descriptor.specs.ReadKey.{read_origin, Seen, NOTHING_SEEN, seen_with, extended_word, with_point, ways_behind, named_by, read_named, read_key}
use Rattle.def_descriptor.specs.Pieces.{Piece, plain, key, Spot, takes_key, spot_behind, spot_behind_key, follows_key, Gathered, opened, ends_at, with_key, elsewhere, multi_name, gather}
use Rattle.def_descriptor.specs.Parts.{read_form, read_head, Body, single, Found, read_wsh, read_body, read_parts}
use Rattle.def_descriptor.specs.Gives.{pieces_in}
use Rattle.ms_key_laws.proofs.Clean.{is_printed, AreGood, Reaches, here, past, further, still_good, past_mark, ReachesBy, from_further, reach_then, reach_if, reach_behind}
use Rattle.ms_key_laws.proofs.Passing.{StartsPrinted, past_word, key_first, some_before, some_mapped, reach_mark, reach_ways, reach_origin}

-- ---- extended keys

all_get : (alphabet : Bytes) (i d : ℕ) → list_all is_printed alphabet ≡ true → i < length alphabet → is_printed (get_or alphabet i d) ≡ true
all_get [] i d all inside = absurd (omega arith)
all_get (x ∷ alphabet) zero d all inside = (and_parts (is_printed x) (list_all is_printed alphabet) all).0
all_get (x ∷ alphabet) (suc i) d all inside = all_get alphabet i d (and_parts (is_printed x) (list_all is_printed alphabet) all).1 (omega arith)

found_printed : (b : ℕ) (alphabet : Bytes) (i : ℕ) → list_all is_printed alphabet ≡ true → position (λ other. other == b) alphabet ≡ Some i → is_printed b ≡ true
found_printed b alphabet i all e =
    let at = position-Some (λ other. other == b) alphabet i 0 e in
    subst (λ (z : ℕ). is_printed z ≡ true) (eqb-true (get_or alphabet i 0) b at.1) (all_get alphabet i 0 all at.0)

first_digit : (o : Option ℕ) (p : Option (List ℕ)) (ds : List ℕ) → with_digit o p ≡ Some ds → (d : ℕ) × (o ≡ Some d)
first_digit None p ds e = absurd (cc)
first_digit (Some d) p ds e = (d, refl)

digits_first : (word : Bytes) (ds : List ℕ) → 0 < length word → read_digits base58_alphabet word ≡ Some ds → StartsPrinted word
digits_first [] ds some e = omega arith
digits_first (b ∷ word) ds some e =
    let (d, own) = first_digit (position (λ other. other == b) base58_alphabet) (read_digits base58_alphabet word) ds e in
    found_printed b base58_alphabet d refl own

if_both : {A : Type 0} (b : Bool) (o : Option A) (x : A) → (if b then o else None) ≡ Some x → (b ≡ true) × (o ≡ Some x)
if_both true o x e = (refl, e)
if_both false o x e = absurd (cc)

checked_first : (word bytes : Bytes) → 0 < length word → read_base58_check word ≡ Some bytes → StartsPrinted word
unfolding read_base58_check
checked_first word bytes some e =
    let (all, own) = some_before unchecked (read_base58 word) bytes e in
    let (ds, digits) = some_mapped (rebased 58 256) (read_digits base58_alphabet word) all own in
    digits_first word ds some digits

extended_first : (word : Bytes) (own : Extended) → extended_word word ≡ Some own → StartsPrinted word
unfolding extended_of
extended_first word own e =
    let (long, found) = if_both (length word == 111) (extended_of word) own e in
    let size : length word ≡ 111 = eqb-true (length word) 111 long in
    let (bytes, checked) = some_before read_extended (read_base58_check word) own found in
    checked_first word bytes (omega arith) checked

-- ---- a key expression

reach_point : {A : Type 0} (ts : List Token) (at : ℕ) (own : Option Point) (r : Result (A × List Token) DescriptorFault) → ReachesBy ts r → ReachesBy ts (with_point at own r)
reach_point ts at None r h = tt
reach_point ts at (Some own) r h = h

reach_named_by : (seen : Seen) (at : ℕ) (word : Bytes) (own : Option Bytes) (other : Option Extended) (ts : List Token) → key_of word ≡ own → extended_word word ≡ other
    → AreGood (token at word ∷ ts) → ReachesBy (token at word ∷ ts) (named_by seen at word own other ts)
reach_named_by seen at word (Some own) other ts e f good = reach_point (token at word ∷ ts) at (point_of own) _ (past_word at word good (key_first word own e) here)
reach_named_by seen at word None (Some own) ts e f good =
    reach_point (token at word ∷ ts) at (point_of own.key) (ways_behind seen at own ts)
    (from_further (ways_behind seen at own ts) (past_word at word good (extended_first word own f) here)
    (reach_if ts (fits seen.version own.version) _ _
    (λ e. reach_then ts (read_ways (MOST_STEPS - own.depth) seen.length false ts) _ good.1 (reach_ways (MOST_STEPS - own.depth) seen.length false ts good.1) (λ ways rest l. here)) tt))
reach_named_by seen at word None None ts e f good = tt

reach_named : (seen : Seen) (ts : List Token) → AreGood ts → ReachesBy ts (read_named seen ts)
unfolding read_named
reach_named seen [] good = tt
reach_named seen (token at word ∷ ts) good = reach_named_by seen at word (key_of word) (extended_word word) ts refl refl good

pub reach_key : (seen : Seen) (ts : List Token) → AreGood ts → ReachesBy ts (read_key seen ts)
unfolding read_key
reach_key seen ts good =
    reach_then ts (read_origin ts) _ good (reach_origin ts good)
    (λ origin rest l. reach_then rest (read_named seen rest) _ l (reach_named seen rest l) (λ named end m. here))

-- ---- pieces

-- each token among them begins with a printed character
abbrev pub IsBegun : Bytes → Type 0
IsBegun [] = ⊤
IsBegun (b ∷ bytes) = is_printed b ≡ true

abbrev pub AreBegun : List Piece → Type 0
AreBegun [] = ⊤
AreBegun (plain at bytes ∷ ps) = IsBegun bytes × AreBegun ps
AreBegun (key expression ∷ ps) = AreBegun ps

past_begun : (at : ℕ) (bytes : Bytes) {ts rest : List Token} → AreGood (token at bytes ∷ ts) → IsBegun bytes → Reaches ts rest → Reaches (token at bytes ∷ ts) rest
past_begun at [] good h r = past refl r
past_begun at (b ∷ bytes) good h r = past_word at (b ∷ bytes) good h r

-- where no key was refused, and the pieces begin so, what is left stands behind printed tokens
abbrev Gathers : List Token → Gathered → Type 0
Gathers ts g = g.refused ≡ None → AreBegun g.pieces → Reaches ts g.rest

gathers_if : (ts : List Token) (b : Bool) (g h : Gathered) → Gathers ts g → Gathers ts h → Gathers ts (cond b g h)
gathers_if ts true g h a b = a
gathers_if ts false g h a b = b

by_key : (ts : List Token) (seen : Seen) (r : Result (Expression × List Token) DescriptorFault) (more : Seen → List Token → Gathered) → AreGood ts → ReachesBy ts r
    → ((later : Seen) (rest : List Token) → AreGood rest → Gathers rest (more later rest)) → Gathers ts (with_key seen r more)
by_key ts seen (Err fault) more good h go = λ none printed. absurd (cc)
by_key ts seen (Ok (expression, rest)) more good h go = λ none printed. further h (go (seen_with seen expression) rest (still_good h good) none printed)

gather_reaches : (most : ℕ) (spot : Spot) (level : ℕ) (seen : Seen) (ts : List Token) → AreGood ts → Gathers ts (gather most spot level seen ts)
unfolding gather
gather_reaches zero spot level seen ts good = λ none printed. here
gather_reaches (suc most) spot level seen [] good = λ none printed. here
gather_reaches (suc most) spot level seen (token at bytes ∷ ts) good =
    gathers_if (token at bytes ∷ ts) (takes_key spot) _ _
    (by_key (token at bytes ∷ ts) seen (read_key seen (token at bytes ∷ ts)) (gather most (spot_behind_key spot) level) good (reach_key seen (token at bytes ∷ ts) good)
    (λ later rest l. gather_reaches most (spot_behind_key spot) level later rest l))
    (gathers_if (token at bytes ∷ ts) (follows_key spot && is_word bytes) _ _ (λ none printed. absurd (cc))
    (gathers_if (token at bytes ∷ ts) (ends_at level bytes) _ _ (λ none printed. here)
    (λ none printed. past_begun at bytes good printed.0 (gather_reaches most (spot_behind spot bytes) (opened level bytes) seen ts good.1 none printed.1))))

-- ---- a body

-- no key of pieces was refused
abbrev pub NoneRefused : Body → Option DescriptorFault → Type 0
NoneRefused (single expression) refused = ⊤
NoneRefused body refused = refused ≡ None

abbrev pub Finds : List Token → Found → Type 0
Finds ts found = NoneRefused found.body found.refused → AreBegun (pieces_in found.body) → Reaches ts found.rest

finds_if : (ts : List Token) (b : Bool) (f g : Found) → (b ≡ true → Finds ts f) → Finds ts g → Finds ts (cond b f g)
finds_if ts true f g h k = h refl
finds_if ts false f g h k = k

wsh_finds : (most : ℕ) (ts : List Token) → AreGood ts → Finds ts (read_wsh most ts)
wsh_finds most ts good =
    finds_if ts (starts (codes "sortedmulti") ts) _ _
    (λ e none printed.
    let first : Reaches ts (drop 1 ts) = past_mark (codes "sortedmulti") ts refl e in
    further first (gather_reaches most multi_name 0 NOTHING_SEEN (drop 1 ts) (still_good first good) none printed.1))
    (gather_reaches most elsewhere 0 NOTHING_SEEN ts good)

abbrev PartsFind : List Token → Result (Bool × Found) DescriptorFault → Type 0
PartsFind ts (Ok (under, found)) = Finds ts found
PartsFind ts (Err fault) = ⊤

single_finds : (ts : List Token) (under : Bool) (r : Result (Expression × List Token) DescriptorFault) → ReachesBy ts r
    → PartsFind ts (mapped (λ found. (under, found)) (and_then r (λ expression rest. Ok (record { body = single expression; refused = None; rest = rest }))))
single_finds ts under (Ok (expression, rest)) h = λ none printed. h
single_finds ts under (Err fault) h = tt

body_finds : (most : ℕ) (under : Bool) (form : Form) (ts : List Token) → AreGood ts → PartsFind ts (mapped (λ found. (under, found)) (read_body most form ts))
body_finds most under Wsh ts good = wsh_finds most ts good
body_finds most under Wpkh ts good = single_finds ts under (read_key NOTHING_SEEN ts) (reach_key NOTHING_SEEN ts good)

pub reach_form : (ts : List Token) → AreGood ts → ReachesBy ts (read_form ts)
reach_form [] good = tt
reach_form (token at name ∷ ts) good =
    reach_if (token at name ∷ ts) (bytes_eq name (codes "wsh")) _ _
    (λ e. from_further (behind (codes "(") ts (λ rest. Ok (Wsh, rest))) (past_mark (codes "wsh") (token at name ∷ ts) refl e)
    (reach_behind (codes "(") ts _ refl good.1 (λ rest l. here)))
    (reach_if (token at name ∷ ts) (bytes_eq name (codes "wpkh")) _ _
    (λ e. from_further (behind (codes "(") ts (λ rest. Ok (Wpkh, rest))) (past_mark (codes "wpkh") (token at name ∷ ts) refl e)
    (reach_behind (codes "(") ts _ refl good.1 (λ rest l. here))) tt)

pub reach_head : (ts : List Token) → AreGood ts → ReachesBy ts (read_head ts)
reach_head ts good =
    reach_mark (codes "sh") ts _ _ refl good
    (λ g. reach_behind (codes "(") (drop 1 ts) _ refl g
    (λ rest l. reach_then rest (read_form rest) _ l (reach_form rest l) (λ form end m. here)))
    (reach_then ts (read_form ts) _ good (reach_form ts good) (λ form end m. here))

further_parts : (ts us : List Token) (r : Result (Bool × Found) DescriptorFault) → Reaches ts us → PartsFind us r → PartsFind ts r
further_parts ts us (Ok (under, found)) h k = λ none printed. further h (k none printed)
further_parts ts us (Err fault) h k = tt

head_finds : (most : ℕ) (ts : List Token) (r : Result ((Bool × Form) × List Token) DescriptorFault) → AreGood ts → ReachesBy ts r
    → PartsFind ts (and_then r (λ head rest. mapped (λ found. (head.0, found)) (read_body most head.1 rest)))
head_finds most ts (Ok ((under, form), rest)) good h = further_parts ts rest _ h (body_finds most under form rest (still_good h good))
head_finds most ts (Err fault) good h = tt

parts_find : (text : Bytes) → AreGood (tokens text) → PartsFind (tokens text) (read_parts text)
unfolding read_parts
parts_find text good = head_finds (suc (length text)) (tokens text) (read_head (tokens text)) good (reach_head (tokens text) good)

found_in : Found → Result (Bool × Found) DescriptorFault → Found
found_in other (Ok x) = x.1
found_in other (Err fault) = other

by_parts : (ts : List Token) (r : Result (Bool × Found) DescriptorFault) (under : Bool) (found : Found) → PartsFind ts r → r ≡ Ok (under, found) → Finds ts found
unfolding found_in
by_parts ts (Ok (other, own)) under found h e = let same : own ≡ found = ap (found_in own) e in subst (Finds ts) same h
by_parts ts (Err fault) under found h e = absurd (cc)

-- what is left behind a body stands behind printed tokens
pub found_reaches : (text : Bytes) (under : Bool) (found : Found) → AreGood (tokens text) → read_parts text ≡ Ok (under, found) → Finds (tokens text) found
found_reaches text under found good e = by_parts (tokens text) (read_parts text) under found (parts_find text good) e
