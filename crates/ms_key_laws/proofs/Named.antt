-- Each key that stands in a descriptor's text is a public one, and has the form of one.
use Rattle.std.proofs.Common.{◌≡◌, ◌==◌, ℕ, zero, suc, Bool, true, false, List, [], ◌∷◌, length, refl, ap, subst, cond, Option, Some, None, Result, Ok, Err}
use Rattle.std.specs.Prelude.{All, IsTrue, if◌then◌else◌, ◌&&◌, ⊤, codes}
use Rattle.std.specs.Option.{option_and_then}
use Rattle.std.proofs.lemmas.Bool.{and_parts}
use Rattle.std.proofs.lemmas.List.Elements.{All-nil, All-cons}
use Rattle.def_script.specs.Bytes.{Bytes}
use Rattle.def_text.specs.Word.{key_of}
use Rattle.def_curve.specs.Point.{Point}
use Rattle.def_curve.specs.Key.{point_of}
use Rattle.def_script.specs.Key.{is_key}
use Rattle.def_address.specs.Base58.{read_base58_check}
use Rattle.def_derive.specs.Extended.{Extended, is_version, is_rooted, parts_of, read_extended, extended_of}
use Rattle.def_descriptor.specs.declared.Form.{Form}
use Rattle.def_descriptor.specs.declared.Form.TheVariants.{Wsh, Wpkh}
use Rattle.def_descriptor.specs.declared.DescriptorFault.{DescriptorFault}
use Rattle.def_descriptor.specs.Token.{Token, token, tokens, is_word, starts, place, and_then, mapped}
use Rattle.def_descriptor.specs.Expression.{Origin, Way, Named, point, extended, Expression}
use Rattle.def_descriptor.specs.ReadKey.{read_origin, Seen, NOTHING_SEEN, seen_with, extended_word, with_point, ways_behind, named_by, read_named, read_key}
use Rattle.def_descriptor.specs.Steps.{fits}
use Rattle.def_descriptor.specs.Pieces.{expressions, Spot, takes_key, spot_behind, spot_behind_key, follows_key, Gathered, opened, ends_at, with_key, elsewhere, multi_name, gather}
use Rattle.def_descriptor.specs.Parts.{read_head, single, Found, read_wsh, read_body, read_parts}
use Rattle.def_descriptor.specs.Gives.{expressions_of}
use Rattle.ms_key_laws.proofs.Words.{key_by_word}
use Rattle.ms_key_laws.specs.Public.{HasPoint, IsPublic}
use Rattle.ms_key_laws.proofs.Forms.{IsNamedKey, AllForms}

-- ---- a key expression

-- a public key, and where it is compressed, a key of bytes
pub record IsNamed (named : Named) : Type 0 where
  pub public : IsPublic named
  pub form : IsNamedKey named

abbrev NamedOk : Result (Named × List Token) DescriptorFault → Type 0
NamedOk (Ok (named, rest)) = IsNamed named
NamedOk (Err fault) = ⊤

abbrev ExpressionOk : Result (Expression × List Token) DescriptorFault → Type 0
ExpressionOk (Ok (expression, rest)) = IsNamed expression.named
ExpressionOk (Err fault) = ⊤

named_if : (b : Bool) (r s : Result (Named × List Token) DescriptorFault) → NamedOk r → NamedOk s → NamedOk (cond b r s)
named_if true r s h k = h
named_if false r s h k = k

with_point_ok : (at : ℕ) (key : Bytes) (o : Option Point) (r : Result (Named × List Token) DescriptorFault) → point_of key ≡ o → (HasPoint key → NamedOk r)
    → NamedOk (with_point at o r)
with_point_ok at key None r e h = tt
with_point_ok at key (Some own) r e h = h (own, e)

ways_ok : (own : Extended) (r : Result (List Way × List Token) DescriptorFault) → IsTrue (is_version own.version) × IsTrue (is_key own.key) → HasPoint own.key
    → NamedOk (and_then r (λ ways rest. Ok (extended own ways, rest)))
ways_ok own (Ok (ways, rest)) h k = record { public = (h.0, h.1, k); form = tt }
ways_ok own (Err fault) h k = tt

-- an extended key that is read is a public one
by_tests : (a b c d t : Bool) (own key : Extended) → (a && b && c && d) ≡ t → (if t then Some own else None) ≡ Some key → (b ≡ true) × (d ≡ true) × (own ≡ key)
by_tests a b c d true own key h e =
    let last = and_parts (a && b && c) d h in
    let third = and_parts (a && b) c last.0 in
    let second = and_parts a b third.0 in
    (second.1, last.1, cc)
by_tests a b c d false own key h e = absurd (cc)

read_is : (bytes : Bytes) (key : Extended) → read_extended bytes ≡ Some key → IsTrue (is_version key.version) × IsTrue (is_key key.key)
unfolding read_extended
read_is bytes key e =
    let own = parts_of bytes in
    let (version, form, same) =
    by_tests (length bytes == 78) (is_version own.version) (is_rooted own.depth own.number own.parent) (is_key own.key)
    ((length bytes == 78) && is_version own.version && is_rooted own.depth own.number own.parent && is_key own.key) own key refl e in
    (subst (λ (z : Extended). IsTrue (is_version z.version)) same version, subst (λ (z : Extended). IsTrue (is_key z.key)) same form)

behind_check : (o : Option Bytes) (key : Extended) → option_and_then read_extended o ≡ Some key → IsTrue (is_version key.version) × IsTrue (is_key key.key)
behind_check None key e = absurd (cc)
behind_check (Some bytes) key e = read_is bytes key e

if_long : (b : Bool) (o : Option Extended) (key : Extended) → (if b then o else None) ≡ Some key → o ≡ Some key
if_long true o key e = e
if_long false o key e = absurd (cc)

extended_is : (word : Bytes) (key : Extended) → extended_word word ≡ Some key → IsTrue (is_version key.version) × IsTrue (is_key key.key)
unfolding extended_of
extended_is word key e = behind_check (read_base58_check word) key (if_long (length word == 111) (extended_of word) key e)

named_by_ok : (seen : Seen) (at : ℕ) (word : Bytes) (own : Option Bytes) (other : Option Extended) (ts : List Token) → key_of word ≡ own → extended_word word ≡ other
    → NamedOk (named_by seen at word own other ts)
named_by_ok seen at word (Some own) other ts h k =
    let is = key_by_word word own h in
    with_point_ok at own (point_of own) (Ok (point own, ts)) refl (λ there. record { public = (is.form, there); form = is })
named_by_ok seen at word None (Some own) ts h k =
    with_point_ok at own.key (point_of own.key) (ways_behind seen at own ts) refl (λ there.
    named_if (fits seen.version own.version) _ _ (ways_ok own _ (extended_is word own k) there) tt)
named_by_ok seen at word None None ts h k = tt

named_ok : (seen : Seen) (ts : List Token) → NamedOk (read_named seen ts)
unfolding read_named
named_ok seen [] = tt
named_ok seen (token at word ∷ ts) = named_by_ok seen at word (key_of word) (extended_word word) ts refl refl

expression_ok : (at : ℕ) (origin : Option Origin) (r : Result (Named × List Token) DescriptorFault) → NamedOk r
    → ExpressionOk (and_then r (λ named end. Ok (record { at = at; origin = origin; named = named }, end)))
expression_ok at origin (Ok (named, end)) h = h
expression_ok at origin (Err fault) h = tt

behind_origin : (r : Result (Option Origin × List Token) DescriptorFault) (next : Option Origin → List Token → Result (Expression × List Token) DescriptorFault)
    → ((origin : Option Origin) (rest : List Token) → ExpressionOk (next origin rest)) → ExpressionOk (and_then r next)
behind_origin (Ok (origin, rest)) next h = h origin rest
behind_origin (Err fault) next h = tt

key_ok : (seen : Seen) (ts : List Token) → ExpressionOk (read_key seen ts)
unfolding read_key
key_ok seen ts = behind_origin (read_origin ts) _ (λ origin rest. expression_ok (place ts) origin (read_named seen rest) (named_ok seen rest))

-- ---- pieces

abbrev pub AllNamed : List Expression → Type 0
AllNamed [] = ⊤
AllNamed (expression ∷ rest) = IsNamed expression.named × AllNamed rest

pieces_if : (b : Bool) (g h : Gathered) → AllNamed (expressions g.pieces) → AllNamed (expressions h.pieces) → AllNamed (expressions (cond b g h).pieces)
pieces_if true g h a b = a
pieces_if false g h a b = b

by_key : (seen : Seen) (r : Result (Expression × List Token) DescriptorFault) (more : Seen → List Token → Gathered) → ExpressionOk r
    → ((seen : Seen) (ts : List Token) → AllNamed (expressions (more seen ts).pieces)) → AllNamed (expressions (with_key seen r more).pieces)
by_key seen (Err fault) more h go = tt
by_key seen (Ok (expression, rest)) more h go = (h, go (seen_with seen expression) rest)

gather_named : (most : ℕ) (spot : Spot) (level : ℕ) (seen : Seen) (ts : List Token) → AllNamed (expressions (gather most spot level seen ts).pieces)
unfolding gather
gather_named zero spot level seen ts = tt
gather_named (suc most) spot level seen [] = tt
gather_named (suc most) spot level seen (token at bytes ∷ ts) =
    pieces_if (takes_key spot) _ _
    (by_key seen (read_key seen (token at bytes ∷ ts)) (gather most (spot_behind_key spot) level) (key_ok seen (token at bytes ∷ ts))
    (λ later rest. gather_named most (spot_behind_key spot) level later rest))
    (pieces_if (follows_key spot && is_word bytes) _ _ tt (pieces_if (ends_at level bytes) _ _ tt (gather_named most (spot_behind spot bytes) (opened level bytes) seen ts)))

-- ---- a body

found_if : (b : Bool) (f g : Found) → AllNamed (expressions_of f.body) → AllNamed (expressions_of g.body) → AllNamed (expressions_of (cond b f g).body)
found_if true f g h k = h
found_if false f g h k = k

wsh_named : (most : ℕ) (ts : List Token) → AllNamed (expressions_of (read_wsh most ts).body)
wsh_named most ts =
    found_if (starts (codes "sortedmulti") ts) _ _ (gather_named most multi_name 0 NOTHING_SEEN _) (gather_named most elsewhere 0 NOTHING_SEEN ts)

abbrev PartsNamed : Result (Bool × Found) DescriptorFault → Type 0
PartsNamed (Ok (under, found)) = AllNamed (expressions_of found.body)
PartsNamed (Err fault) = ⊤

single_named : (under : Bool) (r : Result (Expression × List Token) DescriptorFault) → ExpressionOk r
    → PartsNamed (mapped (λ found. (under, found)) (and_then r (λ expression rest. Ok (record { body = single expression; refused = None; rest = rest }))))
single_named under (Ok (expression, rest)) h = (h, tt)
single_named under (Err fault) h = tt

body_named : (most : ℕ) (under : Bool) (form : Form) (ts : List Token) → PartsNamed (mapped (λ found. (under, found)) (read_body most form ts))
body_named most under Wsh ts = wsh_named most ts
body_named most under Wpkh ts = single_named under (read_key NOTHING_SEEN ts) (key_ok NOTHING_SEEN ts)

head_named : (most : ℕ) (r : Result ((Bool × Form) × List Token) DescriptorFault)
    → PartsNamed (and_then r (λ head rest. mapped (λ found. (head.0, found)) (read_body most head.1 rest)))
head_named most (Ok ((under, form), rest)) = body_named most under form rest
head_named most (Err fault) = tt

parts_named : (text : Bytes) → PartsNamed (read_parts text)
unfolding read_parts
parts_named text = head_named _ (read_head (tokens text))

found_in : Found → Result (Bool × Found) DescriptorFault → Found
found_in other (Ok x) = x.1
found_in other (Err fault) = other

by_parts : (r : Result (Bool × Found) DescriptorFault) (under : Bool) (found : Found) → PartsNamed r → r ≡ Ok (under, found) → AllNamed (expressions_of found.body)
unfolding found_in
by_parts (Ok (other, own)) under found h e =
    let same : own ≡ found = ap (found_in own) e in subst (λ (z : Found). AllNamed (expressions_of z.body)) same h
by_parts (Err fault) under found h e = absurd (cc)

pub found_named : (text : Bytes) (under : Bool) (found : Found) → read_parts text ≡ Ok (under, found) → AllNamed (expressions_of found.body)
found_named text under found e = by_parts (read_parts text) under found (parts_named text) e

-- ---- of all expressions

pub all_public : (all : List Expression) → AllNamed all → All (λ (e : Expression). IsPublic e.named) all
all_public [] h = All-nil (λ (e : Expression). IsPublic e.named)
all_public (expression ∷ rest) h = All-cons (λ (e : Expression). IsPublic e.named) expression rest h.0.public (all_public rest h.1)

pub all_forms : (all : List Expression) → AllNamed all → AllForms all
all_forms [] h = tt
all_forms (expression ∷ rest) h = (h.0.form, all_forms rest h.1)
