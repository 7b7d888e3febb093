-- The keys that are put into a text are words of it, in their order, or some word is longer than a key.
use Rattle.std.proofs.Common.{◌≡◌, ℕ, ◌+◌, ◌<◌, List, [], ◌∷◌, ◌++◌, length, length-append, map, append-nil, Some, None, refl, sym, ap, ◌∙◌, subst, arith}
use Rattle.std.specs.Prelude.{All}
use Rattle.std.specs.List.{AllByRecursion}
use Rattle.std.proofs.lemmas.List.Elements.{All-head, All-tail}
use Rattle.hex.specs.Hex.{encode_lower}
use Rattle.def_script.specs.Bytes.{Bytes}
use Rattle.def_script.specs.Key.{is_key}
use Rattle.def_tree.specs.Tree.{Key}
use Rattle.def_tree.specs.Range.{IsKey}
use Rattle.def_text.specs.Token.{Token, word, word_before, byte_before, tokens_from}
use Rattle.def_text.specs.Word.{key_of}
use Rattle.def_text.specs.Scaffolding.Reader.{letters_of}
use Rattle.def_text.proofs.Cut.{ByteKind, word_kind, single_kind, skip_kind, kind_of}
use Rattle.def_text.proofs.PrintedWords.{digits_are_spelled}
use Rattle.def_descriptor.specs.Pieces.{Piece, plain, key, expressions, text_with}
use Rattle.ms_key_laws.proofs.Words.{KeyWord, key_size}
use Rattle.ms_key_laws.proofs.Tokens.{joined, joins}
use Rattle.ms_key_laws.proofs.Texts.{key_word}
use Rattle.ms_known_laws.proofs.Parts.{IsPart, one_key, none_part, part_behind}
use Rattle.ms_known_laws.proofs.Spelled.{token_keys, keys_in, IsLonger, IsNoLonger}

-- a word that is this key, and no group of letters
pub record IsKeyWord (w : Bytes) (own : Key) : Type 0 where
  pub key : key_of w ≡ Some own
  pub no_letters : (behind : Bytes) → letters_of (w ++ behind) ≡ None

pub data Holds : List Key → List Token → Type 0 where
  no_more : (ts : List Token) → Holds [] ts
  longer : (keys : List Key) (at : ℕ) {w : Bytes} (ts : List Token) → IsLonger w → Holds keys (word at w ∷ ts)
  alone : (at : ℕ) {w : Bytes} {own : Key} {keys : List Key} {ts : List Token} → IsKeyWord w own → Holds keys ts → Holds (own ∷ keys) (word at w ∷ ts)
  passed : (t : Token) {keys : List Key} {ts : List Token} → Holds keys ts → Holds keys (t ∷ ts)

-- ---- bytes before tokens

no_letters_behind : (b : ℕ) (w : Bytes) → letters_of w ≡ None → letters_of (b ∷ w) ≡ None
no_letters_behind b w h = grind arith

longer_still : (b : ℕ) {w : Bytes} → IsLonger w → IsLonger (b ∷ w)
longer_still b {w = w} h = let long : 66 < length w = h.long in record { long = omega arith; no_letters = no_letters_behind b w h.no_letters }

own_letters : {w : Bytes} {own : Key} → IsKeyWord w own → letters_of w ≡ None
own_letters {w = w} h = ap letters_of (sym (append-nil w)) ∙ h.no_letters []

key_longer : (b : ℕ) {w : Bytes} {own : Key} → IsKeyWord w own → IsLonger (b ∷ w)
key_longer b {w = w} {own = own} h =
    let size : length w ≡ 66 = key_size w own h.key in record { long = omega arith; no_letters = no_letters_behind b w (own_letters h) }

passed_before : (at b : ℕ) (t : Token) {keys : List Key} {ts : List Token} → Holds keys ts → Holds keys (word_before at b (t ∷ ts))
passed_before at b (word n w) h = passed (word at (b ∷ w)) h
passed_before at b t h = passed (word at (b ∷ [])) (passed t h)

word_held : (at b : ℕ) {keys : List Key} {ts : List Token} → Holds keys ts → Holds keys (word_before at b ts)
word_held at b (no_more ts) = no_more (word_before at b ts)
word_held at b (longer keys n ts h) = longer keys at ts (longer_still b h)
word_held at b (alone n {own = own} {keys = keys} {ts = ts} h g) = longer (own ∷ keys) at ts (key_longer b h)
word_held at b (passed t h) = passed_before at b t h

byte_held : (at b : ℕ) {keys : List Key} (ts : List Token) → ByteKind at b → Holds keys ts → Holds keys (byte_before at b ts)
byte_held at b {keys = keys} ts (word_kind g is) h = subst (Holds keys) (sym (is ts)) (word_held at b h)
byte_held at b {keys = keys} ts (single_kind g s o w n is) h = subst (Holds keys) (sym (is ts)) (passed s h)
byte_held at b {keys = keys} ts (skip_kind is) h = subst (Holds keys) (sym (is ts)) h

bytes_held : (bytes : Bytes) (at : ℕ) (rest : Bytes) {keys : List Key} → ((n : ℕ) → Holds keys (tokens_from n rest)) → Holds keys (tokens_from at (bytes ++ rest))
bytes_held [] at rest h = h at
bytes_held (b ∷ bytes) at rest h = byte_held at b (tokens_from (at + 1) (bytes ++ rest)) (kind_of at b) (bytes_held bytes (at + 1) rest h)

-- ---- a key before tokens

key_and_more : {w : Bytes} {own : Key} (b : ℕ) (v : Bytes) → IsKeyWord w own → IsLonger (w ++ b ∷ v)
key_and_more {w = w} {own = own} b v h =
    let size : length w ≡ 66 = key_size w own h.key in
    let both : length (w ++ b ∷ v) ≡ length w + length (b ∷ v) = length-append w (b ∷ v) in
    record { long = omega arith; no_letters = h.no_letters (b ∷ v) }

before_word : (at : ℕ) {w : Bytes} {own : Key} (v : Bytes) {keys : List Key} {ts : List Token} → IsKeyWord w own → Holds keys ts → Holds (own ∷ keys) (word at (w ++ v) ∷ ts)
before_word at {w = w} {own = own} [] {keys = keys} {ts = ts} h g = subst (λ z. Holds (own ∷ keys) (word at z ∷ ts)) (sym (append-nil w)) (alone at h g)
before_word at {own = own} (b ∷ v) {keys = keys} {ts = ts} h g = longer (own ∷ keys) at ts (key_and_more b v h)

before_more : (at : ℕ) {w : Bytes} {own : Key} (keys : List Key) (v : Bytes) (ts : List Token) → IsKeyWord w own → 0 < length v → Holds keys (word at (w ++ v) ∷ ts)
before_more at keys [] ts h some = absurd (omega arith)
before_more at keys (b ∷ v) ts h some = longer keys at ts (key_and_more b v h)

before_token : (at : ℕ) {w : Bytes} {own : Key} (t : Token) {keys : List Key} {ts : List Token} → IsKeyWord w own → Holds keys ts → Holds (own ∷ keys) (joined at w (t ∷ ts))
before_token at (word n v) h g = before_word at v h g
before_token at t h g = alone at h (passed t g)

before_any : (at : ℕ) {w : Bytes} {own : Key} (ts : List Token) → IsKeyWord w own → Holds (own ∷ []) (joined at w ts)
before_any at [] h = alone at h (no_more [])
before_any at (t ∷ ts) h = before_token at t h (no_more ts)

key_joined : (at : ℕ) {w : Bytes} {own : Key} {keys : List Key} {ts : List Token} → IsKeyWord w own → Holds keys ts → Holds (own ∷ keys) (joined at w ts)
key_joined at h (no_more ts) = before_any at ts h
key_joined at {own = own} h (longer keys n {w = v} ts g) = let long : 66 < length v = g.long in before_more at (own ∷ keys) v ts h (omega arith)
key_joined at {own = own} h (alone n {w = v} {own = next} {keys = keys} {ts = ts} g k) =
    let size : length v ≡ 66 = key_size v next g.key in before_more at (own ∷ next ∷ keys) v ts h (omega arith)
key_joined at h (passed t g) = before_token at t h g

starts_so : (w rest behind : Bytes) → w ≡ 48 ∷ rest → letters_of (w ++ behind) ≡ None
starts_so w rest behind e = ap (λ z. letters_of (z ++ behind)) e ∙ zero_first (rest ++ behind)
  where
    zero_first : (v : Bytes) → letters_of (48 ∷ v) ≡ None
    zero_first v = refl

is_key_word : (own : Key) → IsKey own → IsKeyWord (encode_lower own) own
is_key_word own h =
    let k : KeyWord (encode_lower own) = key_word own h in
    record { key = digits_are_spelled is_key own h.form h.bytes; no_letters = λ behind. starts_so (encode_lower own) k.rest behind k.is }

key_held : (own : Key) (at : ℕ) (rest : Bytes) {keys : List Key} → IsKey own → ((n : ℕ) → Holds keys (tokens_from n rest)) → Holds (own ∷ keys) (tokens_from at (encode_lower own ++ rest))
key_held own at rest {keys = keys} h held =
    let k : KeyWord (encode_lower own) = key_word own h in
    let long : length (encode_lower own) ≡ 66 = k.long in
    subst (Holds (own ∷ keys)) (sym (joins (encode_lower own) at rest k.word (omega arith))) (key_joined at (is_key_word own h) (held (at + length (encode_lower own))))

-- ---- texts

pub text_holds : (ps : List Piece) (keys : List Key) (at : ℕ) → All IsKey keys → length keys ≡ length (expressions ps)
    → Holds keys (tokens_from at (text_with (map encode_lower keys) ps))
text_holds [] [] at h e = no_more (tokens_from at [])
text_holds [] (own ∷ keys) at h e = absurd (omega (arith, e))
text_holds (plain place bytes ∷ ps) keys at h e = bytes_held bytes at (text_with (map encode_lower keys) ps) (λ n. text_holds ps keys n h e)
text_holds (key expression ∷ ps) [] at h e = absurd (omega (arith, e))
text_holds (key expression ∷ ps) (own ∷ keys) at h e =
    key_held own at (text_with (map encode_lower keys) ps) (All-head IsKey own keys h) (λ n. text_holds ps keys n (All-tail IsKey own keys h) (omega (arith, e)))

one_there : (at : ℕ) {w : Bytes} {own : Key} {some : List Key} (ts : List Token) → IsKeyWord w own → IsPart some (keys_in ts) → IsPart (own ∷ some) (keys_in (word at w ∷ ts))
one_there at {w = w} {own = own} ts h g = rw (own_letters h, h.key) (one_key own g)

pub held_part : {keys : List Key} {ts : List Token} → Holds keys ts → AllByRecursion IsNoLonger ts → IsPart keys (keys_in ts)
held_part (no_more ts) all = none_part (keys_in ts)
held_part (longer keys at ts h) all = absurd (all.0 h)
held_part (alone at {ts = ts} h g) all = one_there at ts h (held_part g all.1)
held_part (passed t g) all = part_behind (token_keys t) (held_part g all.1)
