-- Words in which keys were exchanged are read alike: longer than each name, number and hash value, they are a key or nothing.
use Rattle.std.proofs.Common.{◌≡◌, inl, inr, ℕ, ◌+◌, ◌*◌, ◌≤◌, ◌==◌, Bool, true, false, ◌&&◌, not, List, [], ◌∷◌, ◌++◌, length, slice_index, codes, Option, Some, None, Result, Ok, refl, sym, ap, ◌∙◌, subst, arith, length-append, append-nil}
use Rattle.std.specs.Prelude.{if◌then◌else◌, nat_le}
use Rattle.std.specs.List.{list_all, AllPass}
use Rattle.std.specs.Option.{option_and_then, option_map}
use Rattle.std.specs.Result.{result_ok}
use Rattle.std.specs.Str.{all_ascii_digits, bytes_eq}
use Rattle.std.specs.Str.Parse.{digits_value}
use Rattle.std.proofs.lemmas.Bool.{and_parts, or_cases, cases_eq, leb-true, eqb-true}
use Rattle.std.proofs.lemmas.Slice.Eq.{bytes_eq-Decides}
use Rattle.hex.specs.Hex.{decode_of, is_hex_digit}
use Rattle.hex.specs.declared.error.FromHexError.{FromHexError}
use Rattle.hex.proofs.HexLemmas.{decode_of-ok}
use Rattle.def_script.specs.Bytes.{Bytes}
use Rattle.def_script.specs.Key.{is_key}
use Rattle.def_script.proofs.KeyLemmas.{key_length}
use Rattle.def_hash.specs.Hash.{digest_length}
use Rattle.def_hash.specs.declared.HashKind.{HashKind}
use Rattle.def_tree.specs.Tree.{Key}
use Rattle.def_tree.specs.Range.{IsKey}
use Rattle.def_text.specs.Token.{is_word_byte}
use Rattle.def_text.specs.Word.{is_number, number_of, key_of, is_digest, hash_of}
use Rattle.def_text.specs.Scaffolding.Reader.{Form, form_name, FORMS, first_named, letters_of, neither, head_from, head_of}
use Rattle.def_text.proofs.Words.{named_is}
use Rattle.ms_key_laws.specs.WithoutKeys.{no_key}

-- two words tell the reader the same, but for which key they are
pub record ReadAlike (w v : Bytes) : Type 0 where
  pub head : head_of w ≡ head_of v
  pub number : number_of w ≡ number_of v
  pub hash : (kind : HashKind) → hash_of kind w ≡ hash_of kind v
  pub key : option_map no_key (key_of w) ≡ option_map no_key (key_of v)

-- a word in which the digits of a key stand: it is that key, or longer
pub record HoldsKey (w : Bytes) : Type 0 where
  pub long : 66 ≤ length w
  pub no_run : letters_of w ≡ None
  pub key : length w ≡ 66 → (own : Key) × (key_of w ≡ Some own)

-- two words that are one, but for keys
pub data Exchanged (w v : Bytes) : Type 0 where
  same : w ≡ v → Exchanged w v
  keys : HoldsKey w → HoldsKey v → length w ≡ length v → Exchanged w v

-- ---- a long word is no name, no number and no hash value

short_name : (form : Form) → length (form_name form) ≤ 9
short_name form = grind arith

no_name : (w : Bytes) (o : Option Form) → first_named w FORMS ≡ o → 66 ≤ length w → o ≡ None
no_name w None h long = refl
no_name w (Some form) h long =
    let e : length w ≡ length (form_name form) = ap length (named_is w form FORMS h) in
    let short : length (form_name form) ≤ 9 = short_name form in
    absurd (omega arith)

no_head : {w : Bytes} → HoldsKey w → head_of w ≡ neither
no_head {w = w} h = ap (λ o. head_from o (first_named w FORMS)) h.no_run ∙ ap (head_from None) (no_name w (first_named w FORMS) refl h.long)

pub short_number : (w : Bytes) → is_number w ≡ true → length w ≤ 10
short_number w h = elim (or_cases (bytes_eq w (codes "0"))
    (all_ascii_digits w && nat_le 1 (length w) && nat_le (length w) 10 && not (slice_index w 0 == 48)) h) [
      | inl lone ↦ subst (λ v. length v ≤ 10) (sym ((bytes_eq-Decides w (codes "0")).0 lone)) (omega arith)
      | inr digits ↦
          let (sized, first) = and_parts (all_ascii_digits w && nat_le 1 (length w) && nat_le (length w) 10) (not (slice_index w 0 == 48)) digits in
          let (some, most) = and_parts (all_ascii_digits w && nat_le 1 (length w)) (nat_le (length w) 10) sized in
          leb-true (length w) 10 most
    ]

no_number_by : (w : Bytes) (b : Bool) → is_number w ≡ b → 66 ≤ length w → (if b then Some (digits_value 10 w) else None) ≡ None
no_number_by w true h long = let short : length w ≤ 10 = short_number w h in absurd (omega arith)
no_number_by w false h long = refl

no_number : {w : Bytes} → HoldsKey w → number_of w ≡ None
no_number {w = w} h = no_number_by w (is_number w) refl h.long

-- what was decoded passed the test
pub decoded : (test : Bytes → Bool) (r : Result (List ℕ) FromHexError) (bytes : Bytes) →
    option_and_then (λ (v : Bytes). if test v then Some v else None) (result_ok r) ≡ Some bytes →
    (r ≡ Ok bytes) × (test bytes ≡ true)
decoded test r bytes = grind arith

short_digest : (kind : HashKind) → digest_length kind ≤ 32
short_digest kind = grind arith

no_hash_by : (kind : HashKind) (w : Bytes) (o : Option Bytes) → hash_of kind w ≡ o → 66 ≤ length w → o ≡ None
no_hash_by kind w None h long = refl
no_hash_by kind w (Some value) h long =
    let (ok, passed) = decoded (is_digest kind) (decode_of w) value h in
    let twice : length w ≡ 2 * length value = (decode_of-ok w value ok).2 in
    let size : length value ≡ digest_length kind = eqb-true (length value) (digest_length kind) passed in
    let short : digest_length kind ≤ 32 = short_digest kind in
    absurd (omega arith)

no_hash : {w : Bytes} → HoldsKey w → (kind : HashKind) → hash_of kind w ≡ None
no_hash {w = w} h kind = no_hash_by kind w (hash_of kind w) refl h.long

-- a word that is a key has the form of one, and 66 hexadecimal digits
pub key_by_word : (w : Bytes) (key : Key) → key_of w ≡ Some key → IsKey key
key_by_word w key h =
    let (ok, passed) = decoded is_key (decode_of w) key h in
    record { form = passed; bytes = (decode_of-ok w key ok).3 }

pub key_digits : (w : Bytes) (key : Key) → key_of w ≡ Some key → AllPass is_hex_digit w
key_digits w key h =
    let (ok, passed) = decoded is_key (decode_of w) key h in
    (decode_of-ok w key ok).1

pub key_size : (w : Bytes) (key : Key) → key_of w ≡ Some key → length w ≡ 66
key_size w key h =
    let (ok, passed) = decoded is_key (decode_of w) key h in
    let twice : length w ≡ 2 * length key = (decode_of-ok w key ok).2 in
    let size : length key ≡ 33 = key_length key passed in
    omega arith

no_longer_key : (w : Bytes) (o : Option Key) → key_of w ≡ o → (length w ≡ 66 → ⊥) → o ≡ None
no_longer_key w None h longer = refl
no_longer_key w (Some key) h longer = absurd (longer (key_size w key h))

keys_alike : {w v : Bytes} → HoldsKey w → HoldsKey v → length w ≡ length v → option_map no_key (key_of w) ≡ option_map no_key (key_of v)
keys_alike {w = w} {v = v} h k e = elim (cases_eq (length w) 66) [
  | inl right ↦
      ap (option_map no_key) (h.key right).1
      ∙ sym (ap (option_map no_key) (k.key (sym e ∙ right)).1)
  | inr longer ↦
      ap (option_map no_key) (no_longer_key w (key_of w) refl longer)
      ∙ sym (ap (option_map no_key) (no_longer_key v (key_of v) refl (λ n. longer (e ∙ n))))
]

pub alike : {w v : Bytes} → Exchanged w v → ReadAlike w v
alike {w = w} (same e) = record {
  head = ap head_of e;
  number = ap number_of e;
  hash = λ kind. ap (hash_of kind) e;
  key = ap (λ z. option_map no_key (key_of z)) e;
}
alike (keys h k e) = record {
  head = no_head h ∙ sym (no_head k);
  number = no_number h ∙ sym (no_number k);
  hash = λ kind. no_hash h kind ∙ sym (no_hash k kind);
  key = keys_alike h k e;
}

-- ---- bytes before such words

no_run_behind : (b : ℕ) (w : Bytes) → letters_of w ≡ None → letters_of (b ∷ w) ≡ None
no_run_behind b w h = grind arith

longer : (b : ℕ) (w : Bytes) → HoldsKey w → HoldsKey (b ∷ w)
longer b w h =
    let long : 66 ≤ length w = h.long in
    record { long = omega arith; no_run = no_run_behind b w h.no_run; key = λ n. absurd (omega arith) }

pub byte_before : {w v : Bytes} (b : ℕ) → Exchanged w v → Exchanged (b ∷ w) (b ∷ v)
byte_before b (same e) = same (ap (λ z. b ∷ z) e)
byte_before {w = w} {v = v} b (keys h k e) = keys (longer b w h) (longer b v k) (omega (arith, e))

-- ---- keys before words

-- the digits of a key: the first is `0`, which is no letter
pub record KeyWord (w : Bytes) : Type 0 where
  pub rest : Bytes
  pub is : w ≡ 48 ∷ rest
  pub long : length w ≡ 66
  pub word : list_all is_word_byte w ≡ true
  pub own : Key
  pub spells : key_of w ≡ Some own

nothing : (w : Bytes) → length w ≡ 0 → w ≡ []
nothing [] h = refl
nothing (b ∷ w) h = absurd (omega arith)

digit_first : (w : Bytes) → letters_of (48 ∷ w) ≡ None
digit_first w = refl

holds : {k : Bytes} (w : Bytes) → KeyWord k → HoldsKey (k ++ w)
holds {k = k} w h =
    let size : length (k ++ w) ≡ length k + length w = length-append k w in
    let long : length k ≡ 66 = h.long in
    record {
      long = omega arith;
      no_run = ap (λ z. letters_of (z ++ w)) h.is ∙ digit_first (h.rest ++ w);
      key = λ n. (h.own, ap (λ z. key_of (k ++ z)) (nothing w (omega arith)) ∙ (ap key_of (append-nil k) ∙ h.spells));
    }

pub keys_before : {k l : Bytes} (w v : Bytes) → KeyWord k → KeyWord l → length w ≡ length v → Exchanged (k ++ w) (l ++ v)
keys_before {k = k} {l = l} w v h g e =
    let size : length (k ++ w) ≡ length k + length w = length-append k w in
    let other : length (l ++ v) ≡ length l + length v = length-append l v in
    let long : length k ≡ 66 = h.long in
    let same_size : length l ≡ 66 = g.long in
    keys (holds w h) (holds v g) (omega arith)

pub keys_alone : {k l : Bytes} → KeyWord k → KeyWord l → Exchanged k l
keys_alone {k = k} {l = l} h g =
    subst (λ z. Exchanged z l) (append-nil k) (subst (Exchanged (k ++ [])) (append-nil l) (keys_before [] [] h g refl))

pub same_length : {w v : Bytes} → Exchanged w v → length w ≡ length v
same_length (same e) = ap length e
same_length (keys h k e) = e
