-- A spelled tree can be written: each word of a text is a key, a hash value or a number of at most ten digits.
use Rattle.std.specs.Prelude.{if◌then◌else◌, All}
use Rattle.std.proofs.Common.{◌≡◌, inl, inr, ℕ, ◌==◌, ◌<◌, ◌≤◌, Bool, true, false, ◌&&◌, not, List, [], ◌∷◌, length, slice_index, codes, Some, None, Result, Ok, nat_le, refl, sym, subst, arith}
use Rattle.std.specs.Option.{option_and_then}
use Rattle.std.specs.Result.{result_ok}
use Rattle.std.specs.Str.{all_ascii_digits, bytes_eq}
use Rattle.std.specs.Str.Parse.{digits_value}
use Rattle.std.proofs.lemmas.Bool.{and_parts, or_cases, leb-true, eqb-true}
use Rattle.std.proofs.lemmas.Slice.Eq.{bytes_eq-Decides}
use Rattle.std.proofs.lemmas.List.Elements.{All-nil, All-cons}
use Rattle.std.proofs.lemmas.Str.Parse.{digits_value_short}
use Rattle.hex.specs.Hex.{decode_of}
use Rattle.hex.specs.declared.error.FromHexError.{FromHexError}
use Rattle.hex.proofs.HexLemmas.{decode_of-ok}
use Rattle.def_script.specs.Bytes.{Bytes}
use Rattle.def_hash.specs.Hash.{digest_length}
use Rattle.def_hash.specs.declared.HashKind.{HashKind}
use Rattle.def_tree.specs.Tree.{Key, Tree, Trees}
use Rattle.def_tree.specs.Range.{IsKey, IsDigest, IsWritable, AreWritable, TEN_DIGITS, count}
use Rattle.def_text.specs.Token.{Token}
use Rattle.def_text.specs.Word.{is_number, number_of, key_of, is_digest, hash_of}
use Rattle.def_script.specs.Key.{is_key}
use Rattle.def_text.specs.Letter.{Letter, letter_of_wrapper, letter_t, letter_l, letter_u, letter_tree, letters_tree}
use Rattle.def_text.proofs.PrintedWords.{own}
use Rattle.def_text.specs.Spells.{Spells, text_0, text_1, text_pk_k, text_pk_h, text_pk, text_pkh, text_older, text_after, text_hash, text_andor, text_two, text_and_n, text_thresh, text_multi, text_letters, SpellsChildren, last_child, next_child, SpellsKeys, last_key, next_key, SpellsText, text_whole}

-- ---- keys and hash values

-- what a word of hexadecimal digits spells was decoded, and passed the test
decoded : (test : Bytes → Bool) (r : Result (List ℕ) FromHexError) (bytes : Bytes) →
    option_and_then (λ (v : Bytes). if test v then Some v else None) (result_ok r) ≡ Some bytes →
    (r ≡ Ok bytes) × (test bytes ≡ true)
decoded test r bytes = grind arith

key_by_word : (w : Bytes) (key : Key) → key_of w ≡ Some key → IsKey key
key_by_word w key h =
    let (ok, passed) = decoded is_key (decode_of w) key h in
    record { form = passed; bytes = (decode_of-ok w key ok).3 }

hash_by_word : (kind : HashKind) (w value : Bytes) → hash_of kind w ≡ Some value → IsDigest kind value
hash_by_word kind w value h =
    let (ok, passed) = decoded (is_digest kind) (decode_of w) value h in
    record { length = eqb-true (length value) (digest_length kind) passed; bytes = (decode_of-ok w value ok).3 }

-- ---- numbers

short_number : (w : Bytes) → is_number w ≡ true → digits_value 10 w < TEN_DIGITS
short_number w h = elim (or_cases (bytes_eq w (codes "0"))
    (all_ascii_digits w && nat_le 1 (length w) && nat_le (length w) 10 && not (slice_index w 0 == 48)) h) [
      | inl lone ↦ subst (λ v. digits_value 10 v < TEN_DIGITS) (sym ((bytes_eq-Decides w (codes "0")).0 lone)) (omega arith)
      | inr digits ↦
          let (sized, first) = and_parts (all_ascii_digits w && nat_le 1 (length w) && nat_le (length w) 10) (not (slice_index w 0 == 48)) digits in
          let (some, most) = and_parts (all_ascii_digits w && nat_le 1 (length w)) (nat_le (length w) 10) sized in
          let (all, one) = and_parts (all_ascii_digits w) (nat_le 1 (length w)) some in
          digits_value_short own w 10 all (leb-true (length w) 10 most)
    ]

number_from : (w : Bytes) (n : ℕ) (b : Bool) → is_number w ≡ b → (if b then Some (digits_value 10 w) else None) ≡ Some n → n < TEN_DIGITS
number_from w n true is h = let e : digits_value 10 w ≡ n = cc in subst (λ m. m < TEN_DIGITS) e (short_number w is)
number_from w n false is h = absurd (cc)

number_by_word : (w : Bytes) (n : ℕ) → number_of w ≡ Some n → n < TEN_DIGITS
number_by_word w n h = number_from w n (is_number w) refl h

-- ---- trees

keys_by_words : {ts : List Token} {keys : List Key} → SpellsKeys ts keys → All IsKey keys
keys_by_words (last_key {w = w} {key = key} h) = All-cons IsKey key [] (key_by_word w key h) (All-nil IsKey)
keys_by_words (next_key {w = w} {key = key} {keys = keys} h later) = All-cons IsKey key keys (key_by_word w key h) (keys_by_words later)

some_key : {ts : List Token} {keys : List Key} → SpellsKeys ts keys → 1 ≤ length keys
some_key (last_key h) = omega arith
some_key (next_key h later) = let e = some_key later in omega arith

some_child : {ts : List Token} {xs : Trees} {os : List ℕ} → SpellsChildren ts xs os → 1 ≤ count xs
some_child (last_child h) = omega arith
some_child (next_child h later) = let e = some_child later in omega arith

letter_writable : (l : Letter) (x : Tree) → IsWritable x → IsWritable (letter_tree l x)
letter_writable (letter_of_wrapper w) x h = h
letter_writable letter_t x h = (h, tt)
letter_writable letter_l x h = (tt, h)
letter_writable letter_u x h = (h, tt)

letters_writable : (ls : List Letter) (x : Tree) → IsWritable x → IsWritable (letters_tree ls x)
letters_writable [] x h = h
letters_writable (l ∷ ls) x h = letter_writable l (letters_tree ls x) (letters_writable ls x h)

mutual
  writable : {ts : List Token} {x : Tree} {os : List ℕ} → Spells ts x os → IsWritable x
  writable text_0 = tt
  writable text_1 = tt
  writable (text_pk_k {w = w} {key = key} h) = key_by_word w key h
  writable (text_pk_h {w = w} {key = key} h) = key_by_word w key h
  writable (text_pk {w = w} {key = key} h) = key_by_word w key h
  writable (text_pkh {w = w} {key = key} h) = key_by_word w key h
  writable (text_older {w = w} {n = n} h) = number_by_word w n h
  writable (text_after {w = w} {n = n} h) = number_by_word w n h
  writable (text_hash {w = w} kind {value = value} h) = hash_by_word kind w value h
  writable (text_andor c d e hx hy hz) = (writable hx, writable hy, writable hz)
  writable (text_two kind c d hx hy) = (writable hx, writable hy)
  writable (text_and_n c d hx hy) = (writable hx, writable hy, tt)
  writable (text_thresh d {w = w} {k = k} h hx) = (number_by_word w k h, some_child hx, children_writable hx)
  writable (text_multi d {w = w} {k = k} h hk) = (number_by_word w k h, some_key hk, keys_by_words hk)
  writable (text_letters l ls {x = x} hx) = letters_writable (l ∷ ls) x (writable hx)

  children_writable : {ts : List Token} {xs : Trees} {os : List ℕ} → SpellsChildren ts xs os → AreWritable xs
  children_writable (last_child hx) = (writable hx, tt)
  children_writable (next_child hx hy) = (writable hx, children_writable hy)

pub spelled_writable : {ts : List Token} {x : Tree} {os : List ℕ} → SpellsText ts x os → IsWritable x
spelled_writable (text_whole e h) = writable h
