-- What looks like a private key is no compressed key.
use Rattle.std.proofs.Common.{◌≡◌, inl, inr, ℕ, ◌==◌, ◌&&◌, ◌||◌, true, List, [], ◌∷◌, length, take, drop, slice_index, codes, refl, subst, arith, IsTrue, Option, Some, None, Err}
use Rattle.std.specs.Prelude.{nat_eq}
use Rattle.std.specs.List.{list_any, AllPass}
use Rattle.std.specs.Str.{bytes_eq}
use Rattle.std.proofs.lemmas.Bool.{and_parts, or_cases, eqb-true}
use Rattle.std.proofs.lemmas.List.Elements.{All-head, All-tail}
use Rattle.std.proofs.lemmas.Slice.Eq.{bytes_eq-Decides}
use Rattle.hex.specs.Hex.{is_hex_digit}
use Rattle.def_script.specs.Bytes.{Bytes}
use Rattle.def_tree.specs.Tree.{Key}
use Rattle.def_text.specs.Word.{key_of}
use Rattle.def_derive.specs.Extended.{Extended}
use Rattle.def_descriptor.specs.declared.DescriptorFault.TheVariants.{Private}
use Rattle.def_descriptor.specs.Token.{Token, token}
use Rattle.def_descriptor.specs.ReadKey.{Seen, extended_word, is_private, named_by, read_named}
use Rattle.ms_key_laws.proofs.Words.{key_size, key_digits}

-- `p` is no hexadecimal digit
no_digit : (word : Bytes) → AllPass is_hex_digit word → length word ≡ 66 → take 3 (drop 1 word) ≡ codes "prv" → ⊥
no_digit [] h long e = omega arith
no_digit (a ∷ []) h long e = omega arith
no_digit (a ∷ b ∷ rest) h long e =
    let first : is_hex_digit b ≡ true = All-head (λ x. is_hex_digit x ≡ true) b rest (All-tail (λ x. is_hex_digit x ≡ true) a (b ∷ rest) h) in
    let p : b ≡ 112 = cc e in
    let no : is_hex_digit 112 ≡ true = subst (λ (z : ℕ). is_hex_digit z ≡ true) p first in
    cc no

other_length : (word : Bytes) → (length word == 51 || length word == 52) ≡ true → length word ≡ 66 → ⊥
other_length word h long = elim (or_cases (length word == 51) (length word == 52) h) [
  | inl e ↦ let n : length word ≡ 51 = eqb-true (length word) 51 e in omega arith
  | inr e ↦ let n : length word ≡ 52 = eqb-true (length word) 52 e in omega arith
]

no_private_key : (word : Bytes) (key : Key) → is_private word ≡ true → key_of word ≡ Some key → ⊥
no_private_key word key h e = elim (or_cases (bytes_eq (take 3 (drop 1 word)) (codes "prv"))
    ((length word == 51 || length word == 52) && list_any (nat_eq (slice_index word 0)) (codes "59KLc")) h) [
      | inl prv ↦ no_digit word (key_digits word key e) (key_size word key e) ((bytes_eq-Decides (take 3 (drop 1 word)) (codes "prv")).0 prv)
      | inr single ↦
          other_length word (and_parts (length word == 51 || length word == 52) (list_any (nat_eq (slice_index word 0)) (codes "59KLc")) single).0 (key_size word key e)
    ]

by_word : (seen : Seen) (at : ℕ) (word : Bytes) (own : Option Key) (other : Option Extended) (ts : List Token) → is_private word ≡ true → key_of word ≡ own → other ≡ None
    → named_by seen at word own other ts ≡ Err (Private at)
by_word seen at word (Some key) other ts h e f = absurd (no_private_key word key h e)
by_word seen at word None (Some key) ts h e f = absurd (cc)
by_word seen at word None None ts h e f = rw h refl

pub private_is_refused : (seen : Seen) (at : ℕ) (word : Bytes) (ts : List Token) → IsTrue (is_private word) → extended_word word ≡ None
    → read_named seen (token at word ∷ ts) ≡ Err (Private at)
unfolding read_named
private_is_refused seen at word ts h e = by_word seen at word (key_of word) (extended_word word) ts h refl e
