-- The extended key of bytes, test by test, and that of a text.
use Rattle.std.proofs.Common.{◌≡◌, ◌≢◌, [], ◌∷◌, arith, Bool, true, false, length, ℕ, refl, sym, ap, ◌∙◌, Some, None}
use Rattle.std.specs.Prelude.{◌&&◌, ◌==◌, slice_index}
use Rattle.std.specs.Int.{w32, from_be_bytes}
use Rattle.std.specs.Option.{option_and_then}
use Rattle.std.proofs.lemmas.Bool.{cond-true, cond-false, ne_eqb, eq-eqb}
use Rattle.def_script.specs.Bytes.{Bytes}
use Rattle.def_script.specs.Key.{is_key}
use Rattle.def_address.specs.Digits.{number_in}
use Rattle.def_address.specs.Base58.{read_base58_check}
use Rattle.def_derive.specs.Extended.{Extended, is_version, is_rooted, part, parts_of, read_extended, extended_of}

-- ---- numbers of four bytes

pub number_of_four : (bytes : Bytes) → length bytes ≡ 4 → from_be_bytes w32 bytes ≡ number_in 256 bytes
number_of_four [] h = absurd (omega (arith, h))
number_of_four (a ∷ []) h = absurd (omega (arith, h))
number_of_four (a ∷ b ∷ []) h = absurd (omega (arith, h))
number_of_four (a ∷ b ∷ c ∷ []) h = absurd (omega (arith, h))
number_of_four (a ∷ b ∷ c ∷ d ∷ []) h = omega arith
number_of_four (a ∷ b ∷ c ∷ d ∷ e ∷ bytes) h = absurd (omega (arith, h))

-- ---- four tests

first_false : (a b c d : Bool) → a ≡ false → (a && b && c && d) ≡ false
first_false false b c d h = refl
first_false true b c d h = absurd (cc)

second_false : (a b c d : Bool) → b ≡ false → (a && b && c && d) ≡ false
second_false false b c d h = refl
second_false true false c d h = refl
second_false true true c d h = absurd (cc)

third_false : (a b c d : Bool) → c ≡ false → (a && b && c && d) ≡ false
third_false false b c d h = refl
third_false true false c d h = refl
third_false true true false d h = refl
third_false true true true d h = absurd (cc)

fourth_false : (a b c d : Bool) → d ≡ false → (a && b && c && d) ≡ false
fourth_false false b c d h = refl
fourth_false true false c d h = refl
fourth_false true true false d h = refl
fourth_false true true true false h = refl
fourth_false true true true true h = absurd (cc)

all_true : (a b c d : Bool) → a ≡ true → b ≡ true → c ≡ true → d ≡ true → (a && b && c && d) ≡ true
all_true true true true true p q r s = refl
all_true false b c d p q r s = absurd (cc)
all_true true false c d p q r s = absurd (cc)
all_true true true false d p q r s = absurd (cc)
all_true true true true false p q r s = absurd (cc)

-- ---- the key of bytes

module _ (bytes : Bytes) where
  tests : Bool
  tests =
      (length bytes == 78) && is_version (number_in 256 (part 0 4 bytes)) && is_rooted (slice_index bytes 4) (number_in 256 (part 9 4 bytes)) (part 5 4 bytes)
      && is_key (part 45 33 bytes)

  none_by : tests ≡ false → None ≡ read_extended bytes
  unfolding read_extended tests
  none_by h = sym (cond-false tests (Some (parts_of bytes)) None h)

  pub none_of_length : length bytes ≢ 78 → None ≡ read_extended bytes
  unfolding tests
  none_of_length h = none_by (first_false (length bytes == 78) _ _ _ (ne_eqb (length bytes) 78 h))

  pub none_of_version : is_version (number_in 256 (part 0 4 bytes)) ≡ false → None ≡ read_extended bytes
  unfolding tests
  none_of_version h = none_by (second_false (length bytes == 78) _ _ _ h)

  pub none_of_root : is_rooted (slice_index bytes 4) (number_in 256 (part 9 4 bytes)) (part 5 4 bytes) ≡ false → None ≡ read_extended bytes
  unfolding tests
  none_of_root h = none_by (third_false (length bytes == 78) (is_version (number_in 256 (part 0 4 bytes))) _ _ h)

  pub none_of_key : is_key (part 45 33 bytes) ≡ false → None ≡ read_extended bytes
  unfolding tests
  none_of_key h =
      none_by (fourth_false (length bytes == 78) (is_version (number_in 256 (part 0 4 bytes)))
      (is_rooted (slice_index bytes 4) (number_in 256 (part 9 4 bytes)) (part 5 4 bytes)) _ h)

  pub some_by : length bytes ≡ 78 → is_version (number_in 256 (part 0 4 bytes)) ≡ true
      → is_rooted (slice_index bytes 4) (number_in 256 (part 9 4 bytes)) (part 5 4 bytes) ≡ true → is_key (part 45 33 bytes) ≡ true
      → Some (parts_of bytes) ≡ read_extended bytes
  unfolding read_extended tests
  some_by p q r s = sym (cond-true tests (Some (parts_of bytes)) None (all_true _ _ _ _ (eq-eqb (length bytes) 78 p) q r s))

-- ---- its parts

pub rooted_is : (bytes : Bytes) (number : ℕ) (parent : Bytes) → number ≡ number_in 256 (part 9 4 bytes) → parent ≡ part 5 4 bytes
    → is_rooted (slice_index bytes 4) (number_in 256 (part 9 4 bytes)) (part 5 4 bytes) ≡ is_rooted (slice_index bytes 4) number parent
rooted_is bytes number parent e f =
    ap (λ (z : ℕ). is_rooted (slice_index bytes 4) z (part 5 4 bytes)) (sym e) ∙ ap (λ (z : Bytes). is_rooted (slice_index bytes 4) number z) (sym f)

abbrev pub made : (version depth : ℕ) (parent : Bytes) (number : ℕ) (chain_code key : Bytes) → Extended
made version depth parent number chain_code key = record {
  version = version;
  depth = depth;
  parent = parent;
  number = number;
  chain_code = chain_code;
  key = key;
}

pub same_parts : (bytes : Bytes) (version : ℕ) (parent : Bytes) (number : ℕ) (chain_code key : Bytes) → version ≡ number_in 256 (part 0 4 bytes)
    → parent ≡ part 5 4 bytes → number ≡ number_in 256 (part 9 4 bytes) → chain_code ≡ part 13 32 bytes → key ≡ part 45 33 bytes
    → made version (slice_index bytes 4) parent number chain_code key ≡ parts_of bytes
same_parts bytes version parent number chain_code key v p n c k =
    let depth = slice_index bytes 4 in
    ap (λ (z : ℕ). made z depth parent number chain_code key) v
    ∙ (ap (λ (z : Bytes). made (number_in 256 (part 0 4 bytes)) depth z number chain_code key) p
    ∙ (ap (λ (z : ℕ). made (number_in 256 (part 0 4 bytes)) depth (part 5 4 bytes) z chain_code key) n
    ∙ (ap (λ (z : Bytes). made (number_in 256 (part 0 4 bytes)) depth (part 5 4 bytes) (number_in 256 (part 9 4 bytes)) z key) c
    ∙ ap (λ (z : Bytes). made (number_in 256 (part 0 4 bytes)) depth (part 5 4 bytes) (number_in 256 (part 9 4 bytes)) (part 13 32 bytes) z) k)))

-- ---- the key of a text

pub none_of_text : (text : Bytes) → read_base58_check text ≡ None → None ≡ extended_of text
unfolding extended_of
none_of_text text h = sym (ap (option_and_then read_extended) h)

pub key_of_text : (text bytes : Bytes) → read_base58_check text ≡ Some bytes → read_extended bytes ≡ extended_of text
unfolding extended_of
key_of_text text bytes h = sym (ap (option_and_then read_extended) h)
