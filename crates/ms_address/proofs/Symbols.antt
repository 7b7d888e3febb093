-- The remainder of a text with characters in front whose places are known, or with one in front that has none.
use Rattle.std.proofs.Common.{◌≡◌, ℕ, ◌+◌, ◌-◌, ◌*◌, ◌/◌, ◌%◌, ◌<◌, ◌≤◌, ◌==◌, List, [], ◌∷◌, ◌++◌, length, take, drop, arith, refl, ap, sym, ◌∙◌}
use Rattle.std.specs.Prelude.{position, slice_index, replicate, bit_xor, Option, Some, None}
use Rattle.std.specs.Option.{option_map}
use Rattle.std.proofs.Math.Seq.{take-length}
use Rattle.std.proofs.lemmas.List.Sums.{fold-append}
use Rattle.def_script.specs.Bytes.{Bytes}
use Rattle.def_address.specs.Digits.{with_digit, read_digits, spelled, fixed_digits}
use Rattle.def_address.specs.Remainder.{remainder_of, remainder_with}
use Rattle.def_address.specs.Bech32.{bech32_alphabet}
use Rattle.def_address.specs.DescriptorSum.{descriptor_alphabet, descriptor_generators, symbols, sum_of_places, descriptor_sum}
use Rattle.ms_address.specs.After.{with_values, after}

abbrev pub place_of : ℕ → Option ℕ
place_of letter = position (λ other. other == letter) descriptor_alphabet

abbrev closed : ℕ → Option (List ℕ) → Option ℕ
closed r places = option_map (λ ps. with_values r (symbols ps)) places

three_more : (r p q s : ℕ) (places : Option (List ℕ))
    → closed r (with_digit (Some p) (with_digit (Some q) (with_digit (Some s) places)))
    ≡ closed (with_values r (p % 32 ∷ q % 32 ∷ s % 32 ∷ (p / 32 * 9 + q / 32 * 3 + s / 32) ∷ [])) places
three_more r p q s None = refl
three_more r p q s (Some places) = refl

pub after_three : (r a b c p q s : ℕ) (more : Bytes) → place_of a ≡ Some p → place_of b ≡ Some q → place_of c ≡ Some s
    → after r (a ∷ b ∷ c ∷ more) ≡ after (with_values r (p % 32 ∷ q % 32 ∷ s % 32 ∷ (p / 32 * 9 + q / 32 * 3 + s / 32) ∷ [])) more
unfolding after
after_three r a b c p q s more one two three =
    let rest = read_digits descriptor_alphabet more in
    ap (λ (z : Option ℕ). closed r (with_digit z (with_digit (place_of b) (with_digit (place_of c) rest)))) one
    ∙ (ap (λ (z : Option ℕ). closed r (with_digit (Some p) (with_digit z (with_digit (place_of c) rest)))) two
    ∙ (ap (λ (z : Option ℕ). closed r (with_digit (Some p) (with_digit (Some q) (with_digit z rest)))) three
    ∙ three_more r p q s rest))

pub after_two : (r a b p q : ℕ) → place_of a ≡ Some p → place_of b ≡ Some q
    → after r (a ∷ b ∷ []) ≡ Some (with_values r (p % 32 ∷ q % 32 ∷ (p / 32 * 3 + q / 32) ∷ []))
unfolding after
after_two r a b p q one two =
    ap (λ (z : Option ℕ). closed r (with_digit z (with_digit (place_of b) (Some [])))) one
    ∙ ap (λ (z : Option ℕ). closed r (with_digit (Some p) (with_digit z (Some [])))) two

pub after_one : (r a p : ℕ) → place_of a ≡ Some p → after r (a ∷ []) ≡ Some (with_values r (p % 32 ∷ p / 32 ∷ []))
unfolding after
after_one r a p one = ap (λ (z : Option ℕ). closed r (with_digit z (Some []))) one

pub after_end : (r : ℕ) → after r [] ≡ Some r
unfolding after
after_end r = refl

nothing : (o : Option ℕ) → with_digit o None ≡ None
nothing None = refl
nothing (Some x) = refl

none_first : (o : Option (List ℕ)) → with_digit None o ≡ None
none_first None = refl
none_first (Some x) = refl

pub no_first : (r a : ℕ) (more : Bytes) → place_of a ≡ None → after r (a ∷ more) ≡ None
unfolding after
no_first r a more one =
    let rest = read_digits descriptor_alphabet more in
    ap (closed r) (ap (λ (z : Option ℕ). with_digit z rest) one ∙ none_first rest)

pub no_second : (r a b : ℕ) (more : Bytes) → place_of b ≡ None → after r (a ∷ b ∷ more) ≡ None
unfolding after
no_second r a b more two =
    let rest = read_digits descriptor_alphabet more in
    ap (closed r) (ap (λ (z : Option ℕ). with_digit (place_of a) (with_digit z rest)) two ∙ (ap (with_digit (place_of a)) (none_first rest) ∙ nothing (place_of a)))

pub no_third : (r a b c : ℕ) (more : Bytes) → place_of c ≡ None → after r (a ∷ b ∷ c ∷ more) ≡ None
unfolding after
no_third r a b c more three =
    let rest = read_digits descriptor_alphabet more in
    ap (closed r) (ap (λ (z : Option ℕ). with_digit (place_of a) (with_digit (place_of b) (with_digit z rest))) three
    ∙ (ap (λ (z : Option (List ℕ)). with_digit (place_of a) (with_digit (place_of b) z)) (none_first rest)
    ∙ (ap (with_digit (place_of a)) (nothing (place_of b)) ∙ nothing (place_of a))))

-- ---- of a slice, by its length

pub end_is : (r : ℕ) (xs : Bytes) → length xs < 1 → after r xs ≡ Some r
end_is r [] h = after_end r
end_is r (x ∷ xs) h = absurd (omega (arith, h))

pub first_none : (r : ℕ) (xs : Bytes) → 1 ≤ length xs → place_of (slice_index xs 0) ≡ None → after r xs ≡ None
first_none r [] h one = absurd (omega (arith, h))
first_none r (a ∷ xs) h one = no_first r a xs one

pub second_none : (r : ℕ) (xs : Bytes) → 2 ≤ length xs → place_of (slice_index xs 1) ≡ None → after r xs ≡ None
second_none r [] h two = absurd (omega (arith, h))
second_none r (a ∷ []) h two = absurd (omega (arith, h))
second_none r (a ∷ b ∷ xs) h two = no_second r a b xs two

pub third_none : (r : ℕ) (xs : Bytes) → 3 ≤ length xs → place_of (slice_index xs 2) ≡ None → after r xs ≡ None
third_none r [] h three = absurd (omega (arith, h))
third_none r (a ∷ []) h three = absurd (omega (arith, h))
third_none r (a ∷ b ∷ []) h three = absurd (omega (arith, h))
third_none r (a ∷ b ∷ c ∷ xs) h three = no_third r a b c xs three

pub one_is : (r p : ℕ) (xs : Bytes) → 1 ≤ length xs → length xs < 2 → place_of (slice_index xs 0) ≡ Some p → after r xs ≡ Some (with_values r (p % 32 ∷ p / 32 ∷ []))
one_is r p [] h k one = absurd (omega (arith, h))
one_is r p (a ∷ []) h k one = after_one r a p one
one_is r p (a ∷ b ∷ xs) h k one = absurd (omega (arith, k))

pub two_is : (r p q : ℕ) (xs : Bytes) → 2 ≤ length xs → length xs < 3 → place_of (slice_index xs 0) ≡ Some p → place_of (slice_index xs 1) ≡ Some q
    → after r xs ≡ Some (with_values r (p % 32 ∷ q % 32 ∷ (p / 32 * 3 + q / 32) ∷ []))
two_is r p q [] h k one two = absurd (omega (arith, h))
two_is r p q (a ∷ []) h k one two = absurd (omega (arith, h))
two_is r p q (a ∷ b ∷ []) h k one two = after_two r a b p q one two
two_is r p q (a ∷ b ∷ c ∷ xs) h k one two = absurd (omega (arith, k))

all_of : (xs : Bytes) (n : ℕ) → n ≡ length xs → take n xs ≡ xs
all_of xs n e = ap (λ (z : ℕ). take z xs) e ∙ take-length xs

pub three_is : (r p q s : ℕ) (xs : Bytes) → 3 ≤ length xs → place_of (slice_index xs 0) ≡ Some p → place_of (slice_index xs 1) ≡ Some q → place_of (slice_index xs 2) ≡ Some s
    → after (with_values r (p % 32 ∷ q % 32 ∷ s % 32 ∷ (p / 32 * 9 + q / 32 * 3 + s / 32) ∷ [])) (take (length xs - 3) (drop 3 xs)) ≡ after r xs
three_is r p q s [] h one two three = absurd (omega (arith, h))
three_is r p q s (a ∷ []) h one two three = absurd (omega (arith, h))
three_is r p q s (a ∷ b ∷ []) h one two three = absurd (omega (arith, h))
three_is r p q s (a ∷ b ∷ c ∷ xs) h one two three =
    let n = length (a ∷ b ∷ c ∷ xs) - 3 in
    let size : n ≡ length xs = omega arith in
    ap (after (with_values r (p % 32 ∷ q % 32 ∷ s % 32 ∷ (p / 32 * 9 + q / 32 * 3 + s / 32) ∷ []))) (all_of xs n size)
    ∙ sym (after_three r a b c p q s xs one two three)

-- ---- the checksum

sum_at : (o : Option (List ℕ)) (r : ℕ) → closed 1 o ≡ Some r → option_map sum_of_places o ≡ Some (spelled bech32_alphabet (fixed_digits 32 8 (bit_xor (with_values r (replicate 8 0)) 1)))
sum_at None r h = absurd (cc)
sum_at (Some places) r h =
    let same : with_values 1 (symbols places) ≡ r = cc in
    let whole : remainder_of 35 descriptor_generators (symbols places ++ replicate 8 0) ≡ with_values (with_values 1 (symbols places)) (replicate 8 0) =
    fold-append (remainder_with 35 descriptor_generators) 1 (symbols places) (replicate 8 0) in
    ap (λ (z : ℕ). Some (spelled bech32_alphabet (fixed_digits 32 8 (bit_xor z 1)))) (whole ∙ ap (λ (z : ℕ). with_values z (replicate 8 0)) same)

none_at : (o : Option (List ℕ)) → closed 1 o ≡ None → option_map sum_of_places o ≡ None
none_at None h = refl
none_at (Some places) h = absurd (cc)

pub sum_some : (text : Bytes) (r : ℕ) → after 1 text ≡ Some r → descriptor_sum text ≡ Some (spelled bech32_alphabet (fixed_digits 32 8 (bit_xor (with_values r (replicate 8 0)) 1)))
unfolding after descriptor_sum
sum_some text r h = sum_at (read_digits descriptor_alphabet text) r h

pub sum_none : (text : Bytes) → after 1 text ≡ None → descriptor_sum text ≡ None
unfolding after descriptor_sum
sum_none text h = none_at (read_digits descriptor_alphabet text) h
