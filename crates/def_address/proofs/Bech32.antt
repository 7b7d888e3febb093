-- The address of a program gives the program, and is longer than that of a hash.
use Rattle.std.proofs.Common.{◌≡◌, ℕ, zero, suc, ◌+◌, ◌-◌, ◌*◌, ◌/◌, ◌%◌, ◌^◌, ◌<◌, ◌≤◌, ◌==◌, List, [], ◌∷◌, ◌++◌, length, take, drop, Bool, true, false, cond, arith, refl, sym, ap, subst, ◌∙◌, inl, inr, le-leb, leb-true, lit<, eq-eqb, eqb-true, length-append, length-drop}
use Rattle.std.proofs.Math.Seq.{take-append_seam, drop-append_seam}
use Rattle.std.proofs.Math.Nat.{eq-or-lt_of_le, mul-lt-mul_of_pos_right}
use Rattle.std.proofs.lemmas.Nat.{div-mul-add, mod-mul-add}
use Rattle.std.proofs.lemmas.Bool.{cond-true, cond-false}
use Rattle.std.proofs.lemmas.List.{length-map, length-take}
use Rattle.std.proofs.lemmas.Option.{option_and_then_some}
use Rattle.std.proofs.lemmas.Slice.Eq.{bytes_eq-Decides}
use Rattle.std.specs.Prelude.{nat_le, ◌&&◌, ◌||◌, not, codes, map, slice_index, Option, Some, None}
use Rattle.std.specs.List.{list_any}
use Rattle.std.specs.Option.{option_and_then}
use Rattle.std.specs.Str.{bytes_eq}
use Rattle.def_script.specs.Bytes.{Bytes}
use Rattle.def_address.specs.Digits.{number_in, fixed_digits, spelled, read_digits}
use Rattle.def_address.specs.Bech32.{bech32_alphabet, bech32_check, without_check, value_count, spare, in_fives, from_fives, program_address, is_program, if_program, program_of, is_upper, is_lower, in_lower_case, program_behind, read_program}
use Rattle.def_address.proofs.Digits.{Below, below_joined, length_fixed, below_fixed, number_fixed, fixed_number, number_below}
use Rattle.def_address.proofs.Texts.{Distinct, both_true, read_spelled, spelled_read}
use Rattle.def_address.proofs.Base58.{and_parts, cond_parts}

-- ---- lower case

every_below : (ℕ → Bool) → ℕ → Bool
every_below p zero = true
every_below p (suc n) = cond (p n) (every_below p n) false

every_at : (p : ℕ → Bool) (n d : ℕ) → every_below p n ≡ true → d < n → p d ≡ true
unfolding every_below
every_at p zero d h less = absurd (omega (arith, less))
every_at p (suc n) d h less =
    let parts = both_true (p n) (every_below p n) h in
    let P : ℕ → Type 0 = λ z. p z ≡ true in
    let le : d ≤ n = omega arith in
    elim (eq-or-lt_of_le le) [ inl is ↦ subst P (sym is) parts.0 | inr below ↦ every_at p n d parts.1 below ]

not_true : (b : Bool) → not b ≡ true → b ≡ false
not_true true h = cc
not_true false h = refl

-- no letter is in upper case
abbrev pub Calm : Bytes → Type 0
Calm [] = Unit {0}
Calm (letter ∷ text) = (is_upper letter ≡ false) × Calm text

calm_joined : (front back : Bytes) → Calm front → Calm back → Calm (front ++ back)
calm_joined [] back left right = right
calm_joined (letter ∷ front) back left right = (left.0, calm_joined front back left.1 right)

calm_letters : every_below (λ d. not (is_upper (slice_index bech32_alphabet d))) 32 ≡ true
unfolding every_below
calm_letters = refl

calm_spelled : (digits : List ℕ) → Below 32 digits → Calm (spelled bech32_alphabet digits)
calm_spelled [] below = tt
calm_spelled (digit ∷ digits) below =
    let here = every_at (λ d. not (is_upper (slice_index bech32_alphabet d))) 32 digit calm_letters below.0 in
    (not_true (is_upper (slice_index bech32_alphabet digit)) here, calm_spelled digits below.1)

lowered : ℕ → ℕ
lowered letter = cond (is_upper letter) (letter + 32) letter

lowered_same : (text : Bytes) → Calm text → map lowered text ≡ text
unfolding lowered
lowered_same [] h = refl
lowered_same (letter ∷ text) h =
    let here = cond-false (is_upper letter) (letter + 32) letter h.0 in
    ap (λ (z : ℕ). z ∷ map lowered text) here ∙ ap (λ (z : Bytes). letter ∷ z) (lowered_same text h.1)

none_upper : (text : Bytes) → Calm text → list_any is_upper text ≡ false
none_upper [] h = refl
none_upper (letter ∷ text) h = ap (λ (z : Bool). z || list_any is_upper text) h.0 ∙ none_upper text h.1

lower_same : (text : Bytes) → Calm text → in_lower_case text ≡ Some text
unfolding lowered
lower_same text h =
    ap (λ (z : Bool). cond (z && list_any is_lower text) None (Some (map lowered text))) (none_upper text h) ∙ ap Some (lowered_same text h)

-- ---- groups of 5 bits

fives_back : (program : Bytes) (bytes count factor : ℕ) → Below 256 program → length program ≡ bytes → value_count bytes ≡ count → 5 * count / 8 ≡ bytes
    → spare count bytes ≡ factor → nat_le factor 16 ≡ true → 0 < factor → 256 ^ bytes * factor ≡ 32 ^ count → from_fives (in_fives program) ≡ Some program
fives_back program bytes count factor below long values whole behind few some power =
    let n = number_in 256 program in
    let groups = fixed_digits 32 count (n * factor) in
    let into : in_fives program ≡ groups =
    ap (λ (z : ℕ). fixed_digits 32 (value_count z) (n * spare (value_count z) z)) long
    ∙ (ap (λ (z : ℕ). fixed_digits 32 z (n * spare z bytes)) values
    ∙ ap (λ (z : ℕ). fixed_digits 32 count (n * z)) behind) in
    let P : ℕ → Type 0 = λ z. n < 256 ^ z in
    let low : n < 256 ^ bytes = subst P long (number_below 256 program below) in
    let product : n * factor < 256 ^ bytes * factor = mul-lt-mul_of_pos_right low some in
    let Q : ℕ → Type 0 = λ z. n * factor < z in
    let fits : n * factor < 32 ^ count = subst Q power product in
    let number : number_in 32 groups ≡ n * factor = number_fixed 32 count (n * factor) (lit< tt) fits in
    let size : length groups ≡ count = length_fixed 32 count (n * factor) in
    let plus : n * factor + 0 ≡ n * factor = omega arith in
    let rest : n * factor % factor ≡ 0 = ap (λ (z : ℕ). z % factor) (sym plus) ∙ mod-mul-add n factor 0 some in
    let half : n * factor / factor ≡ n = ap (λ (z : ℕ). z / factor) (sym plus) ∙ div-mul-add n factor 0 some in
    let even : (n * factor % factor == 0) ≡ true = eq-eqb (n * factor % factor) 0 rest in
    let test : (nat_le factor 16 && (n * factor % factor == 0)) ≡ true = ap (λ (z : Bool). z && (n * factor % factor == 0)) few ∙ even in
    ap from_fives into
    ∙ (ap (λ (z : ℕ). cond (nat_le (spare z (5 * z / 8)) 16 && (number_in 32 groups % spare z (5 * z / 8) == 0))
    (Some (fixed_digits 256 (5 * z / 8) (number_in 32 groups / spare z (5 * z / 8)))) None) size
    ∙ (ap (λ (z : ℕ). cond (nat_le (spare count (5 * count / 8)) 16 && (z % spare count (5 * count / 8) == 0)) (Some (fixed_digits 256 (5 * count / 8) (z / spare count (5 * count / 8)))) None) number
    ∙ (ap (λ (z : ℕ). cond (nat_le (spare count z) 16 && (n * factor % spare count z == 0)) (Some (fixed_digits 256 z (n * factor / spare count z))) None) whole
    ∙ (ap (λ (z : ℕ). cond (nat_le z 16 && (n * factor % z == 0)) (Some (fixed_digits 256 bytes (n * factor / z))) None) behind
    ∙ (cond-true (nat_le factor 16 && (n * factor % factor == 0)) (Some (fixed_digits 256 bytes (n * factor / factor))) None test
    ∙ ap Some (ap (fixed_digits 256 bytes) half ∙ (ap (λ (z : ℕ). fixed_digits 256 z n) (sym long) ∙ fixed_number 256 program below)))))))

program_length : (program : Bytes) (P : Type 0) → is_program program ≡ true → (length program ≡ 20 → P) → (length program ≡ 32 → P) → P
program_length program P h first second = at (length program == 20) refl where
  at : (b : Bool) → (length program == 20) ≡ b → P
  at true e = first (eqb-true (length program) 20 e)
  at false e = second (eqb-true (length program) 32 (ap (λ (z : Bool). z || (length program == 32)) (sym e) ∙ h))

pub fives_are_read : (program : Bytes) → Below 256 program → is_program program ≡ true → from_fives (in_fives program) ≡ Some program
fives_are_read program below h =
    program_length program (from_fives (in_fives program) ≡ Some program) h
    (λ long. fives_back program 20 32 1 below long refl refl refl refl (lit< tt) refl)
    (λ long. fives_back program 32 52 16 below long refl refl refl refl (lit< tt) refl)

-- ---- the checksum

length_check : (human : Bytes) (values : List ℕ) → length (bech32_check human values) ≡ 6
length_check human values = length_fixed 32 6 _

checked_is : (human : Bytes) (values : List ℕ) → without_check human (values ++ bech32_check human values) ≡ Some values
checked_is human values =
    let check = bech32_check human values in
    let all = values ++ check in
    let both = length-append values check in
    let six = length_check human values in
    let seam : length all - 6 ≡ length values = omega (arith, both, six) in
    let front : take (length all - 6) all ≡ values = ap (λ (z : ℕ). take z all) seam ∙ take-append_seam values check in
    let back : drop (length all - 6) all ≡ check = ap (λ (z : ℕ). drop z all) seam ∙ drop-append_seam values check in
    let long : nat_le 6 (length all) ≡ true = le-leb 6 (length all) (omega (arith, both, six)) in
    let same : bytes_eq (drop (length all - 6) all) check ≡ true = (bytes_eq-Decides _ _).1 back in
    let test : (nat_le 6 (length all) && bytes_eq (drop (length all - 6) all) check) ≡ true =
    ap (λ (z : Bool). z && bytes_eq (drop (length all - 6) all) check) long ∙ same in
    ap (λ (z : List ℕ). cond (nat_le 6 (length all) && bytes_eq (drop (length all - 6) all) (bech32_check human z)) (Some z) None) front
    ∙ cond-true _ (Some values) None test

-- ---- the address of a program

distinct : Distinct bech32_alphabet
distinct = refl

below_values : (human program : Bytes) → Below 32 ((0 ∷ in_fives program) ++ bech32_check human (0 ∷ in_fives program))
below_values human program =
    below_joined 32 (0 ∷ in_fives program) (bech32_check human (0 ∷ in_fives program)) (lit< tt, below_fixed 32 _ _ (lit< tt)) (below_fixed 32 6 _ (lit< tt))

pub program_is_read : (human program : Bytes) → Calm (human ++ codes "1") → Below 256 program → is_program program ≡ true → read_program human (program_address human program) ≡ Some program
unfolding read_program program_address
program_is_read human program calm below h =
    let values = 0 ∷ in_fives program in
    let digits = values ++ bech32_check human values in
    let front = human ++ codes "1" in
    let back = spelled bech32_alphabet digits in
    let all = front ++ back in
    let lower = lower_same all (calm_joined front back calm (calm_spelled digits (below_values human program))) in
    let same : bytes_eq (take (length front) all) front ≡ true = (bytes_eq-Decides _ _).1 (take-append_seam front back) in
    let rest = drop-append_seam front back in
    let found : Bytes → Option Bytes = λ z. option_and_then program_of (option_and_then (without_check human) (read_digits bech32_alphabet z)) in
    let read : read_digits bech32_alphabet back ≡ Some digits = read_spelled bech32_alphabet digits distinct (below_values human program) in
    ap (option_and_then (program_behind human)) lower
    ∙ (cond-true (bytes_eq (take (length front) all) front) (found (drop (length front) all)) None same
    ∙ (ap found rest
    ∙ (ap (λ (z : Option (List ℕ)). option_and_then program_of (option_and_then (without_check human) z)) read
    ∙ (ap (option_and_then program_of) (checked_is human values)
    ∙ (ap (option_and_then if_program) (fives_are_read program below h)
    ∙ cond-true (is_program program) (Some program) None h)))))

-- ---- how long such an address is at least

if_parts : (b : Bool) (x : Option Bytes) (y : Bytes) → cond b x None ≡ Some y → x ≡ Some y
if_parts true x y h = h
if_parts false x y h = absurd (cc)

lower_length : (text lower : Bytes) → in_lower_case text ≡ Some lower → length lower ≡ length text
unfolding lowered
lower_length text lower h = at (list_any is_upper text && list_any is_lower text) h where
  at : (b : Bool) → cond b None (Some (map lowered text)) ≡ Some lower → length lower ≡ length text
  at true e = cc
  at false e = let same : map lowered text ≡ lower = cc in ap length (sym same) ∙ length-map text lowered

fives_length : (values : List ℕ) (program : Bytes) → from_fives values ≡ Some program → length program ≡ 5 * length values / 8
fives_length values program h =
    let count = 5 * length values / 8 in
    let rest = spare (length values) count in
    let parts = cond_parts (nat_le rest 16 && (number_in 32 values % rest == 0)) (fixed_digits 256 count (number_in 32 values / rest)) program h in
    ap length (sym parts.1) ∙ length_fixed 256 count _

values_long : (values : List ℕ) (program : Bytes) → program_of values ≡ Some program → 33 ≤ length values
values_long [] program h = absurd (cc)
values_long (version ∷ values) program h =
    option_and_then_some if_program (from_fives values) program (if_parts (version == 0) (option_and_then if_program (from_fives values)) program h)
    (λ found read test.
    (let parts = cond_parts (is_program found) found program test in
    let long = fives_length values found read in
    program_length found (33 ≤ length (version ∷ values)) parts.0
    (λ twenty. omega (arith, long, twenty))
    (λ more. omega (arith, long, more))))

check_long : (human : Bytes) (digits values : List ℕ) → without_check human digits ≡ Some values → length values + 6 ≡ length digits
check_long human digits values h =
    let k = length digits - 6 in
    let parts = cond_parts (nat_le 6 (length digits) && bytes_eq (drop k digits) (bech32_check human (take k digits))) (take k digits) values h in
    let tests = and_parts (nat_le 6 (length digits)) (bytes_eq (drop k digits) (bech32_check human (take k digits))) parts.0 in
    let long : 6 ≤ length digits = leb-true 6 (length digits) tests.0 in
    let size = length-take k digits in
    let same = ap length parts.1 in
    omega (arith, long, size, same)

pub address_long : (human text program : Bytes) → read_program human text ≡ Some program → length human + 40 ≤ length text
unfolding read_program
address_long human text program h =
    option_and_then_some (program_behind human) (in_lower_case text) program h
    (λ lower cases behind.
    (let front = human ++ codes "1" in
    let back = drop (length front) lower in
    let found = option_and_then program_of (option_and_then (without_check human) (read_digits bech32_alphabet back)) in
    option_and_then_some program_of (option_and_then (without_check human) (read_digits bech32_alphabet back)) program
    (if_parts (bytes_eq (take (length front) lower) front) found program behind)
    (λ values checked read.
    option_and_then_some (without_check human) (read_digits bech32_alphabet back) values checked
    (λ digits letters check.
    (let enough = values_long values program read in
    let six = check_long human digits values check in
    let spelling = ap length (spelled_read bech32_alphabet back digits letters).0 in
    let letters_count = length-map digits (λ digit. slice_index bech32_alphabet digit) in
    let same = lower_length text lower cases in
    let rest = length-drop (length front) lower in
    let both = length-append human (codes "1") in
    omega (arith, enough, six, spelling, letters_count, same, rest, both))))))
