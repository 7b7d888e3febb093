-- The address of a program, by the remainder that was counted.
use Rattle.std.proofs.Common.{◌≡◌, ℕ, ◌+◌, ◌*◌, ◌-◌, ◌/◌, ◌%◌, ◌^◌, ◌<◌, ◌≤◌, List, [], ◌∷◌, ◌++◌, length, take, drop, map, fold, replicate, bit_xor, All, sym, ap, subst, ◌∙◌, lit<, lit≤, arith}
use Rattle.std.proofs.Math.Nat.{mul-lt-mul_of_pos_right, pow-le-pow_right, mod-eq_of_lt}
use Rattle.std.proofs.lemmas.List.{append_assoc, take-append-drop, length-take-le, get_or-drop}
use Rattle.std.proofs.lemmas.List.Sums.{fold-append}
use Rattle.def_script.specs.Bytes.{Bytes, IsBytes}
use Rattle.def_address.specs.Digits.{number_in, fixed_digits, spelled}
use Rattle.def_address.specs.Remainder.{remainder_with}
use Rattle.def_address.specs.Bech32.{bech32_alphabet, bech32_generators, bech32_remainder, expanded, value_count, spare, in_fives, program_address}
use Rattle.def_address.proofs.Digits.{Below, below_joined, below_back, below_fixed}
use Rattle.def_address.proofs.Base58.{below_bytes}
use Rattle.ms_address.proofs.Fives.{fives_more, spare_fills, spare_some}
use Rattle.ms_address.proofs.Rebased.{all_below}

pub bytes_behind : (bytes : Bytes) (n : ℕ) → IsBytes bytes → IsBytes (drop n bytes)
bytes_behind bytes n h = λ i. (let P : ℕ → Type 0 = λ z. z < 256 in subst P (sym (get_or-drop n bytes i 0)) (h (n + i)))

-- five bytes were taken from the front
pub chunk_more : (items : List ℕ) (rest : Bytes) → 5 ≤ length rest → IsBytes rest
    → (items ++ fixed_digits 32 8 (number_in 256 (take 5 rest))) ++ in_fives (drop 5 rest) ≡ items ++ in_fives rest
chunk_more items rest long bytes =
    let chunk = take 5 rest in
    let more = drop 5 rest in
    let five : length chunk ≡ 5 = length-take-le 5 rest long in
    let whole = take-append-drop 5 rest in
    let below : Below 256 more = below_back 256 chunk more (subst (Below 256) (sym whole) (below_bytes rest bytes)) in
    append_assoc items (fixed_digits 32 8 (number_in 256 chunk)) (in_fives more)
    ∙ ap (λ (z : List ℕ). items ++ z) (sym (fives_more chunk more five below) ∙ ap in_fives whole)

-- fewer than five bytes are left
pub last_is : (number : ℕ) (rest : Bytes) → length rest < 5 → number ≡ number_in 256 rest → number < 256 ^ length rest
    → fixed_digits 32 ((8 * length rest + 4) / 5) (number * 2 ^ (5 * ((8 * length rest + 4) / 5) - 8 * length rest) % 18446744073709551616) ≡ in_fives rest
last_is number rest short number_is below =
    let n = length rest in
    let k = value_count n in
    let s = spare k n in
    let some : 0 < s = spare_some k n in
    let P : ℕ → Type 0 = λ z. number * s < z in
    let fits : number * s < 32 ^ k = subst P (spare_fills n) (mul-lt-mul_of_pos_right below some) in
    let few : k ≤ 7 = omega arith in
    let most : 32 ^ k ≤ 32 ^ 7 = pow-le-pow_right (lit≤ tt) few in
    let small : number * s < 18446744073709551616 = omega (arith, fits, most) in
    ap (fixed_digits 32 k) (mod-eq_of_lt small ∙ ap (λ (z : ℕ). z * s) number_is)

counted_is : (human : Bytes) (values : List ℕ)
    → fold (remainder_with 25 bech32_generators)
    (fold (remainder_with 25 bech32_generators)
    (fold (remainder_with 25 bech32_generators)
    (remainder_with 25 bech32_generators (fold (remainder_with 25 bech32_generators) 1 (map (λ letter. letter / 32) human)) 0)
    (map (λ letter. letter % 32) human))
    values)
    (replicate 6 0)
    ≡ bech32_remainder (expanded human ++ values ++ replicate 6 0)
counted_is human values =
    let f : ℕ → ℕ → ℕ = remainder_with 25 bech32_generators in
    let all = fold-append f 1 (expanded human ++ values) (replicate 6 0) in
    let some = fold-append f 1 (expanded human) values in
    let first = fold-append f 1 (map (λ (letter : ℕ). letter / 32) human) (0 ∷ map (λ (letter : ℕ). letter % 32) human) in
    sym (all ∙ (ap (λ (z : ℕ). fold f z (replicate 6 0)) some ∙ ap (λ (z : ℕ). fold f (fold f z values) (replicate 6 0)) first))

pub written : (human program : Bytes) (values : List ℕ) (upper middle lower counted closed : ℕ)
    → upper ≡ fold (remainder_with 25 bech32_generators) 1 (map (λ letter. letter / 32) human)
    → middle ≡ remainder_with 25 bech32_generators upper 0
    → lower ≡ fold (remainder_with 25 bech32_generators) middle (map (λ letter. letter % 32) human)
    → counted ≡ fold (remainder_with 25 bech32_generators) lower (0 ∷ in_fives program)
    → closed ≡ fold (remainder_with 25 bech32_generators) counted (replicate 6 0)
    → values ≡ (0 ∷ in_fives program) ++ fixed_digits 32 6 (bit_xor closed 1)
    → (human ++ 49 ∷ []) ++ spelled bech32_alphabet values ≡ program_address human program
unfolding program_address
written human program values upper middle lower counted closed upper_is middle_is lower_is counts closed_is values_is =
    let f : ℕ → ℕ → ℕ = remainder_with 25 bech32_generators in
    let body = 0 ∷ in_fives program in
    let middle' = middle_is ∙ ap (λ (z : ℕ). f z 0) upper_is in
    let lower' = lower_is ∙ ap (λ (z : ℕ). fold f z (map (λ (letter : ℕ). letter % 32) human)) middle' in
    let counted' = counts ∙ ap (λ (z : ℕ). fold f z body) lower' in
    let closed' = closed_is ∙ ap (λ (z : ℕ). fold f z (replicate 6 0)) counted' in
    let number = closed' ∙ counted_is human body in
    ap (λ (z : List ℕ). (human ++ 49 ∷ []) ++ spelled bech32_alphabet z) (values_is ∙ ap (λ (z : ℕ). body ++ fixed_digits 32 6 (bit_xor z 1)) number)

pub values_below : (program : Bytes) (values : List ℕ) (k : ℕ) → values ≡ (0 ∷ in_fives program) ++ fixed_digits 32 6 k → All (λ value. value < 32) values
values_below program values k e =
    let body = 0 ∷ in_fives program in
    let check = fixed_digits 32 6 k in
    let P : List ℕ → Type 0 = λ z. All (λ value. value < 32) z in
    subst P (sym e) (all_below 32 (body ++ check) (below_joined 32 body check (lit< tt, below_fixed 32 _ _ (lit< tt)) (below_fixed 32 6 k (lit< tt))))
