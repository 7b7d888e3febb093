-- A Script number that was spelled is read back.
use Rattle.std.proofs.Common.{◌≡◌, ℕ, zero, suc, ◌+◌, ◌*◌, ◌/◌, ◌%◌, ◌^◌, ◌<◌, ◌≤◌, ◌⊎◌, nat_lt, nat_le, ◌==◌, not, Bool, true, false, ℤ, pos, negsuc, neg_ℤ, [], ◌∷◌, length, Ok, inl, inr, arith, refl, sym, ◌∙◌, ap, lit≤, if◌then◌else◌}
use Rattle.std.proofs.lemmas.Bool.{cases_Bool, cases_lt, le-ltb, lt-ltb, ltb-true, ltb-false, le-leb, leb-true, leb-false, eqb-false, ne_eqb, or_cases, or_left, or_right, not-true, not_from_false}
use Rattle.std.proofs.lemmas.Bool.Decides.{nat_tests}
use Rattle.def_script.specs.Bytes.{Bytes, IsBytes}
use Rattle.def_script.specs.Numbers.{sign_bit, signed_bytes, number_bytes}
use Rattle.def_script.specs.Decode.{magnitude, is_negative, is_minimal, number, num_decode, truth, is_nonzero}
use Rattle.def_script.specs.Laws.{NumberIsReadBack, NumberHasOneSpelling, NonzeroIsTrue}

-- a byte before others
magnitude-more : (b : ℕ) (bytes : Bytes) → 1 ≤ length bytes → magnitude (b ∷ bytes) ≡ b + 256 * magnitude bytes
magnitude-more b bytes some = grind arith

is_negative-more : (b : ℕ) (bytes : Bytes) → 1 ≤ length bytes → is_negative (b ∷ bytes) ≡ is_negative bytes
is_negative-more b bytes some = grind arith

is_minimal-more : (b c : ℕ) (bytes : Bytes) → 1 ≤ length bytes → is_minimal (b ∷ c ∷ bytes) ≡ is_minimal (c ∷ bytes)
is_minimal-more b c bytes some = grind arith

-- a last byte
last-magnitude : (negative : Bool) (n : ℕ) → n < 128 → (n + sign_bit negative) % 128 ≡ n
last-magnitude negative n low = grind arith

last-sign : (negative : Bool) (n : ℕ) → n < 128 → nat_le 128 (n + sign_bit negative) ≡ negative
last-sign negative n low = grind (arith, nat_tests)

-- what is left over has room in one byte fewer
rest-fits : (room n : ℕ) → n < 128 * 256 ^ suc room → n / 256 < 128 * 256 ^ room
rest-fits room n low =
    let power : 256 ^ suc room ≡ 256 * 256 ^ room = omega arith in
    omega arith

signed_bytes-some : (room : ℕ) (negative : Bool) (n : ℕ) → 1 ≤ length (signed_bytes (suc room) negative n)
signed_bytes-some room negative n = grind arith

length-signed_bytes : (most : ℕ) (negative : Bool) (n : ℕ) → length (signed_bytes most negative n) ≤ most
length-signed_bytes zero negative n = lit≤ tt
length-signed_bytes (suc most) negative n = grind (arith, length-signed_bytes most negative)

magnitude-signed_bytes : (room : ℕ) (negative : Bool) (n : ℕ) → n < 128 * 256 ^ room → magnitude (signed_bytes (suc room) negative n) ≡ n
magnitude-signed_bytes zero negative n low =
    let last : nat_lt n 128 ≡ true = lt-ltb _ _ (omega arith) in
    rw last (last-magnitude negative n (omega arith))
magnitude-signed_bytes (suc room) negative n low =
    let rest = magnitude-signed_bytes room negative (n / 256) (rest-fits room n low) in
    elim (cases_Bool (nat_lt n 128)) [
      | inl last ↦ rw last (last-magnitude negative n (ltb-true n 128 last))
      | inr more ↦ rw (more, magnitude-more (n % 256) _ (signed_bytes-some room negative (n / 256)), rest) (omega arith)
    ]

is_negative-signed_bytes : (room : ℕ) (negative : Bool) (n : ℕ) → n < 128 * 256 ^ room → is_negative (signed_bytes (suc room) negative n) ≡ negative
is_negative-signed_bytes zero negative n low =
    let last : nat_lt n 128 ≡ true = lt-ltb _ _ (omega arith) in
    rw last (last-sign negative n (omega arith))
is_negative-signed_bytes (suc room) negative n low =
    let rest = is_negative-signed_bytes room negative (n / 256) (rest-fits room n low) in
    elim (cases_Bool (nat_lt n 128)) [
      | inl last ↦ rw last (last-sign negative n (ltb-true n 128 last))
      | inr more ↦ rw (more, is_negative-more (n % 256) _ (signed_bytes-some room negative (n / 256))) rest
    ]

-- a last byte is minimal where it isn't zero, or needs the byte before it
last-minimal : (b : ℕ) (negative : Bool) (n : ℕ) → n < 128 → (0 < n) ⊎ (128 ≤ b) → is_minimal (b ∷ (n + sign_bit negative) ∷ []) ≡ true
last-minimal b negative n low (inl some) =
    let value = last-magnitude negative n low in
    or_left _ (nat_le 128 b) (not_from_false _ (ne_eqb _ 0 (λ e. omega (arith, e, value))))
last-minimal b negative n low (inr top) = or_right (not ((n + sign_bit negative) % 128 == 0)) (nat_le 128 b) (le-leb 128 b top)

-- a number with no room for a sign in its last byte leaves another byte, or needs the sign's byte
split-byte : (n : ℕ) → 128 ≤ n → (0 < n / 256) ⊎ (128 ≤ n % 256)
split-byte n large = elim (cases_lt 0 (n / 256)) [ inl some ↦ inl some | inr none ↦ inr (omega arith) ]

is_minimal-after : (room b : ℕ) (negative : Bool) (n : ℕ) → n < 128 * 256 ^ room → (0 < n) ⊎ (128 ≤ b)
    → is_minimal (b ∷ signed_bytes (suc room) negative n) ≡ true
is_minimal-after zero b negative n low why =
    let last : nat_lt n 128 ≡ true = lt-ltb _ _ (omega arith) in
    rw last (last-minimal b negative n (omega arith) why)
is_minimal-after (suc room) b negative n low why =
    elim (cases_Bool (nat_lt n 128)) [
      | inl last ↦ rw last (last-minimal b negative n (ltb-true n 128 last) why)
      | inr more ↦ rw (more, is_minimal-more b (n % 256) _ (signed_bytes-some room negative (n / 256)))
          (is_minimal-after room (n % 256) negative (n / 256) (rest-fits room n low) (split-byte n (ltb-false n 128 more)))
    ]

is_minimal-signed_bytes : (room : ℕ) (negative : Bool) (n : ℕ) → n < 128 * 256 ^ room → 0 < n → is_minimal (signed_bytes (suc room) negative n) ≡ true
is_minimal-signed_bytes room negative n low some =
    elim (cases_Bool (nat_lt n 128)) [
      | inl last ↦
          let value = last-magnitude negative n (ltb-true n 128 last) in
          rw last (not_from_false _ (ne_eqb _ 0 (λ e. omega (arith, e, value))))
      | inr more ↦ rw more (go room n low (ltb-false n 128 more))
    ]
  where
    go : (room n : ℕ) → n < 128 * 256 ^ room → 128 ≤ n → is_minimal (n % 256 ∷ signed_bytes room negative (n / 256)) ≡ true
    go zero n low large = absurd (omega arith)
    go (suc room) n low large = is_minimal-after room (n % 256) negative (n / 256) (rest-fits room n low) (split-byte n large)

-- the number of a magnitude with a sign
decode-signed_bytes : (negative : Bool) (n : ℕ) → n < 2 ^ 39 → 0 < n
    → num_decode 5 (signed_bytes 5 negative n) ≡ Ok (if negative then neg_ℤ (pos n) else pos n)
decode-signed_bytes negative n low some =
    let short : nat_lt 5 (length (signed_bytes 5 negative n)) ≡ false = le-ltb _ _ (length-signed_bytes 5 negative n) in
    let fits : n < 128 * 256 ^ 4 = omega arith in
    rw (short, is_minimal-signed_bytes 4 negative n fits some, is_negative-signed_bytes 4 negative n fits, magnitude-signed_bytes 4 negative n fits) refl

pub number_is_read_back : NumberIsReadBack
number_is_read_back (pos zero) low = refl
number_is_read_back (pos (suc n)) low = decode-signed_bytes false (suc n) low (omega arith)
number_is_read_back (negsuc n) low = decode-signed_bytes true (suc n) low (omega arith)

-- a byte is its last seven bits and its sign
last-byte : (b : ℕ) → b < 256 → b % 128 + sign_bit (nat_le 128 b) ≡ b
last-byte b low =
    elim (cases_Bool (nat_le 128 b)) [
      | inl top ↦ let high : 128 ≤ b = leb-true _ _ top in rw top (omega arith)
      | inr clear ↦ let small : b < 128 = leb-false _ _ clear in rw clear (omega arith)
    ]

-- what follows the first byte of a minimal spelling isn't zero, or the first byte's top bit is set
rest-matters : (b c : ℕ) (bytes : Bytes) → is_minimal (b ∷ c ∷ bytes) ≡ true → (0 < magnitude (c ∷ bytes)) ⊎ (128 ≤ b)
rest-matters b c [] minimal =
    elim (or_cases _ _ minimal) [
      | inl some ↦
          let nonzero : c % 128 ≡ 0 → ⊥ = eqb-false (c % 128) 0 (not-true _ some) in
          inl (omega arith)
      | inr top ↦ inr (leb-true 128 b top)
    ]
rest-matters b c (d ∷ bytes) minimal =
    elim (rest-matters c d bytes minimal) [
      | inl some ↦ inl (omega arith)
      | inr top ↦ inl (omega arith)
    ]

-- a spelling in which no byte is wanting is that of its magnitude and sign
signed_bytes-magnitude : (most : ℕ) (first : ℕ) (bytes : Bytes) → length (first ∷ bytes) ≤ most → IsBytes (first ∷ bytes)
    → (length bytes ≡ 0) ⊎ (is_minimal (first ∷ bytes) ≡ true) → signed_bytes most (is_negative (first ∷ bytes)) (magnitude (first ∷ bytes)) ≡ first ∷ bytes
signed_bytes-magnitude zero b bytes room are minimal = absurd (omega arith)
signed_bytes-magnitude (suc most) b [] room are minimal =
    let low : b < 256 = are 0 in
    let last : nat_lt (b % 128) 128 ≡ true = lt-ltb _ _ (omega arith) in
    rw (last, last-byte b low) refl
signed_bytes-magnitude (suc most) b (c ∷ bytes) room are (inl none) = absurd (omega arith)
signed_bytes-magnitude (suc most) b (c ∷ bytes) room are (inr minimal) =
    let low : b < 256 = are 0 in
    let large : 128 ≤ b + 256 * magnitude (c ∷ bytes) = elim (rest-matters b c bytes minimal) [ inl some ↦ omega arith | inr top ↦ omega arith ] in
    let more : nat_lt (b + 256 * magnitude (c ∷ bytes)) 128 ≡ false = le-ltb _ _ large in
    let digit : (b + 256 * magnitude (c ∷ bytes)) % 256 ≡ b = omega arith in
    let left : (b + 256 * magnitude (c ∷ bytes)) / 256 ≡ magnitude (c ∷ bytes) = omega arith in
    let below : length (c ∷ bytes) ≤ most = omega arith in
    let tail = signed_bytes-magnitude most c bytes below (λ i. are (suc i)) (tail-minimal b c bytes minimal) in
    rw (more, digit, left, tail) refl
  where
    tail-minimal : (b c : ℕ) (bytes : Bytes) → is_minimal (b ∷ c ∷ bytes) ≡ true → (length bytes ≡ 0) ⊎ (is_minimal (c ∷ bytes) ≡ true)
    tail-minimal b c [] minimal = inl refl
    tail-minimal b c (d ∷ bytes) minimal = inr minimal

-- a minimal spelling of at least a byte isn't zero
magnitude-some : (b : ℕ) (bytes : Bytes) → is_minimal (b ∷ bytes) ≡ true → 0 < magnitude (b ∷ bytes)
magnitude-some b [] minimal =
    let nonzero : b % 128 ≡ 0 → ⊥ = eqb-false (b % 128) 0 (not-true _ minimal) in
    omega arith
magnitude-some b (c ∷ bytes) minimal = elim (rest-matters b c bytes minimal) [ inl some ↦ omega arith | inr top ↦ omega arith ]

number_bytes-signed : (negative : Bool) (n : ℕ) → 0 < n → number_bytes (if negative then neg_ℤ (pos n) else pos n) ≡ signed_bytes 5 negative n
number_bytes-signed negative zero some = absurd (omega arith)
number_bytes-signed negative (suc n) some = grind arith

number-spelled : (bytes : Bytes) → length bytes ≤ 5 → IsBytes bytes → is_minimal bytes ≡ true → number_bytes (number bytes) ≡ bytes
number-spelled [] room are minimal = refl
number-spelled (b ∷ bytes) room are minimal =
    number_bytes-signed (is_negative (b ∷ bytes)) (magnitude (b ∷ bytes)) (magnitude-some b bytes minimal)
    ∙ signed_bytes-magnitude 5 b bytes room are (inr minimal)

-- what is read as a number is minimal and has room
num_decode-reads : (most : ℕ) (bytes : Bytes) (z : ℤ) → num_decode most bytes ≡ Ok z → (length bytes ≤ most) × (is_minimal bytes ≡ true) × (number bytes ≡ z)
num_decode-reads most bytes z e =
    elim (cases_Bool (nat_lt most (length bytes))) [
      | inl long ↦ let no = rw long at e in cc
      | inr short ↦ elim (cases_Bool (is_minimal bytes)) [
        | inl minimal ↦ let yes = rw (short, minimal) at e in (ltb-false _ _ short, minimal, cc)
        | inr wide ↦ let no = rw (short, wide) at e in cc
      ]
    ]

pub number_has_one_spelling : NumberHasOneSpelling
number_has_one_spelling most bytes z few are e =
    let reads = num_decode-reads most bytes z e in
    let fits : length bytes ≤ 5 = omega arith in
    sym (number-spelled bytes fits are reads.1) ∙ ap number_bytes reads.2

-- a minimal spelling of at least a byte is true
truth-minimal : (b : ℕ) (bytes : Bytes) → is_minimal (b ∷ bytes) ≡ true → truth (b ∷ bytes) ≡ true
truth-minimal b [] minimal =
    let some : b % 128 ≡ 0 → ⊥ = eqb-false (b % 128) 0 (not-true _ minimal) in
    let not_0 : (b == 0) ≡ false = ne_eqb b 0 (λ e. some (omega arith)) in
    let not_128 : (b == 0x80) ≡ false = ne_eqb b 0x80 (λ e. some (omega arith)) in
    rw (not_0, not_128) refl
truth-minimal b (c ∷ []) minimal =
    elim (or_cases _ _ minimal) [
      | inl some ↦ or_right (not (b == 0)) (truth (c ∷ [])) (truth-minimal c [] some)
      | inr top ↦
          let high : 128 ≤ b = leb-true 128 b top in
          let not_0 : (b == 0) ≡ false = ne_eqb b 0 (λ e. omega arith) in
          or_left (not (b == 0)) (truth (c ∷ [])) (not_from_false _ not_0)
    ]
truth-minimal b (c ∷ d ∷ bytes) minimal = or_right (not (b == 0)) (truth (c ∷ d ∷ bytes)) (truth-minimal c (d ∷ bytes) minimal)

is_nonzero-signed : (negative : Bool) (n : ℕ) → 0 < n → is_nonzero (if negative then neg_ℤ (pos n) else pos n) ≡ true
is_nonzero-signed negative zero some = absurd (omega arith)
is_nonzero-signed negative (suc n) some = grind arith

truth-number : (bytes : Bytes) → is_minimal bytes ≡ true → truth bytes ≡ is_nonzero (number bytes)
truth-number [] minimal = refl
truth-number (b ∷ bytes) minimal =
    truth-minimal b bytes minimal
    ∙ sym (is_nonzero-signed (is_negative (b ∷ bytes)) (magnitude (b ∷ bytes)) (magnitude-some b bytes minimal))

pub nonzero_is_true : NonzeroIsTrue
nonzero_is_true most bytes z e =
    let reads = num_decode-reads most bytes z e in
    truth-number bytes reads.1 ∙ ap is_nonzero reads.2
