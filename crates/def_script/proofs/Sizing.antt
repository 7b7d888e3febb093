-- A CompactSize that was spelled is read back.
use Rattle.std.proofs.Common.{◌≡◌, ℕ, zero, suc, ◌+◌, ◌^◌, ◌<◌, ◌≤◌, nat_lt, ◌==◌, true, false, List, [], ◌∷◌, ◌++◌, length, drop, take, Ok, inl, inr, arith, refl, sym, subst, ap}
use Rattle.std.proofs.lemmas.Bool.{cases_Bool, ltb-false, eqb-true, eqb-false, lt-ltb, le-ltb}
use Rattle.def_script.specs.Bytes.{Bytes, IsBytes}
use Rattle.std.proofs.lemmas.Nat.{from_le_bytes-to_le_bytes_2, from_le_bytes-to_le_bytes_4, from_le_bytes-to_le_bytes_8, le_bytes_2, le_bytes_4, le_bytes_8}
use Rattle.std.proofs.lemmas.Bool.{ltb-true}
use Rattle.std.specs.Int.{Width, byte_len, w16, w32, w64, to_le_bytes, from_le_bytes}
use Rattle.def_script.specs.Sizes.{size_bytes, read_wide, read_size}
use Rattle.def_script.specs.Laws.{SizeIsReadBack, SizeHasOneSpelling}

pub size_is_read_back : SizeIsReadBack
unfolding size_bytes read_size
size_is_read_back n rest low =
    elim (cases_Bool (nat_lt n 0xfd)) [
      | inl one ↦ rw (one, one) refl
      | inr over_1 ↦ elim (cases_Bool (nat_lt n (2 ^ 16))) [
        | inl two ↦
            let there : nat_lt (suc (suc (length rest))) 2 ≡ false = le-ltb _ _ (omega arith) in
            let size : from_le_bytes w16 (to_le_bytes w16 n) ≡ n = from_le_bytes-to_le_bytes_2 n (ltb-true n (2 ^ 16) two) in
            rw (over_1, two, there, size, over_1) refl
        | inr over_2 ↦ elim (cases_Bool (nat_lt n (2 ^ 32))) [
          | inl four ↦
              let there : nat_lt (suc (suc (suc (suc (length rest))))) 4 ≡ false = le-ltb _ _ (omega arith) in
              let size : from_le_bytes w32 (to_le_bytes w32 n) ≡ n = from_le_bytes-to_le_bytes_4 n (ltb-true n (2 ^ 32) four) in
              rw (over_1, over_2, four, there, size, over_2) refl
          | inr over_4 ↦
              let there : nat_lt (suc (suc (suc (suc (suc (suc (suc (suc (length rest))))))))) 8 ≡ false = le-ltb _ _ (omega arith) in
              let size : from_le_bytes w64 (to_le_bytes w64 n) ≡ n = from_le_bytes-to_le_bytes_8 n low in
              rw (over_1, over_2, over_4, there, size, over_4) refl
        ]
      ]
    ]

-- what a wide form that is read says
read_wide-reads : (width : Width) (least : ℕ) (rest : Bytes) (read : ℕ × ℕ) → read_wide width least rest ≡ Ok read
    → (byte_len width ≤ length rest) × (least ≤ from_le_bytes width rest) × ((from_le_bytes width rest, byte_len width + 1) ≡ read)
read_wide-reads width least rest read e =
    elim (cases_Bool (nat_lt (length rest) (byte_len width))) [
      | inl short ↦ let no = rw short at e in cc
      | inr there ↦ elim (cases_Bool (nat_lt (from_le_bytes width rest) least)) [
        | inl small ↦ let no = rw (there, small) at e in cc
        | inr large ↦
            let yes = rw (there, large) at e in
            (ltb-false _ _ there, ltb-false _ _ large, cc)
      ]
    ]

front_bytes : (n : ℕ) (bytes : Bytes) → IsBytes bytes → IsBytes (take n bytes)
front_bytes zero bytes are i = omega arith
front_bytes (suc n) [] are i = omega arith
front_bytes (suc n) (b ∷ bytes) are zero = are 0
front_bytes (suc n) (b ∷ bytes) are (suc i) = front_bytes n bytes (λ k. are (suc k)) i

wide_2-spelling : (rest : Bytes) (read : ℕ × ℕ) → IsBytes rest → read_wide w16 0xfd rest ≡ Ok read → (0xfd ∷ rest) ≡ size_bytes read.0 ++ drop read.1 (0xfd ∷ rest)
unfolding size_bytes
wide_2-spelling (a ∷ b ∷ tail) read bytes e =
    let reads = read_wide-reads w16 0xfd (a ∷ b ∷ tail) read e in
    let spelled : to_le_bytes w16 (from_le_bytes w16 (a ∷ b ∷ [])) ≡ a ∷ b ∷ [] = le_bytes_2 (a ∷ b ∷ []) _ refl (front_bytes 2 (a ∷ b ∷ tail) bytes) refl in
    let bounds : (a < 256) × (b < 256) = (bytes 0, bytes 1) in
    let over_0 : nat_lt (from_le_bytes w16 (a ∷ b ∷ [])) 0xfd ≡ false = le-ltb _ _ (omega arith) in
    let within : nat_lt (from_le_bytes w16 (a ∷ b ∷ [])) (2 ^ 16) ≡ true = lt-ltb _ _ (omega arith) in
    let P : ℕ × ℕ → Type 0 = λ r. (0xfd ∷ a ∷ b ∷ tail) ≡ size_bytes r.0 ++ drop r.1 (0xfd ∷ a ∷ b ∷ tail) in
    subst P reads.2 (rw (over_0, within) (sym (ap (λ (s : List ℕ). 0xfd ∷ (s ++ tail)) spelled)))
wide_2-spelling short read bytes e = let reads = read_wide-reads w16 0xfd short read e in absurd (omega arith)

wide_4-spelling : (rest : Bytes) (read : ℕ × ℕ) → IsBytes rest → read_wide w32 (2 ^ 16) rest ≡ Ok read → (0xfe ∷ rest) ≡ size_bytes read.0 ++ drop read.1 (0xfe ∷ rest)
unfolding size_bytes
wide_4-spelling (a ∷ b ∷ c ∷ d ∷ tail) read bytes e =
    let reads = read_wide-reads w32 (2 ^ 16) (a ∷ b ∷ c ∷ d ∷ tail) read e in
    let spelled : to_le_bytes w32 (from_le_bytes w32 (a ∷ b ∷ c ∷ d ∷ [])) ≡ a ∷ b ∷ c ∷ d ∷ [] =
    le_bytes_4 (a ∷ b ∷ c ∷ d ∷ []) _ refl (front_bytes 4 (a ∷ b ∷ c ∷ d ∷ tail) bytes) refl in
    let bounds : (a < 256) × (b < 256) × (c < 256) × (d < 256) = (bytes 0, bytes 1, bytes 2, bytes 3) in
    let over_0 : nat_lt (from_le_bytes w32 (a ∷ b ∷ c ∷ d ∷ [])) 0xfd ≡ false = le-ltb _ _ (omega arith) in
    let over_1 : nat_lt (from_le_bytes w32 (a ∷ b ∷ c ∷ d ∷ [])) (2 ^ 16) ≡ false = le-ltb _ _ (omega arith) in
    let within : nat_lt (from_le_bytes w32 (a ∷ b ∷ c ∷ d ∷ [])) (2 ^ 32) ≡ true = lt-ltb _ _ (omega arith) in
    let P : ℕ × ℕ → Type 0 = λ r. (0xfe ∷ a ∷ b ∷ c ∷ d ∷ tail) ≡ size_bytes r.0 ++ drop r.1 (0xfe ∷ a ∷ b ∷ c ∷ d ∷ tail) in
    subst P reads.2 (rw (over_0, over_1, within) (sym (ap (λ (s : List ℕ). 0xfe ∷ (s ++ tail)) spelled)))
wide_4-spelling short read bytes e = let reads = read_wide-reads w32 (2 ^ 16) short read e in absurd (omega arith)

wide_8-spelling : (rest : Bytes) (read : ℕ × ℕ) → IsBytes rest → read_wide w64 (2 ^ 32) rest ≡ Ok read → (0xff ∷ rest) ≡ size_bytes read.0 ++ drop read.1 (0xff ∷ rest)
unfolding size_bytes
wide_8-spelling (b0 ∷ b1 ∷ b2 ∷ b3 ∷ b4 ∷ b5 ∷ b6 ∷ b7 ∷ tail) read bytes e =
    let reads = read_wide-reads w64 (2 ^ 32) (b0 ∷ b1 ∷ b2 ∷ b3 ∷ b4 ∷ b5 ∷ b6 ∷ b7 ∷ tail) read e in
    let spelled : to_le_bytes w64 (from_le_bytes w64 (b0 ∷ b1 ∷ b2 ∷ b3 ∷ b4 ∷ b5 ∷ b6 ∷ b7 ∷ [])) ≡ b0 ∷ b1 ∷ b2 ∷ b3 ∷ b4 ∷ b5 ∷ b6 ∷ b7 ∷ [] =
    le_bytes_8 (b0 ∷ b1 ∷ b2 ∷ b3 ∷ b4 ∷ b5 ∷ b6 ∷ b7 ∷ []) _ refl (front_bytes 8 (b0 ∷ b1 ∷ b2 ∷ b3 ∷ b4 ∷ b5 ∷ b6 ∷ b7 ∷ tail) bytes) refl in
    let bounds : (b0 < 256) × (b1 < 256) × (b2 < 256) × (b3 < 256) × (b4 < 256) × (b5 < 256) × (b6 < 256) × (b7 < 256) = (bytes 0, bytes 1, bytes 2, bytes 3, bytes 4, bytes 5, bytes 6, bytes 7) in
    let over_0 : nat_lt (from_le_bytes w64 (b0 ∷ b1 ∷ b2 ∷ b3 ∷ b4 ∷ b5 ∷ b6 ∷ b7 ∷ [])) 0xfd ≡ false = le-ltb _ _ (omega arith) in
    let over_1 : nat_lt (from_le_bytes w64 (b0 ∷ b1 ∷ b2 ∷ b3 ∷ b4 ∷ b5 ∷ b6 ∷ b7 ∷ [])) (2 ^ 16) ≡ false = le-ltb _ _ (omega arith) in
    let over_2 : nat_lt (from_le_bytes w64 (b0 ∷ b1 ∷ b2 ∷ b3 ∷ b4 ∷ b5 ∷ b6 ∷ b7 ∷ [])) (2 ^ 32) ≡ false = le-ltb _ _ (omega arith) in
    let P : ℕ × ℕ → Type 0 = λ r. (0xff ∷ b0 ∷ b1 ∷ b2 ∷ b3 ∷ b4 ∷ b5 ∷ b6 ∷ b7 ∷ tail) ≡ size_bytes r.0 ++ drop r.1 (0xff ∷ b0 ∷ b1 ∷ b2 ∷ b3 ∷ b4 ∷ b5 ∷ b6 ∷ b7 ∷ tail) in
    subst P reads.2 (rw (over_0, over_1, over_2) (sym (ap (λ (s : List ℕ). 0xff ∷ (s ++ tail)) spelled)))
wide_8-spelling short read bytes e = let reads = read_wide-reads w64 (2 ^ 32) short read e in absurd (omega arith)

pub size_has_one_spelling : SizeHasOneSpelling
unfolding read_size size_bytes
size_has_one_spelling [] read bytes e = cc
size_has_one_spelling (byte ∷ rest) read bytes e =
    elim (cases_Bool (nat_lt byte 0xfd)) [
      | inl one ↦
          let yes = rw one at e in
          let same : (byte, 1) ≡ read = cc in
          let P : ℕ × ℕ → Type 0 = λ r. (byte ∷ rest) ≡ size_bytes r.0 ++ drop r.1 (byte ∷ rest) in
          subst P same (rw one refl)
      | inr over ↦ elim (cases_Bool (byte == 0xfd)) [
        | inl two ↦
            let first : 0xfd ≡ byte = sym (eqb-true _ _ two) in
            let yes = rw (over, two) at e in
            let P : ℕ → Type 0 = λ b. (b ∷ rest) ≡ size_bytes read.0 ++ drop read.1 (b ∷ rest) in
            subst P first (wide_2-spelling rest read (λ i. bytes (suc i)) yes)
        | inr not_2 ↦ elim (cases_Bool (byte == 0xfe)) [
          | inl four ↦
              let first : 0xfe ≡ byte = sym (eqb-true _ _ four) in
              let yes = rw (over, not_2, four) at e in
              let P : ℕ → Type 0 = λ b. (b ∷ rest) ≡ size_bytes read.0 ++ drop read.1 (b ∷ rest) in
              subst P first (wide_4-spelling rest read (λ i. bytes (suc i)) yes)
          | inr not_4 ↦
              let low : byte < 256 = bytes 0 in
              let first : 0xff ≡ byte = only byte low over not_2 not_4 in
              let yes = rw (over, not_2, not_4) at e in
              let P : ℕ → Type 0 = λ b. (b ∷ rest) ≡ size_bytes read.0 ++ drop read.1 (b ∷ rest) in
              subst P first (wide_8-spelling rest read (λ i. bytes (suc i)) yes)
        ]
      ]
    ]
  where
    only : (b : ℕ) → b < 256 → nat_lt b 0xfd ≡ false → (b == 0xfd) ≡ false → (b == 0xfe) ≡ false → 0xff ≡ b
    only b low over not_2 not_4 =
        let high : 0xfd ≤ b = ltb-false b 0xfd over in
        let n2 : b ≡ 0xfd → ⊥ = eqb-false b 0xfd not_2 in
        let n4 : b ≡ 0xfe → ⊥ = eqb-false b 0xfe not_4 in
        omega arith
