-- A size that is read lies within the bytes, and takes one at least.
use Rattle.std.proofs.Common.{◌≡◌, ℕ, ◌+◌, ◌^◌, ◌<◌, ◌≤◌, nat_lt, ◌==◌, [], ◌∷◌, length, drop, get_or, Ok, inl, inr, subst, arith}
use Rattle.std.proofs.lemmas.Bool.{cases_Bool}
use Rattle.std.proofs.lemmas.List.{length-drop}
use Rattle.std.specs.Int.{Width, byte_len, w16, w32, w64, from_le_bytes}
use Rattle.def_script.specs.Bytes.{Bytes}
use Rattle.def_script.specs.Sizes.{read_wide, read_size}
use Rattle.ms_script.specs.SizeReads.{size_at}

-- a size that is read is its first byte, or a number behind it that isn't small
pub read_is : (P : ℕ × ℕ → Type 0) (bytes : Bytes) (read : ℕ × ℕ) → read_size bytes ≡ Ok read → (0 < length bytes → P (get_or bytes 0 0, 1))
    → ((width : Width) (size : ℕ) → byte_len width < length bytes → 0xfd ≤ size → P (size, byte_len width + 1)) → P read
unfolding read_size
read_is P [] read e one wide = absurd cc
read_is P (byte ∷ rest) read e one wide =
    elim (cases_Bool (nat_lt byte 0xfd)) [
      | inl low ↦ subst P (cc (rw low at e)) (one (omega arith))
      | inr over ↦ elim (cases_Bool (byte == 0xfd)) [
        | inl two ↦ wider w16 0xfd (omega arith) (rw (over, two) at e)
        | inr not_2 ↦ elim (cases_Bool (byte == 0xfe)) [
          | inl four ↦ wider w32 (2 ^ 16) (omega arith) (rw (over, not_2, four) at e)
          | inr not_4 ↦ wider w64 (2 ^ 32) (omega arith) (rw (over, not_2, not_4) at e)
        ]
      ]
    ]
  where
    wider : (width : Width) (least : ℕ) → 0xfd ≤ least → read_wide width least rest ≡ Ok read → P read
    wider width least low e =
        let w : (byte_len width ≤ length rest) × (least ≤ from_le_bytes width rest) × ((from_le_bytes width rest, byte_len width + 1) ≡ read) = grind arith in
        subst P w.2 (wide width (from_le_bytes width rest) (omega (arith, w.0)) (omega (arith, w.1)))

-- the same of a size that is read at a place
pub place_within : (bytes : Bytes) (from : ℕ) (read : ℕ × ℕ) → from ≤ length bytes → Ok read ≡ size_at from (read_size (drop from bytes)) → (from < read.1) × (read.1 ≤ length bytes)
place_within bytes from read inside e = grind (arith, size_within (drop from bytes), length-drop from bytes)
  where
    size_within : (bytes : Bytes) (read : ℕ × ℕ) → read_size bytes ≡ Ok read → (0 < read.1) × (read.1 ≤ length bytes)
    size_within bytes read e = read_is (λ read. (0 < read.1) × (read.1 ≤ length bytes)) bytes read e (λ there. omega arith)
        (λ width size there low. omega arith)
