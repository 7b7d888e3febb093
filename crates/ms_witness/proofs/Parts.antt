-- A part that is read is the part that was written, and what was written is read again: sizes.
use Rattle.std.proofs.Common.{◌≡◌, ℕ, suc, ◌+◌, ◌^◌, ◌<◌, ◌≤◌, nat_lt, ◌==◌, Bool, true, false, cond, [], ◌∷◌, ◌++◌, length, drop, Result, Ok, Err, inl, inr, refl, sym, ap, subst, ◌∙◌, append_assoc, arith}
use Rattle.std.proofs.lemmas.Bool.{cases_Bool, ltb-false}
use Rattle.std.proofs.lemmas.List.{drop_at, get_or-drop}
use Rattle.std.specs.Int.{Width, byte_len, w16, w32, w64, from_le_bytes}
use Rattle.def_script.specs.Bytes.{Bytes, IsBytes}
use Rattle.def_script.specs.Sizes.{SizeReading, size_bytes, read_wide, read_size}
use Rattle.def_script.proofs.Sizing.{size_is_read_back, size_has_one_spelling}
use Rattle.ms_script.specs.SizeReads.{size_at}
use Rattle.ms_witness.specs.declared.fault.WitnessFault.{WitnessFault}
use Rattle.ms_witness.specs.Reading.{◌>>=◌, size_of, first_size}

pub IsBytes-drop : (n : ℕ) (bytes : Bytes) → IsBytes bytes → IsBytes (drop n bytes)
IsBytes-drop n bytes h i = rw get_or-drop (h (n + i))

-- the value of a step that met no fault
pub bind_ok : {A B : Type 0} (r : Result A WitnessFault) (f : A → Result B WitnessFault) (y : B) → (r >>= f) ≡ Ok y → (x : A) × (r ≡ Ok x) × (f x ≡ Ok y)
bind_ok (Ok x) f y e = (x, refl, e)
bind_ok (Err d) f y e = absurd cc

-- a test that met no fault
pub guard_ok : {A : Type 0} (b : Bool) (d : WitnessFault) (x : Result A WitnessFault) (y : A) → cond b (Err d) x ≡ Ok y → (b ≡ false) × (x ≡ Ok y)
guard_ok true d x y e = absurd cc
guard_ok false d x y e = (refl, e)

abbrev done : {A : Type 0} → A → Result A WitnessFault
done x = Ok x

pub ok_is : {A : Type 0} (x y : A) → done x ≡ done y → x ≡ y
ok_is x y e = cc

-- what was read from the front, and what is left
pub record Takes (bytes text rest : Bytes) : Type 0 where
  pub parts : bytes ≡ text ++ rest
  pub rest_fits : IsBytes rest

pub Takes-then : (a x b y c : Bytes) → Takes a x b → Takes b y c → Takes a (x ++ y) c
Takes-then a x b y c p q = record { parts = p.parts ∙ ap (λ (t : Bytes). x ++ t) q.parts ∙ sym (append_assoc x y c); rest_fits = q.rest_fits }

-- a number of more than one byte lies within the bytes
wide_within : (width : Width) (least : ℕ) (rest : Bytes) (read : ℕ × ℕ) → read_wide width least rest ≡ Ok read → read.1 ≤ length rest + 1
wide_within width least rest read e =
    elim (cases_Bool (nat_lt (length rest) (byte_len width))) [
      | inl short ↦ let no = rw short at e in cc
      | inr there ↦ elim (cases_Bool (nat_lt (from_le_bytes width rest) least)) [
        | inl small ↦ let no = rw (there, small) at e in cc
        | inr large ↦
            let yes = rw (there, large) at e in
            let long : byte_len width ≤ length rest = ltb-false _ _ there in
            let same : (from_le_bytes width rest, byte_len width + 1) ≡ read = cc in
            subst (λ (r : ℕ × ℕ). r.1 ≤ length rest + 1) same (omega arith)
      ]
    ]

-- a size that is read lies within the bytes
pub size_within : (bytes : Bytes) (read : ℕ × ℕ) → read_size bytes ≡ Ok read → read.1 ≤ length bytes
unfolding read_size
size_within [] read e = cc
size_within (byte ∷ rest) read e =
    elim (cases_Bool (nat_lt byte 0xfd)) [
      | inl one ↦
          let yes = rw one at e in
          let same : (byte, 1) ≡ read = cc in
          subst (λ (r : ℕ × ℕ). r.1 ≤ suc (length rest)) same (omega arith)
      | inr over ↦ elim (cases_Bool (byte == 0xfd)) [
        | inl two ↦ let yes = rw (over, two) at e in omega (arith, wide_within w16 0xfd rest read yes)
        | inr not_2 ↦ elim (cases_Bool (byte == 0xfe)) [
          | inl four ↦ let yes = rw (over, not_2, four) at e in omega (arith, wide_within w32 (2 ^ 16) rest read yes)
          | inr not_4 ↦ let yes = rw (over, not_2, not_4) at e in omega (arith, wide_within w64 (2 ^ 32) rest read yes)
        ]
      ]
    ]

placed_within : (bytes : Bytes) (reading : SizeReading) (read : ℕ × ℕ) → reading ≡ read_size bytes → size_at 0 reading ≡ Ok read → read.1 ≤ length bytes
placed_within bytes (Ok size) read was e =
    let within : size.1 ≤ length bytes = size_within bytes size (sym was) in
    let same : (size.0, 0 + size.1) ≡ read = cc in
    subst (λ (r : ℕ × ℕ). r.1 ≤ length bytes) same (omega arith)
placed_within bytes (Err fault) read was e = absurd cc

-- the same of a size that is read where the bytes begin
pub first_within : (bytes : Bytes) (read : ℕ × ℕ) → Ok read ≡ size_at 0 (read_size bytes) → read.1 ≤ length bytes
first_within bytes read e = placed_within bytes (read_size bytes) read refl (sym e)

size_read : (bytes : Bytes) (reading : SizeReading) (part : ℕ × Bytes) → size_of bytes reading ≡ Ok part
    → (read : ℕ × ℕ) × (reading ≡ Ok read) × ((read.0, drop read.1 bytes) ≡ part)
size_read bytes (Ok read) part e = (read, refl, ok_is _ _ e)
size_read bytes (Err fault) part e = absurd cc

pub size_takes : (bytes : Bytes) (part : ℕ × Bytes) → IsBytes bytes → first_size bytes ≡ Ok part → Takes bytes (size_bytes part.0) part.1
size_takes bytes part fits e =
    let r = size_read bytes (read_size bytes) part e in
    subst (λ (p : ℕ × Bytes). Takes bytes (size_bytes p.0) p.1) r.2
    (record { parts = size_has_one_spelling bytes r.0 fits r.1; rest_fits = IsBytes-drop r.0.1 bytes fits })

pub size_again : (size : ℕ) (rest : Bytes) → size < 2 ^ 64 → first_size (size_bytes size ++ rest) ≡ Ok (size, rest)
size_again size rest low =
    let back : read_size (size_bytes size ++ rest) ≡ Ok (size, length (size_bytes size)) = size_is_read_back size rest low in
    ap (size_of (size_bytes size ++ rest)) back ∙ rw (drop_at (size_bytes size) rest (length (size_bytes size)) refl) refl
