-- A lock holds in a transaction whose locks are of its kind and as late as they can be.
use Rattle.std.proofs.Common.{◌≡◌, ℕ, ◌+◌, ◌*◌, ◌/◌, ◌%◌, ◌^◌, ◌<◌, ◌≤◌, ◌==◌, nat_le, Bool, true, false, not, refl, sym, ◌∙◌, ap, arith, if◌then◌else◌, inl, inr}
use Rattle.std.specs.Prelude.{bit_and}
use Rattle.std.specs.Int.{bit_at}
use Rattle.std.proofs.lemmas.Bool.{cases_Bool, eqb-true, le-leb, or_right}
use Rattle.std.proofs.lemmas.Bool.Decides.{nat_tests}
use Rattle.std.proofs.lemmas.Nat.{and_shr, shr-shr}
use Rattle.std.proofs.lemmas.Nat.Bits.{and_pow, bit_at-lt}
use Rattle.def_machine.specs.declared.Locks.{Locks}
use Rattle.def_machine.specs.Locks.{older_holds, after_holds}
use Rattle.def_sane.specs.Locks.{is_relative_time, is_absolute_time}

-- by time or by height, relative and absolute
abbrev pub latest : (relative absolute : Bool) → Locks
latest relative absolute = record {
  version = 2;
  sequence = if relative then 0x0040ffff else 0x0000ffff;
  locktime = if absolute then 0xffffffff else 499999999;
}

-- what is compared has bit 22 and the lowest 16
masked_high : (n : ℕ) → bit_and n 0x0040ffff / 2 ^ 16 ≡ bit_at n 22 * 2 ^ 6
masked_high n = and_shr n 0x0040ffff 16 ∙ and_pow (n / 2 ^ 16) 6 ∙ ap (λ x. x % 2 * 2 ^ 6) (shr-shr n 16 6)

masked_le : (n b : ℕ) → bit_at n 22 ≡ b → bit_and n 0x0040ffff ≤ b * 4194304 + 65535
masked_le n b e = let h = masked_high n ∙ ap (λ x. x * 2 ^ 6) e in go (bit_and n 0x0040ffff) b h
  where
    go : (m b : ℕ) → m / 2 ^ 16 ≡ b * 2 ^ 6 → m ≤ b * 4194304 + 65535
    go m b h = omega (arith, h)

older_of : (n b sequence : ℕ) → bit_at n 22 ≡ b → bit_and sequence 0x80000000 ≡ 0 → bit_and sequence 0x00400000 ≡ b * 2 ^ 22 → bit_and sequence 0x0040ffff ≡ b * 4194304 + 65535 →
    (absolute : ℕ) → older_holds n (record { version = 2; sequence = sequence; locktime = absolute }) ≡ true
unfolding older_holds
older_of n b sequence e off kind most absolute =
    let k : (bit_and n 0x00400000 == bit_and sequence 0x00400000) ≡ true = let l = and_pow n 22 ∙ ap (λ x. x * 2 ^ 22) e ∙ sym kind in rw l (grind (arith, nat_tests)) in
    let l : nat_le (bit_and n 0x0040ffff) (bit_and sequence 0x0040ffff) ≡ true = let h = masked_le n b e in rw most (le-leb _ _ h) in
    let o : (bit_and sequence 0x80000000 == 0) ≡ true = rw off refl in
    rw (o, k, l) (or_right (not (bit_and n 0x80000000 == 0)) true refl)

pub older_held : (n : ℕ) (absolute : Bool) → older_holds n (latest (is_relative_time n) absolute) ≡ true
older_held n absolute =
    elim (cases_Bool (is_relative_time n)) [
      | inl t ↦ rw t (older_of n 1 0x0040ffff (eqb-true _ 1 t) refl refl refl _)
      | inr f ↦ rw f (older_of n 0 0x0000ffff (zero f) refl refl refl _)
    ]
  where
    zero : is_relative_time n ≡ false → bit_at n 22 ≡ 0
    zero f = let l = bit_at-lt n 22 in grind (arith, nat_tests)

pub after_held : (n : ℕ) (relative : Bool) → n < 2 ^ 31 → after_holds n (latest relative (is_absolute_time n)) ≡ true
unfolding after_holds
after_held n relative h = grind (arith, nat_tests)
