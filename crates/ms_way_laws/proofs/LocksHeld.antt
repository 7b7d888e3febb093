-- Which locks hold with the numbers of an offer.
use Rattle.std.proofs.Common.{◌≡◌, ◌⊎◌, inl, inr, ℕ, ◌+◌, ◌*◌, ◌/◌, ◌%◌, ◌^◌, ◌<◌, ◌≤◌, ◌==◌, nat_le, Bool, true, false, Option, Some, None, refl, ◌∙◌, ap, arith, if◌then◌else◌}
use Rattle.std.specs.Prelude.{bit_and, IfSome}
use Rattle.std.specs.Int.{bit_at}
use Rattle.std.proofs.lemmas.Bool.Decides.{nat_tests}
use Rattle.std.proofs.lemmas.Nat.{and_block, and_mask, and_le_r}
use Rattle.std.proofs.lemmas.Nat.Bits.{and_pow, bit_at-lt}
use Rattle.def_machine.specs.Locks.{older_holds, after_holds}
use Rattle.def_ways.specs.declared.Delay.{Delay}
use Rattle.def_ways.specs.declared.Delay.TheVariants.{Blocks, Units}
use Rattle.def_ways.specs.declared.Moment.{Moment}
use Rattle.def_ways.specs.declared.Moment.TheVariants.{Height, Time}
use Rattle.def_ways.specs.Offer.{Offer, IsDelay, IsMoment, numbers_of, no_later, no_later_moment}
use Rattle.def_ways.specs.Bound.{delay_of, moment_of}
use Rattle.ms_way_laws.specs.LocksHeld.{OlderHolds, AfterHolds}

-- a number in two parts, of which the lower has 16 bits, under the masks of BIP 112
and_none : (r : ℕ) → bit_and r 0 ≡ 0
and_none r = let h = and_le r in omega (arith, h)
  where
    and_le : (r : ℕ) → bit_and r 0 ≤ 0
    and_le r = and_le_r r 0

low : (r : ℕ) → r < 2 ^ 16 → bit_and r 0xffff ≡ r
low r h = and_mask r 16 ∙ small r h
  where
    small : (r : ℕ) → r < 2 ^ 16 → r % 2 ^ 16 ≡ r
    small r h = omega (arith, h)

masked : (q r : ℕ) → r < 2 ^ 16 → bit_and (q * 2 ^ 16 + r) 0x0040ffff ≡ bit_and q 64 * 2 ^ 16 + r
masked q r h = and_block 16 q 64 r 0xffff h (omega arith) ∙ ap (λ m. bit_and q 64 * 2 ^ 16 + m) (low r h)

typed : (q r : ℕ) → r < 2 ^ 16 → bit_and (q * 2 ^ 16 + r) 0x00400000 ≡ bit_and q 64 * 2 ^ 16
typed q r h = and_block 16 q 64 r 0 h (omega arith) ∙ ap (λ m. bit_and q 64 * 2 ^ 16 + m) (and_none r) ∙ omega arith

void : (q r : ℕ) → r < 2 ^ 16 → bit_and (q * 2 ^ 16 + r) 0x80000000 ≡ bit_and q 32768 * 2 ^ 16
void q r h = and_block 16 q 32768 r 0 h (omega arith) ∙ ap (λ m. bit_and q 32768 * 2 ^ 16 + m) (and_none r) ∙ omega arith

bit : (q : ℕ) → (bit_and q 64 ≡ 0) ⊎ (bit_and q 64 ≡ 64)
bit q = let e = and_pow q 6 in let l = bit_at-lt q 6 in go (bit_at q 6) (bit_and q 64) e l
  where
    go : (b m : ℕ) → m ≡ b * 2 ^ 6 → b < 2 → (m ≡ 0) ⊎ (m ≡ 64)
    go b m e l = grind arith

-- an operand below 2^31 isn't void
not_void : (n : ℕ) → n < 2 ^ 31 → bit_and n 0x80000000 ≡ 0
not_void n h = and_pow n 31 ∙ ap (λ b. b * 2 ^ 31) (high n h)
  where
    high : (n : ℕ) → n < 2 ^ 31 → n / 2 ^ 31 % 2 ≡ 0
    high n h = omega (arith, h)

-- the test of BIP 112, over what its masks make of both numbers
module _ (n : ℕ) (below : n < 2 ^ 31) where
  abbrev high : ℕ
  high = n / 2 ^ 16

  abbrev rest : ℕ
  rest = n % 2 ^ 16

  parts : n ≡ high * 2 ^ 16 + rest
  parts = omega arith

  small : rest < 2 ^ 16
  small = omega arith

  n_masked : bit_and n 0x0040ffff ≡ bit_and high 64 * 2 ^ 16 + rest
  n_masked = ap (λ m. bit_and m 0x0040ffff) parts ∙ masked high rest small

  n_typed : bit_and n 0x00400000 ≡ bit_and high 64 * 2 ^ 16
  n_typed = ap (λ m. bit_and m 0x00400000) parts ∙ typed high rest small

  -- both units
  of_blocks : bit_and high 64 ≡ 0 → (bit_and n 0x00400000 ≡ 0) × (bit_and n 0x0040ffff ≡ rest)
  of_blocks e = (n_typed ∙ ap (λ m. m * 2 ^ 16) e ∙ omega arith, n_masked ∙ ap (λ m. m * 2 ^ 16 + rest) e ∙ omega arith)

  of_units : bit_and high 64 ≡ 64 → (bit_and n 0x00400000 ≡ 4194304) × (bit_and n 0x0040ffff ≡ 4194304 + rest)
  of_units e = (n_typed ∙ ap (λ m. m * 2 ^ 16) e ∙ omega arith, n_masked ∙ ap (λ m. m * 2 ^ 16 + rest) e ∙ omega arith)

  older_with : (offer : Offer) → (d : Option Delay) → IfSome d IsDelay → older_holds n (numbers_of (record offer { delay = d })) ≡ no_later (Some (delay_of n)) d
  unfolding older_holds
  older_with offer None is = let void = not_void n below in rw void (none (bit_and n 0x00400000 == 0))
    where
      none : (b : Bool) → false ≡ no_later (Some (if b then Blocks rest else Units rest)) None
      none true = refl
      none false = refl
  older_with offer (Some (Blocks b)) is =
      let void = not_void n below in
      let s_void : bit_and b 0x80000000 ≡ 0 = not_void b (omega (arith, is)) in
      let s_masked : bit_and b 0x0040ffff ≡ b = ap (λ m. bit_and m 0x0040ffff) (omega arith) ∙ masked 0 b is ∙ omega arith in
      let s_typed : bit_and b 0x00400000 ≡ 0 = ap (λ m. bit_and m 0x00400000) (omega arith) ∙ typed 0 b is ∙ omega arith in
      elim (bit high) [
        | inl e ↦ let p = of_blocks e in rw (void, s_void, s_masked, s_typed, p.0, p.1) refl
        | inr e ↦ let p = of_units e in rw (void, s_void, s_typed, p.0) refl
      ]
  older_with offer (Some (Units u)) is =
      let void = not_void n below in
      let s_void : bit_and (4194304 + u) 0x80000000 ≡ 0 = not_void (4194304 + u) (omega (arith, is)) in
      let s_masked : bit_and (4194304 + u) 0x0040ffff ≡ 4194304 + u = ap (λ m. bit_and m 0x0040ffff) (omega arith) ∙ masked 64 u is ∙ omega arith in
      let s_typed : bit_and (4194304 + u) 0x00400000 ≡ 4194304 = ap (λ m. bit_and m 0x00400000) (omega arith) ∙ typed 64 u is ∙ omega arith in
      elim (bit high) [
        | inl e ↦ let p = of_blocks e in rw (void, s_void, s_typed, p.0) refl
        | inr e ↦ let p = of_units e in rw (void, s_void, s_masked, s_typed, p.0, p.1) (same rest u)
      ]
    where
      same : (r u : ℕ) → nat_le (4194304 + r) (4194304 + u) ≡ nat_le r u
      same r u = grind (arith, nat_tests)

pub older_held : OlderHolds
older_held offer n is below = older_with n below offer offer.delay is

-- BIP 65
after_with : (offer : Offer) (n : ℕ) → IfSome offer.delay IsDelay → (m : Option Moment) → IfSome m IsMoment → 1 ≤ n →
    after_holds n (numbers_of (record offer { moment = m })) ≡ no_later_moment (Some (moment_of n)) m
unfolding after_holds
after_with offer n is None here some = grind (arith, nat_tests)
after_with offer n is (Some (Height h)) here some = grind (arith, nat_tests)
after_with offer n is (Some (Time t)) here some = grind (arith, nat_tests)

pub after_held : AfterHolds
after_held offer n is here some = after_with offer n is offer.moment here some
