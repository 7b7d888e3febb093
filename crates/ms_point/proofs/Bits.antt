-- Multiples and the bits of a number.
use Rattle.std.proofs.Common.{◌≡◌, ℕ, suc, ◌+◌, ◌-◌, ◌*◌, ◌/◌, ◌%◌, ◌^◌, ◌<◌, refl, ◌∙◌, ap, arith, eqb, cond, eq-eqb, bit_and}
use Rattle.std.proofs.lemmas.Bool.{ne_eqb}
use Rattle.std.proofs.lemmas.Nat.{shr-shr, and_mask}
use Rattle.std.proofs.Math.Nat.{pow-suc}
use Rattle.def_curve.specs.Point.{Point, infinity, ◌⊕◌, multiple}

pub multiple_none : (k : ℕ) (P : Point) → multiple 0 k P ≡ infinity
unfolding multiple
multiple_none k P = refl

multiple_step : (bits w : ℕ) (P : Point) → multiple (suc bits) w P
    ≡ cond (eqb (w % 2) 0) (multiple bits (w / 2) P ⊕ multiple bits (w / 2) P) ((multiple bits (w / 2) P ⊕ multiple bits (w / 2) P) ⊕ P)
unfolding multiple
multiple_step bits w P = refl

pub multiple_even : (bits k w : ℕ) (P : Point) → w ≡ 2 * k → multiple (suc bits) w P ≡ multiple bits k P ⊕ multiple bits k P
multiple_even bits k w P e =
    let rest : w % 2 ≡ 0 = omega arith in
    let half : w / 2 ≡ k = omega arith in
    let M : ℕ → Point = λ z. multiple bits z P ⊕ multiple bits z P in
    multiple_step bits w P ∙ ap (λ b. cond b (M (w / 2)) (M (w / 2) ⊕ P)) (eq-eqb (w % 2) 0 rest) ∙ ap M half

pub multiple_odd : (bits k w : ℕ) (P : Point) → w ≡ 2 * k + 1 → multiple (suc bits) w P ≡ (multiple bits k P ⊕ multiple bits k P) ⊕ P
multiple_odd bits k w P e =
    let rest : w % 2 ≡ 0 → ⊥ = λ r. omega arith in
    let half : w / 2 ≡ k = omega arith in
    let M : ℕ → Point = λ z. multiple bits z P ⊕ multiple bits z P in
    multiple_step bits w P ∙ ap (λ b. cond b (M (w / 2)) (M (w / 2) ⊕ P)) (ne_eqb (w % 2) 0 rest) ∙ ap (λ z. M z ⊕ P) half

pub renamed : (m n j k : ℕ) (P : Point) → m ≡ n → j ≡ k → multiple m j P ≡ multiple n k P
renamed m n j k P e f = ap (λ z. multiple z j P) e ∙ ap (λ z. multiple n z P) f

-- the bits of a word down to one of them, and the next one
pub next_bits : (word k i : ℕ) → i < 64 → 2 * (k * 2 ^ i + word / 2 ^ (64 - i)) + bit_and (word / 2 ^ (63 - i)) 1 ≡ k * 2 ^ (i + 1) + word / 2 ^ (64 - (i + 1))
next_bits word k i h =
    let w : ℕ = word / 2 ^ (63 - i) in
    let place : 63 - i + 1 ≡ 64 - i = omega arith in
    let upper : w / 2 ≡ word / 2 ^ (64 - i) = shr-shr word (63 - i) 1 ∙ ap (λ z. word / 2 ^ z) place in
    let bit : bit_and w 1 ≡ w % 2 = and_mask w 1 in
    let power : k * 2 ^ (i + 1) ≡ k * (2 ^ i * 2) = ap (λ z. k * z) (ap (λ z. 2 ^ z) (one_more i) ∙ pow-suc 2 i) in
    let lower : word / 2 ^ (64 - (i + 1)) ≡ w = ap (λ z. word / 2 ^ z) (next_place i h) in
    omega (arith, upper, bit, power, lower)
  where
    one_more : (i : ℕ) → i + 1 ≡ suc i
    one_more i = omega arith

    next_place : (i : ℕ) → i < 64 → 64 - (i + 1) ≡ 63 - i
    next_place i h = omega arith

-- all bits of a word
pub last_bits : (word k i : ℕ) → i ≡ 64 → k * 2 ^ i + word / 2 ^ (64 - i) ≡ k * 2 ^ 64 + word
last_bits word k i e = ap (λ z. k * 2 ^ z + word / 2 ^ (64 - z)) e ∙ (omega arith)
