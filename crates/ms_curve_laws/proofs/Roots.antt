-- Square roots modulo p, and that no point has 0 for its y.
use Rattle.std.proofs.Common.{◌≡◌, ℕ, zero, suc, ◌+◌, ◌-◌, ◌*◌, ◌/◌, ◌%◌, ◌^◌, ◌<◌, ◌≤◌, ◌⊎◌, refl, sym, ◌∙◌, ap, inl, inr, arith, lit<}
use Rattle.std.proofs.lemmas.Bool.{cases_lt}
use Rattle.std.proofs.lemmas.Nat.{pow-add, mul-pow}
use Rattle.std.proofs.Math.Nat.{pow-suc, pow-zero, mod-eq_of_lt}
use Rattle.def_curve.specs.Modular.{power}
use Rattle.def_curve.specs.Curve.{p}
use Rattle.def_curve.specs.Key.{root}
use Rattle.ms_prime_laws.specs.Prime.{IsPrime}
use Rattle.ms_prime_laws.proofs.Congruence.{Same, at, by, back, ◌⨟◌, times, less}
use Rattle.ms_prime_laws.proofs.Euclid.{euclid}
use Rattle.ms_prime_laws.proofs.Fermat.{fermat_unit}
use Rattle.ms_prime_laws.proofs.Powers.{power-same}
use Rattle.ms_prime_laws.proofs.FieldPrime.{field_prime}
use Rattle.ms_curve_laws.proofs.Closure.{OnCurve}

same_power : (q a b k : ℕ) → Same q a b → Same q (a ^ k) (b ^ k)
same_power q a b zero s = by (pow-zero a ∙ sym (pow-zero b))
same_power q a b (suc k) s = by (pow-suc a k) ⨟ times (same_power q a b k s) s ⨟ by (sym (pow-suc b k))

-- the power by (q + 1) / 4 of a square is one of its roots
root_by : (q bits k y w : ℕ) → IsPrime q → k < 2 ^ bits → 4 * k ≡ q + 1 → 0 < y % q → Same q w (y * y) → Same q (power q bits w k * power q bits w k) (y * y)
root_by q bits k y w prime short places some s =
    let one : Same q (power q bits w k) ((y * y) ^ k) = power-same q bits w k short ⨟ same_power q w (y * y) k s in
    let parts : (y * y) ^ k ≡ y ^ (k + k) = mul-pow y y k ∙ sym (pow-add y k k) in
    let four : k + k + (k + k) ≡ suc (suc (q - 1)) = omega (arith, prime.above) in
    let last : y ^ (k + k) * y ^ (k + k) ≡ y ^ (q - 1) * y * y =
    sym (pow-add y (k + k) (k + k)) ∙ ap (λ z. y ^ z) four ∙ pow-suc y (suc (q - 1)) ∙ ap (λ z. z * y) (pow-suc y (q - 1)) in
    let single : 1 * y * y ≡ y * y = omega arith in
    times one one ⨟ by (ap (λ z. z * z) parts ∙ last) ⨟ times (times (fermat_unit q y prime some) (at y)) (at y) ⨟ by single

pub root_squared : (y w : ℕ) → 0 < y % p → Same p w (y * y) → Same p (root w * root w) (y * y)
root_squared y w some s = root_by p 256 ((p + 1) / 4) y w field_prime (lit< tt) refl some s

-- two roots are the same or opposite
ordered : (a b d : ℕ) → d + b ≡ a → 0 < d → a < p → Same p (a * a) (b * b) → a + b ≡ p
ordered a b d parts some below s =
    let split : d * (a + b) + b * b ≡ a * a = ap (λ z. d * (z + b) + b * b) (sym parts) ∙ (expanded d b) ∙ ap (λ z. z * z) parts in
    let none : b * b ≡ 0 + b * b = omega arith in
    let zeroed : Same p (d * (a + b)) 0 = less (b * b) (lit< tt) (by split ⨟ s ⨟ by none) in
    let small : d % p ≡ d = mod-eq_of_lt (omega (arith, parts, below)) in
    let zero_rest : 0 % p ≡ 0 = refl in
    let whole : (a + b) % p ≡ 0 = euclid p d (a + b) field_prime (zeroed.same ∙ zero_rest) (omega (arith, small)) in
    omega (arith, whole, parts, below, some)
  where
    expanded : (d b : ℕ) → d * ((d + b) + b) + b * b ≡ (d + b) * (d + b)
    expanded d b = omega arith

pub two_roots : (r y : ℕ) → r < p → y < p → Same p (r * r) (y * y) → (r ≡ y) ⊎ (r + y ≡ p)
two_roots r y r_below y_below s =
    elim (cases_lt r y) [
      | inl under ↦ let sum : y + r ≡ p = ordered y r (y - r) (omega arith) (omega arith) y_below (back s) in inr (omega (arith, sum))
      | inr over ↦
          elim (cases_lt y r) [
            | inl above ↦ inr (ordered r y (r - y) (omega arith) (omega arith) r_below s)
            | inr same ↦ inl (omega arith)
          ]
    ]

-- the power by (q - 1) / 3 of a cube is 1
cube_by : (q bits k x w : ℕ) → IsPrime q → k < 2 ^ bits → 3 * k + 1 ≡ q → 0 < x % q → Same q w (x * x * x) → Same q (power q bits w k) 1
cube_by q bits k x w prime short places some s =
    let three : k + k + k ≡ q - 1 = omega arith in
    let parts : (x * x * x) ^ k ≡ x ^ (q - 1) =
    mul-pow (x * x) x k ∙ ap (λ z. z * x ^ k) (mul-pow x x k ∙ sym (pow-add x k k)) ∙ sym (pow-add x (k + k) k) ∙ ap (λ z. x ^ z) three in
    power-same q bits w k short ⨟ same_power q w (x * x * x) k s ⨟ by parts ⨟ fermat_unit q x prime some

-- -7 isn't a cube
no_cube : power p 256 (p - 7) ((p - 1) / 3) ≡ 55594575648329892869085402983802832744385952214688224221778511981742606582254
unfolding power
no_cube = refl

no_third_root : (x : ℕ) → 0 < x % p → Same p (p - 7) (x * x * x) → ⊥
no_third_root x some s =
    let one : Same p (power p 256 (p - 7) ((p - 1) / 3)) 1 = cube_by p 256 ((p - 1) / 3) x (p - 7) field_prime (lit< tt) refl some s in
    let literal : 55594575648329892869085402983802832744385952214688224221778511981742606582254 % p ≡ 1 % p = ap (λ z. z % p) (sym no_cube) ∙ one.same in
    absurd (omega (arith, literal))

-- so no point has 0 for its y
pub no_flat_point : (x y : ℕ) → OnCurve x y → 0 < y
no_flat_point x y c =
    elim (cases_lt 0 y) [
      | inl some ↦ some
      | inr none ↦
          let zero_y : y * y ≡ 0 = flat y none in
          let minus_seven : Same p (p - 7 + 7) (x * x * x + 7) = record { same = refl } ⨟ by (sym zero_y) ⨟ c.curve in
          elim (cases_lt 0 x) [
            | inl positive ↦ absurd (no_third_root x (omega (arith, mod-eq_of_lt c.x_below)) (less 7 (lit< tt) minus_seven))
            | inr nothing ↦
                let x_zero : x * x * x + 7 ≡ 7 = cubed x nothing in
                let seven : Same p (p - 7 + 7) 7 = minus_seven ⨟ by x_zero in
                absurd (omega (arith, seven.same))
          ]
    ]
  where
    flat : (y : ℕ) → y ≤ 0 → y * y ≡ 0
    flat zero none = refl
    flat (suc y) none = absurd (omega arith)

    cubed : (x : ℕ) → x ≤ 0 → x * x * x + 7 ≡ 7
    cubed zero none = refl
    cubed (suc x) none = absurd (omega arith)
