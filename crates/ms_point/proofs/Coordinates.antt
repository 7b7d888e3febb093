-- What doubling and addition in Jacobian coordinates stand for.
use Rattle.std.proofs.Common.{◌≡◌, ℕ, ◌+◌, ◌-◌, ◌*◌, ◌%◌, ◌<◌, refl, sym, ◌∙◌, ap, inl, inr, arith, lit<}
use Rattle.std.proofs.lemmas.Bool.{cases_lt}
use Rattle.std.proofs.lemmas.Nat.{mod_below}
use Rattle.std.proofs.Math.Nat.{mod-eq_of_lt}
use Rattle.def_curve.specs.Modular.{minus, inverse}
use Rattle.def_curve.specs.Curve.{p}
use Rattle.def_curve.specs.Point.{on_line, double, chord}
use Rattle.ms_prime_laws.proofs.Congruence.{Same, at, by, back, ◌⨟◌, times, plus, less, of_mod, of_eq, to_eq, of_minus}
use Rattle.ms_prime_laws.proofs.Euclid.{product_some, cancel}
use Rattle.ms_prime_laws.proofs.FieldPrime.{field_prime}
use Rattle.ms_prime_laws.proofs.Inverses.{inverse_is}
use Rattle.ms_point.specs.Standing.{StandAt, StandFor}
use Rattle.ms_point.specs.Scaffolding.Crossing.{Crosses}

p_some : 0 < p
p_some = lit< tt

-- what the coordinates of a point are, as congruences
pub x_same : (X Y Z x y : ℕ) → StandAt X Y Z x y → Same p X (x * (Z * Z))
x_same X Y Z x y a = of_eq X (x * (Z * Z)) a.x_is

pub y_same : (X Y Z x y : ℕ) → StandAt X Y Z x y → Same p Y (y * (Z * Z * Z))
y_same X Y Z x y a = of_eq Y (y * (Z * Z * Z)) a.y_is

-- a number below p isn't 0 modulo p where it isn't 0
pub some_mod : (a : ℕ) → a < p → 0 < a → 0 < a % p
some_mod a below pos = let e : a % p ≡ a = mod-eq_of_lt below in omega (arith, e)

-- a difference modulo p, and the number that was taken off
of_difference : (a b : ℕ) → b < p → Same p (minus p a b + b) a
of_difference a b below = of_minus (minus p a b) a b (omega arith) refl

-- the third point of a line in Jacobian coordinates: M is the slope times Z, and S, S' and T are x, x' and y, scaled
module _ (slope x y x' Z M S S' T X3 D Y3 : ℕ) (x_below : x < p) (y_below : y < p) (x'_below : x' < p)
    (slope_is : Same p (slope * Z) M) (s_is : Same p (x * (Z * Z)) S) (s'_is : Same p (x' * (Z * Z)) S') (t_is : Same p (y * (Z * Z * Z)) T)
    (x3_is : Same p ((X3 + S') + S) (M * M)) (d_is : Same p (D + X3) S) (y3_is : Same p (Y3 + T) (M * D)) where
  third : ℕ
  third = minus p (minus p (slope * slope) x) x'

  rest : ℕ
  rest = minus p x third

  third_below : third < p
  unfolding third
  third_below = mod_below (minus p (slope * slope) x + (p - x')) p p_some

  third_same : Same p ((third + x') + x) (slope * slope)
  unfolding third
  third_same = plus (of_difference (minus p (slope * slope) x) x' x'_below) (at x) ⨟ of_difference (slope * slope) x x_below

  x3_same : Same p X3 (third * (Z * Z))
  x3_same =
      let spread : ((third + x') + x) * (Z * Z) ≡ (third * (Z * Z) + x' * (Z * Z)) + x * (Z * Z) = omega arith in
      let squares : slope * slope * (Z * Z) ≡ slope * Z * (slope * Z) = omega arith in
      let scaled : Same p ((third * (Z * Z) + S') + S) ((third * (Z * Z) + x' * (Z * Z)) + x * (Z * Z)) = plus (plus (at (third * (Z * Z))) (back s'_is)) (back s_is) in
      let whole : Same p ((third * (Z * Z) + S') + S) (M * M) =
      scaled ⨟ by (sym spread) ⨟ times third_same (at (Z * Z)) ⨟ by squares ⨟ times slope_is slope_is in
      less S' p_some (less S p_some (x3_is ⨟ back whole))

  d_same : Same p D (rest * (Z * Z))
  unfolding rest
  d_same =
      let spread : (rest + third) * (Z * Z) ≡ rest * (Z * Z) + third * (Z * Z) = omega arith in
      less (third * (Z * Z)) p_some
      (plus (at D) (back x3_same) ⨟ d_is ⨟ back s_is ⨟ times (back (of_difference x third third_below)) (at (Z * Z)) ⨟ by spread)

  y3_same : Same p Y3 (minus p (slope * rest) y * (Z * Z * Z))
  y3_same =
      let y3 : ℕ = minus p (slope * rest) y in
      let spread : (y3 + y) * (Z * Z * Z) ≡ y3 * (Z * Z * Z) + y * (Z * Z * Z) = omega arith in
      let grouped : slope * rest * (Z * Z * Z) ≡ slope * Z * (rest * (Z * Z)) = omega arith in
      let whole : Same p (y3 * (Z * Z * Z) + T) (M * D) =
      plus (at (y3 * (Z * Z * Z))) (back t_is) ⨟ by (sym spread) ⨟ times (of_difference (slope * rest) y y_below) (at (Z * Z * Z)) ⨟ by grouped
      ⨟ times slope_is (back d_same) in
      less T p_some (y3_is ⨟ back whole)

  pub on_line_stands : 0 < Z → X3 < p → Y3 < p → StandFor X3 Y3 Z (on_line slope x y x')
  unfolding on_line third rest
  on_line_stands some x3_below y3_below = record {
    x_below = third_below;
    y_below = mod_below (slope * rest + (p - y)) p p_some;
    z_some = some;
    x_is = to_eq x3_below x3_same;
    y_is = to_eq y3_below y3_same;
  }

-- what doubling computes
pub record Doubled (X Y Z X3 Y3 Z3 : ℕ) : Type 0 where
  pub S : ℕ
  pub M : ℕ
  pub T : ℕ
  pub D : ℕ
  pub s_is : Same p S (X * (Y * Y))
  pub m_is : Same p (M + M) (3 * (X * X))
  pub t_is : Same p T (Y * Y * (Y * Y))
  pub x3_is : Same p ((X3 + S) + S) (M * M)
  pub d_is : Same p (D + X3) S
  pub y3_is : Same p (Y3 + T) (M * D)
  pub z3_is : Same p Z3 (Y * Z)
  pub x3_below : X3 < p
  pub y3_below : Y3 < p
  pub z3_below : Z3 < p

-- infinity stays infinity
pub doubled_infinity : (X Y Z X3 Y3 Z3 : ℕ) → Doubled X Y Z X3 Y3 Z3 → Z ≡ 0 → Z3 ≡ 0
doubled_infinity X Y Z X3 Y3 Z3 c none =
    let e : Y * Z ≡ 0 = ap (λ z. Y * z) none ∙ (omega arith) in
    to_eq c.z3_below (c.z3_is ⨟ by e) ∙ mod-eq_of_lt p_some

-- so does twice a point whose y is 0
pub doubled_flat : (X Y Z X3 Y3 Z3 x y : ℕ) → Doubled X Y Z X3 Y3 Z3 → StandAt X Y Z x y → y ≡ 0 → Z3 ≡ 0
doubled_flat X Y Z X3 Y3 Z3 x y c a none =
    let e : y * (Z * Z * Z) ≡ 0 = ap (λ z. z * (Z * Z * Z)) none ∙ (omega arith) in
    let f : 0 * Z ≡ 0 = omega arith in
    to_eq c.z3_below (c.z3_is ⨟ times (y_same X Y Z x y a ⨟ by e) (at Z) ⨟ by f) ∙ mod-eq_of_lt p_some

-- any other point has the double that its tangent gives, whose slope is 3 x ^ 2 times i, which is 1 / (2 y)
doubled_by : (X Y Z X3 Y3 Z3 x y i : ℕ) → Doubled X Y Z X3 Y3 Z3 → StandAt X Y Z x y → Z < p → 0 < y → Same p ((2 * y) * i) 1
    → StandFor X3 Y3 Z3 (on_line (3 * (x * x) * i % p) x y x)
doubled_by X Y Z X3 Y3 Z3 x y i c a z_below y_some unit =
    on_line_stands (3 * (x * x) * i % p) x y x Z3 c.M c.S c.S c.T X3 c.D Y3 a.x_below a.y_below a.x_below
    slope_is x_scaled x_scaled y_scaled c.x3_is c.d_is c.y3_is z3_some c.x3_below c.y3_below
  where
    x_is : Same p X (x * (Z * Z))
    x_is = x_same X Y Z x y a

    y_is : Same p Y (y * (Z * Z * Z))
    y_is = y_same X Y Z x y a

    slope_is : Same p ((3 * (x * x) * i % p) * Z3) c.M
    slope_is =
        let grouped : 3 * (x * x) * i * (y * (Z * Z * Z) * Z) * 2 ≡ 3 * (x * (Z * Z) * (x * (Z * Z))) * ((2 * y) * i) = omega arith in
        let single : 3 * (X * X) * 1 ≡ 3 * (X * X) = omega arith in
        let twice : c.M + c.M ≡ c.M * 2 = omega arith in
        cancel p ((3 * (x * x) * i % p) * Z3) c.M 2 field_prime (lit< tt)
        (times (times (of_mod (3 * (x * x) * i)) (c.z3_is ⨟ times y_is (at Z))) (at 2) ⨟ by grouped
        ⨟ times (times (at 3) (times (back x_is) (back x_is))) unit ⨟ by single ⨟ back c.m_is ⨟ by twice)

    x_scaled : Same p (x * (Z3 * Z3)) c.S
    x_scaled =
        let grouped : x * (Y * Z * (Y * Z)) ≡ x * (Z * Z) * (Y * Y) = omega arith in
        times (at x) (times c.z3_is c.z3_is) ⨟ by grouped ⨟ times (back x_is) (at (Y * Y)) ⨟ back c.s_is

    y_scaled : Same p (y * (Z3 * Z3 * Z3)) c.T
    y_scaled =
        let grouped : y * (Y * Z * (Y * Z) * (Y * Z)) ≡ y * (Z * Z * Z) * (Y * (Y * Y)) = omega arith in
        let turned : Y * (Y * (Y * Y)) ≡ Y * Y * (Y * Y) = omega arith in
        times (at y) (times (times c.z3_is c.z3_is) c.z3_is) ⨟ by grouped ⨟ times (back y_is) (at (Y * (Y * Y))) ⨟ by turned ⨟ back c.t_is

    z_mod : 0 < Z % p
    z_mod = some_mod Z z_below a.z_some

    y_mod : 0 < Y % p
    y_mod =
        let zzz : 0 < Z * Z * Z % p = product_some p (Z * Z) Z field_prime (product_some p Z Z field_prime z_mod z_mod) z_mod in
        let whole : 0 < y * (Z * Z * Z) % p = product_some p y (Z * Z * Z) field_prime (some_mod y a.y_below y_some) zzz in
        omega (arith, y_is.same, whole)

    z3_some : 0 < Z3
    z3_some =
        let whole : 0 < Y * Z % p = product_some p Y Z field_prime y_mod z_mod in
        elim (cases_lt 0 Z3) [
          | inl pos ↦ pos
          | inr none ↦ let e : Z3 % p ≡ Z3 = mod-eq_of_lt c.z3_below in absurd (omega (arith, c.z3_is.same, whole, e))
        ]

pub doubled_stands : (X Y Z X3 Y3 Z3 x y : ℕ) → Doubled X Y Z X3 Y3 Z3 → StandAt X Y Z x y → Z < p → 0 < y → StandFor X3 Y3 Z3 (double x y)
unfolding double
doubled_stands X Y Z X3 Y3 Z3 x y c a z_below y_some =
    doubled_by X Y Z X3 Y3 Z3 x y (inverse p (2 * y)) c a z_below y_some (inverse_is (2 * y) (omega (arith, a.y_below)))

-- what addition computes
pub record Crossed (X Y Z H R X3 Y3 Z3 : ℕ) : Type 0 where
  pub C : ℕ
  pub S : ℕ
  pub T : ℕ
  pub D : ℕ
  pub c_is : Same p C (H * H * H)
  pub s_is : Same p S (X * (H * H))
  pub t_is : Same p T (Y * (H * H * H))
  pub x3_is : Same p (((X3 + S) + S) + C) (R * R)
  pub d_is : Same p (D + X3) S
  pub y3_is : Same p (Y3 + T) (R * D)
  pub z3_is : Same p Z3 (Z * H)
  pub x3_below : X3 < p
  pub y3_below : Y3 < p
  pub z3_below : Z3 < p

-- two points with different x have the sum that their line gives, whose slope is dy times i, which is 1 / dx
crossed_by : (X Y Z H R X3 Y3 Z3 x y x' y' dx dy i : ℕ) → Crossed X Y Z H R X3 Y3 Z3 → Crosses X Y Z H R x y x' y' → Z < p → H < p
    → Same p (dx + x) x' → Same p (dy + y) y' → (0 < dx % p → Same p (dx * i) 1) → StandFor X3 Y3 Z3 (on_line (dy * i % p) x y x')
crossed_by X Y Z H R X3 Y3 Z3 x y x' y' dx dy i c a z_below h_below dx_is dy_is inverted =
    on_line_stands (dy * i % p) x y x' Z3 R c.S (c.C + c.S) c.T X3 c.D Y3 a.first.x_below a.first.y_below a.x_below
    slope_is x_scaled x'_scaled y_scaled x3_is c.d_is c.y3_is z3_some c.x3_below c.y3_below
  where
    x_is : Same p X (x * (Z * Z))
    x_is = x_same X Y Z x y a.first

    y_is : Same p Y (y * (Z * Z * Z))
    y_is = y_same X Y Z x y a.first

    x'_is : Same p (H + X) (x' * (Z * Z))
    x'_is = record { same = a.h_is }

    y'_is : Same p (R + Y) (y' * (Z * Z * Z))
    y'_is = record { same = a.r_is }

    h_is : Same p (dx * (Z * Z)) H
    h_is =
        let spread : (dx + x) * (Z * Z) ≡ dx * (Z * Z) + x * (Z * Z) = omega arith in
        less X p_some (plus (at (dx * (Z * Z))) x_is ⨟ by (sym spread) ⨟ times dx_is (at (Z * Z)) ⨟ back x'_is)

    r_is : Same p (dy * (Z * Z * Z)) R
    r_is =
        let spread : (dy + y) * (Z * Z * Z) ≡ dy * (Z * Z * Z) + y * (Z * Z * Z) = omega arith in
        less Y p_some (plus (at (dy * (Z * Z * Z))) y_is ⨟ by (sym spread) ⨟ times dy_is (at (Z * Z * Z)) ⨟ back y'_is)

    h_mod : 0 < H % p
    h_mod = some_mod H h_below a.h_some

    dx_some : 0 < dx % p
    dx_some =
        elim (cases_lt 0 (dx % p)) [
          | inl pos ↦ pos
          | inr none ↦
              let dx_none : dx % p ≡ 0 = omega arith in
              let zeroed : Same p dx 0 = record { same = dx_none ∙ sym (mod-eq_of_lt p_some) } in
              let nothing : 0 * (Z * Z) ≡ 0 = omega arith in
              let h_zero : Same p H 0 = back h_is ⨟ times zeroed (at (Z * Z)) ⨟ by nothing in
              let z : 0 % p ≡ 0 = mod-eq_of_lt p_some in
              absurd (omega (arith, h_zero.same, h_mod, z))
        ]

    slope_is : Same p ((dy * i % p) * Z3) R
    slope_is =
        let grouped : dy * i * (Z * (dx * (Z * Z))) ≡ dy * (Z * Z * Z) * (dx * i) = omega arith in
        let single : R * 1 ≡ R = omega arith in
        times (of_mod (dy * i)) (c.z3_is ⨟ times (at Z) (back h_is)) ⨟ by grouped ⨟ times r_is (inverted dx_some) ⨟ by single

    x_scaled : Same p (x * (Z3 * Z3)) c.S
    x_scaled =
        let grouped : x * (Z * H * (Z * H)) ≡ x * (Z * Z) * (H * H) = omega arith in
        times (at x) (times c.z3_is c.z3_is) ⨟ by grouped ⨟ times (back x_is) (at (H * H)) ⨟ back c.s_is

    x'_scaled : Same p (x' * (Z3 * Z3)) (c.C + c.S)
    x'_scaled =
        let grouped : x' * (Z * H * (Z * H)) ≡ x' * (Z * Z) * (H * H) = omega arith in
        let spread : (H + X) * (H * H) ≡ H * H * H + X * (H * H) = omega arith in
        times (at x') (times c.z3_is c.z3_is) ⨟ by grouped ⨟ times (back x'_is) (at (H * H)) ⨟ by spread ⨟ plus (back c.c_is) (back c.s_is)

    y_scaled : Same p (y * (Z3 * Z3 * Z3)) c.T
    y_scaled =
        let grouped : y * (Z * H * (Z * H) * (Z * H)) ≡ y * (Z * Z * Z) * (H * H * H) = omega arith in
        times (at y) (times (times c.z3_is c.z3_is) c.z3_is) ⨟ by grouped ⨟ times (back y_is) (at (H * H * H)) ⨟ back c.t_is

    x3_is : Same p ((X3 + (c.C + c.S)) + c.S) (R * R)
    x3_is = let turned : (X3 + (c.C + c.S)) + c.S ≡ ((X3 + c.S) + c.S) + c.C = omega arith in by turned ⨟ c.x3_is

    z3_some : 0 < Z3
    z3_some =
        let whole : 0 < Z * H % p = product_some p Z H field_prime (some_mod Z z_below a.first.z_some) h_mod in
        elim (cases_lt 0 Z3) [
          | inl pos ↦ pos
          | inr none ↦ let e : Z3 % p ≡ Z3 = mod-eq_of_lt c.z3_below in absurd (omega (arith, c.z3_is.same, whole, e))
        ]

pub crossed_stands : (X Y Z H R X3 Y3 Z3 x y x' y' : ℕ) → Crossed X Y Z H R X3 Y3 Z3 → Crosses X Y Z H R x y x' y' → Z < p → H < p
    → StandFor X3 Y3 Z3 (chord x y x' y')
unfolding chord
crossed_stands X Y Z H R X3 Y3 Z3 x y x' y' c a z_below h_below =
    crossed_by X Y Z H R X3 Y3 Z3 x y x' y' (minus p x' x) (minus p y' y) (inverse p (minus p x' x)) c a z_below h_below
    (of_difference x' x a.first.x_below) (of_difference y' y a.first.y_below) (inverse_is (minus p x' x))
