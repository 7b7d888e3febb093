-- The sum of two points of the curve is one.
use Rattle.std.proofs.Common.{◌≡◌, ℕ, zero, suc, ◌+◌, ◌-◌, ◌*◌, ◌/◌, ◌%◌, ◌<◌, ◌≤◌, refl, sym, inl, inr, arith, cond, eqb, ltb, Bool, ◌&&◌, true, false, eq-eqb, lit<}
use Rattle.std.proofs.lemmas.Bool.{cases_lt, and_parts, and_from, ltb-true, lt-ltb, eqb-true, eqb-false}
use Rattle.std.proofs.lemmas.Nat.{mod_below}
use Rattle.std.proofs.Math.Nat.{mod-eq_of_lt}
use Rattle.def_curve.specs.Modular.{minus, inverse}
use Rattle.def_curve.specs.Curve.{p}
use Rattle.def_curve.specs.Point.{Point, infinity, affine, is_on_curve, on_line, double, chord, ◌⊕◌, multiple}
use Rattle.ms_prime_laws.proofs.Congruence.{Same, at, by, back, ◌⨟◌, times, plus, less, of_mod, of_minus, to_one}
use Rattle.ms_prime_laws.proofs.Euclid.{cancel, product_some}
use Rattle.ms_prime_laws.proofs.FieldPrime.{field_prime}
use Rattle.ms_prime_laws.proofs.Inverses.{inverse_is}

-- a point of the curve by its coordinates
pub record OnCurve (x y : ℕ) : Type 0 where
  pub x_below : x < p
  pub y_below : y < p
  pub curve : Same p (y * y) (x * x * x + 7)

pub by_test : (x y : ℕ) → is_on_curve (affine x y) ≡ true → OnCurve x y
by_test x y test =
    let parts = and_parts (ltb x p && ltb y p) (eqb (y * y % p) ((x * x * x + 7) % p)) test in
    let below = and_parts (ltb x p) (ltb y p) parts.0 in
    record {
      x_below = ltb-true x p below.0;
      y_below = ltb-true y p below.1;
      curve = record { same = eqb-true (y * y % p) ((x * x * x + 7) % p) parts.1 };
    }

pub to_test : (x y : ℕ) → OnCurve x y → is_on_curve (affine x y) ≡ true
to_test x y c =
    and_from (ltb x p && ltb y p) (eqb (y * y % p) ((x * x * x + 7) % p)) (and_from (ltb x p) (ltb y p) (lt-ltb x p c.x_below) (lt-ltb y p c.y_below))
    (eq-eqb (y * y % p) ((x * x * x + 7) % p) c.curve.same)

-- a line of slope l through (t + u, y) meets the curve where d is added to its x, and in the third point (u, v) mirrored
third_point : (l d t u y v : ℕ) → Same p (y * y) ((t + u) * (t + u) * (t + u) + 7)
    → Same p (2 * l * y + l * l * d) (3 * ((t + u) * (t + u)) + 3 * (t + u) * d + d * d) → Same p (u + (t + u) + (t + u + d)) (l * l) → Same p (v + y) (l * t)
    → Same p (v * v) (u * u * u + 7)
third_point l d t u y v curve line sum height =
    let e : ℕ = 3 * ((t + u) * (t + u)) + 3 * (t + u) * d + d * d in
    let first : v * v + (2 * l * y + l * l * d) * t ≡ v * v + 2 * y * (l * t) + l * l * (d * t) = omega arith in
    let joined : v * v + 2 * y * (v + y) + l * l * (d * t) ≡ (v + y) * (v + y) + y * y + l * l * (d * t) = omega arith in
    let grouped : l * t * (l * t) + y * y + l * l * (d * t) ≡ l * l * (t * t + d * t) + y * y = omega arith in
    let computed : (u + (t + u) + (t + u + d)) * (t * t + d * t) + ((t + u) * (t + u) * (t + u) + 7) ≡ u * u * u + 7 + e * t = omega arith in
    less (e * t) (lit< tt)
    (plus (at (v * v)) (times (back line) (at t)) ⨟ by first ⨟ plus (plus (at (v * v)) (times (at (2 * y)) (back height))) (at (l * l * (d * t))) ⨟ by joined
    ⨟ plus (plus (times height height) (at (y * y))) (at (l * l * (d * t))) ⨟ by grouped ⨟ plus (times (back sum) (at (t * t + d * t))) curve ⨟ by computed)

-- the third point of a line is on the curve
on_line-curve : (l d x y x' : ℕ) → OnCurve x y → x' < p → Same p (x + d) x' → Same p (2 * l * y + l * l * d) (3 * (x * x) + 3 * x * d + d * d)
    → is_on_curve (on_line l x y x') ≡ true
unfolding on_line
on_line-curve l d x y x' c x'_below apart line =
    let f : ℕ = minus p (l * l) x in
    let u : ℕ = minus p f x' in
    let t : ℕ = minus p x u in
    let v : ℕ = minus p (l * t) y in
    let x_below : x ≤ p = omega (arith, c.x_below) in
    let y_below : y ≤ p = omega (arith, c.y_below) in
    let x'_le : x' ≤ p = omega (arith, x'_below) in
    let u_below : u < p = mod_below (f + (p - x')) p (lit< tt) in
    let v_below : v < p = mod_below (l * t + (p - y)) p (lit< tt) in
    let u_le : u ≤ p = omega (arith, u_below) in
    let first : Same p (f + x) (l * l) = of_minus f (l * l) x x_below refl in
    let second : Same p (u + x') f = of_minus u f x' x'_le refl in
    let tu : Same p (t + u) x = of_minus t x u u_le refl in
    let height : Same p (v + y) (l * t) = of_minus v (l * t) y y_below refl in
    let s : Same p x (t + u) = back tu in
    let curve : Same p (y * y) ((t + u) * (t + u) * (t + u) + 7) = c.curve ⨟ plus (times (times s s) s) (at 7) in
    let line_there : Same p (2 * l * y + l * l * d) (3 * ((t + u) * (t + u)) + 3 * (t + u) * d + d * d) =
    line ⨟ plus (plus (times (at 3) (times s s)) (times (times (at 3) s) (at d))) (at (d * d)) in
    let turned : u + x' + x ≡ u + x + x' = omega arith in
    let sum : Same p (u + (t + u) + (t + u + d)) (l * l) =
    plus (plus (at u) tu) (plus tu (at d) ⨟ apart) ⨟ by (sym turned) ⨟ plus second (at x) ⨟ first in
    to_test u v (record { x_below = u_below; y_below = v_below; curve = third_point l d t u y v curve line_there sum height })

-- the tangent
double-curve : (x y : ℕ) → OnCurve x y → 0 < y → is_on_curve (double x y) ≡ true
unfolding double
double-curve x y c some =
    let l : ℕ = 3 * (x * x) * inverse p (2 * y) % p in
    let y_rest : y % p ≡ y = mod-eq_of_lt c.y_below in
    let twice_some : 0 < 2 * y % p = product_some p 2 y field_prime (lit< tt) (omega (arith, y_rest)) in
    let slope : Same p l (3 * (x * x) * inverse p (2 * y)) = of_mod (3 * (x * x) * inverse p (2 * y)) in
    let expanded : 2 * l * y + l * l * 0 ≡ l * (2 * y) = omega arith in
    let grouped : 3 * (x * x) * inverse p (2 * y) * (2 * y) ≡ 3 * (x * x) * (2 * y * inverse p (2 * y)) = omega arith in
    let single : 3 * (x * x) * 1 ≡ 3 * (x * x) + 3 * x * 0 + 0 * 0 = omega arith in
    let line : Same p (2 * l * y + l * l * 0) (3 * (x * x) + 3 * x * 0 + 0 * 0) =
    by expanded ⨟ times slope (at (2 * y)) ⨟ by grouped ⨟ times (at (3 * (x * x))) (inverse_is (2 * y) twice_some) ⨟ by single in
    let none : x + 0 ≡ x = omega arith in
    on_line-curve l 0 x y x c c.x_below (by none) line

-- the line of two points
chord-curve : (x y x' y' : ℕ) → OnCurve x y → OnCurve x' y' → (x ≡ x' → ⊥) → is_on_curve (chord x y x' y') ≡ true
unfolding chord
chord-curve x y x' y' c c' apart =
    let d : ℕ = minus p x' x in
    let e : ℕ = minus p y' y in
    let l : ℕ = e * inverse p d % p in
    let x_le : x ≤ p = omega (arith, c.x_below) in
    let y_le : y ≤ p = omega (arith, c.y_below) in
    let d_below : d < p = mod_below (x' + (p - x)) p (lit< tt) in
    let dx : Same p (d + x) x' = of_minus d x' x x_le refl in
    let ey : Same p (e + y) y' = of_minus e y' y y_le refl in
    let d_rest : d % p ≡ d = mod-eq_of_lt d_below in
    let d_some : 0 < d % p = elim (cases_lt 0 d) [
      | inl some ↦ omega (arith, d_rest)
      | inr none ↦
          let nothing : d ≡ 0 = omega arith in
          let plain : x ≡ 0 + x = omega arith in
          absurd (apart (to_one c.x_below c'.x_below (by plain ⨟ plus (by (sym nothing)) (at x) ⨟ dx)))
    ] in
    let slope : Same p l (e * inverse p d) = of_mod (e * inverse p d) in
    let grouped : e * inverse p d * d ≡ e * (d * inverse p d) = omega arith in
    let single : e * 1 ≡ e = omega arith in
    let ld : Same p (l * d) e = times slope (at d) ⨟ by grouped ⨟ times (at e) (inverse_is d d_some) ⨟ by single in
    let y'_is : Same p y' (l * d + y) = back ey ⨟ plus (back ld) (at y) in
    let x'_is : Same p x' (d + x) = back dx in
    let left : (2 * l * y + l * l * d) * d + y * y ≡ (l * d + y) * (l * d + y) = omega arith in
    let right : (d + x) * (d + x) * (d + x) + 7 ≡ (3 * (x * x) + 3 * x * d + d * d) * d + (x * x * x + 7) = omega arith in
    let both : Same p ((2 * l * y + l * l * d) * d + y * y) ((3 * (x * x) + 3 * x * d + d * d) * d + y * y) =
    by left ⨟ back (times y'_is y'_is) ⨟ c'.curve ⨟ plus (times (times x'_is x'_is) x'_is) (at 7) ⨟ by right
    ⨟ plus (at ((3 * (x * x) + 3 * x * d + d * d) * d)) (back c.curve) in
    let line : Same p (2 * l * y + l * l * d) (3 * (x * x) + 3 * x * d + d * d) =
    cancel p (2 * l * y + l * l * d) (3 * (x * x) + 3 * x * d + d * d) d field_prime d_some (less (y * y) (lit< tt) both) in
    let added : x + d ≡ d + x = omega arith in
    on_line-curve l d x y x' c c'.x_below (by added ⨟ dx) line

pub sum-curve : (P Q : Point) → is_on_curve P ≡ true → is_on_curve Q ≡ true → is_on_curve (P ⊕ Q) ≡ true
unfolding ◌⊕◌
sum-curve infinity Q first second = second
sum-curve (affine x y) infinity first second = first
sum-curve (affine x y) (affine x' y') first second =
    chosen (eqb x x') (eqb y y' && ltb 0 y) (double x y) (chord x y x' y')
    (λ test. let parts = and_parts (eqb y y') (ltb 0 y) test in double-curve x y (by_test x y first) (ltb-true 0 y parts.1))
    (λ test. chord-curve x y x' y' (by_test x y first) (by_test x' y' second) (eqb-false x x' test))
  where
    chosen : (same tangent : Bool) (D C : Point) → (tangent ≡ true → is_on_curve D ≡ true) → (same ≡ false → is_on_curve C ≡ true)
        → is_on_curve (cond same (cond tangent D infinity) C) ≡ true
    chosen true true D C twice line = twice refl
    chosen true false D C twice line = refl
    chosen false tangent D C twice line = line refl

pub multiple-curve : (bits k : ℕ) (P : Point) → is_on_curve P ≡ true → is_on_curve (multiple bits k P) ≡ true
unfolding multiple
multiple-curve zero k P h = refl
multiple-curve (suc bits) k P h =
    let M : Point = multiple bits (k / 2) P in
    let before : is_on_curve M ≡ true = multiple-curve bits (k / 2) P h in
    let even : is_on_curve (M ⊕ M) ≡ true = sum-curve M M before before in
    chosen (eqb (k % 2) 0) (M ⊕ M) (M ⊕ M ⊕ P) even (sum-curve (M ⊕ M) P even h)
  where
    chosen : (even : Bool) (E O : Point) → is_on_curve E ≡ true → is_on_curve O ≡ true → is_on_curve (cond even E O) ≡ true
    chosen true E O first second = first
    chosen false E O first second = second
