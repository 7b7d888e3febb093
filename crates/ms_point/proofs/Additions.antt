-- The sum of two points, case by case, and what stands for it.
use Rattle.std.proofs.Common.{◌≡◌, ℕ, ◌+◌, ◌*◌, ◌%◌, ◌<◌, ◌≤◌, refl, sym, ◌∙◌, ap, subst, inl, inr, arith, eqb, true, false, eq-eqb}
use Rattle.std.proofs.lemmas.Bool.{cases_lt, lt-ltb, le-ltb, ne_eqb, eqb-true, eqb-false}
use Rattle.def_curve.specs.Curve.{p}
use Rattle.def_curve.specs.Point.{Point, infinity, affine, ◌⊕◌, double, chord}
use Rattle.ms_prime_laws.proofs.Congruence.{Same, at, by, back, ◌⨟◌, times, less, of_eq, to_eq, to_one}
use Rattle.ms_prime_laws.proofs.Euclid.{product_some, cancel}
use Rattle.ms_prime_laws.proofs.FieldPrime.{field_prime}
use Rattle.ms_point.specs.Standing.{StandAt, StandFor}
use Rattle.ms_point.specs.Scaffolding.Crossing.{Crosses, Differs}
use Rattle.ms_point.proofs.Coordinates.{Doubled, doubled_infinity, doubled_flat, doubled_stands, x_same, y_same, some_mod}

pub sum_nothing : (P : Point) → P ⊕ infinity ≡ P
unfolding ◌⊕◌
sum_nothing infinity = refl
sum_nothing (affine x y) = refl

pub sum_from_nothing : (P : Point) → infinity ⊕ P ≡ P
unfolding ◌⊕◌
sum_from_nothing P = refl

sum_double : (x y : ℕ) → 0 < y → affine x y ⊕ affine x y ≡ double x y
unfolding ◌⊕◌
sum_double x y some = rw (eq-eqb x x refl, eq-eqb y y refl, lt-ltb 0 y some) refl

sum_flat : (x y : ℕ) → y ≤ 0 → affine x y ⊕ affine x y ≡ infinity
unfolding ◌⊕◌
sum_flat x y none = rw (eq-eqb x x refl, eq-eqb y y refl, le-ltb 0 y none) refl

pub sum_chord : (x y x' y' : ℕ) → (x ≡ x' → ⊥) → affine x y ⊕ affine x' y' ≡ chord x y x' y'
unfolding ◌⊕◌
sum_chord x y x' y' apart = rw (ne_eqb x x' apart) refl

pub sum_opposite : (x y y' : ℕ) → (y ≡ y' → ⊥) → affine x y ⊕ affine x y' ≡ infinity
unfolding ◌⊕◌
sum_opposite x y y' apart = rw (eq-eqb x x refl, ne_eqb y y' apart) refl

-- what doubling computes stands for the sum of a point and itself
pub twice : (X Y Z X3 Y3 Z3 : ℕ) → Doubled X Y Z X3 Y3 Z3 → Z < p → (P : Point) → StandFor X Y Z P → StandFor X3 Y3 Z3 (P ⊕ P)
twice X Y Z X3 Y3 Z3 c below infinity h =
    subst (λ (Q : Point). StandFor X3 Y3 Z3 Q) (sym (sum_nothing infinity)) (doubled_infinity X Y Z X3 Y3 Z3 c h)
twice X Y Z X3 Y3 Z3 c below (affine x y) h =
    elim (cases_lt 0 y) [
      | inl some ↦ subst (λ (Q : Point). StandFor X3 Y3 Z3 Q) (sym (sum_double x y some)) (doubled_stands X Y Z X3 Y3 Z3 x y c h below some)
      | inr none ↦ subst (λ (Q : Point). StandFor X3 Y3 Z3 Q) (sym (sum_flat x y none)) (doubled_flat X Y Z X3 Y3 Z3 x y c h (omega arith))
    ]

-- a number times Z ^ 2 is another one times Z ^ 2 where both are the same
module _ (Z : ℕ) (z_below : Z < p) (z_some : 0 < Z) where
  zz_some : 0 < Z * Z % p
  zz_some = product_some p Z Z field_prime (some_mod Z z_below z_some) (some_mod Z z_below z_some)

  zzz_some : 0 < Z * Z * Z % p
  zzz_some = product_some p (Z * Z) Z field_prime zz_some (some_mod Z z_below z_some)

  pub same_x : (x x' : ℕ) → x < p → x' < p → Same p (x * (Z * Z)) (x' * (Z * Z)) → x ≡ x'
  same_x x x' below below' s = to_one below below' (cancel p x x' (Z * Z) field_prime zz_some s)

  pub same_y : (y y' : ℕ) → y < p → y' < p → Same p (y * (Z * Z * Z)) (y' * (Z * Z * Z)) → y ≡ y'
  same_y y y' below below' s = to_one below below' (cancel p y y' (Z * Z * Z) field_prime zzz_some s)

-- what the differences are, as congruences
h_same : (X Y Z H R x' y' : ℕ) → Differs X Y Z H R x' y' → Same p (H + X) (x' * (Z * Z))
h_same X Y Z H R x' y' d = record { same = d.h_is }

r_same : (X Y Z H R x' y' : ℕ) → Differs X Y Z H R x' y' → Same p (R + Y) (y' * (Z * Z * Z))
r_same X Y Z H R x' y' d = record { same = d.r_is }

-- two points have one x exactly where the first difference is 0
pub x_differs : (X Y Z H R x y x' y' : ℕ) → Differs X Y Z H R x' y' → StandAt X Y Z x y → Z < p → 0 < H → x ≡ x' → ⊥
x_differs X Y Z H R x y x' y' d a below some e =
    let scaled : Same p (x' * (Z * Z)) (x * (Z * Z)) = by (ap (λ z. z * (Z * Z)) (sym e)) in
    let none : X ≡ 0 + X = omega arith in
    let zeroed : Same p H 0 = less X (omega arith) (h_same X Y Z H R x' y' d ⨟ scaled ⨟ back (x_same X Y Z x y a) ⨟ by none) in
    let nothing : H ≡ 0 = to_one d.h_below (omega arith) zeroed in
    omega arith

pub x_is_same : (X Y Z H R x y x' y' : ℕ) → Differs X Y Z H R x' y' → StandAt X Y Z x y → Z < p → H ≡ 0 → x ≡ x'
x_is_same X Y Z H R x y x' y' d a below none =
    let plain : X ≡ H + X = omega arith in
    same_x Z below a.z_some x x' a.x_below d.x_below (back (x_same X Y Z x y a) ⨟ by plain ⨟ h_same X Y Z H R x' y' d)

pub y_differs : (X Y Z H R x y x' y' : ℕ) → Differs X Y Z H R x' y' → StandAt X Y Z x y → Z < p → 0 < R → y ≡ y' → ⊥
y_differs X Y Z H R x y x' y' d a below some e =
    let scaled : Same p (y' * (Z * Z * Z)) (y * (Z * Z * Z)) = by (ap (λ z. z * (Z * Z * Z)) (sym e)) in
    let none : Y ≡ 0 + Y = omega arith in
    let zeroed : Same p R 0 = less Y (omega arith) (r_same X Y Z H R x' y' d ⨟ scaled ⨟ back (y_same X Y Z x y a) ⨟ by none) in
    let nothing : R ≡ 0 = to_one d.r_below (omega arith) zeroed in
    omega arith

pub y_is_same : (X Y Z H R x y x' y' : ℕ) → Differs X Y Z H R x' y' → StandAt X Y Z x y → Z < p → R ≡ 0 → y ≡ y'
y_is_same X Y Z H R x y x' y' d a below none =
    let plain : Y ≡ R + Y = omega arith in
    same_y Z below a.z_some y y' a.y_below d.y_below (back (y_same X Y Z x y a) ⨟ by plain ⨟ r_same X Y Z H R x' y' d)

-- infinity and an affine point
pub added_to_infinity : (X Y Z X3 Y3 Z3 x' y' : ℕ) → Z ≡ 0 → StandAt X3 Y3 Z3 x' y' → (P : Point) → StandFor X Y Z P → StandFor X3 Y3 Z3 (P ⊕ affine x' y')
added_to_infinity X Y Z X3 Y3 Z3 x' y' none a infinity h = subst (λ (Q : Point). StandFor X3 Y3 Z3 Q) (sym (sum_from_nothing (affine x' y'))) a
added_to_infinity X Y Z X3 Y3 Z3 x' y' none a (affine x y) h = absurd (omega (arith, h.z_some))

-- two points with different x
pub added_by_line : (X Y Z H R X3 Y3 Z3 x' y' : ℕ) → Differs X Y Z H R x' y' → 0 < Z → Z < p → 0 < H
    → ((x y x' y' : ℕ) → Crosses X Y Z H R x y x' y' → StandFor X3 Y3 Z3 (chord x y x' y')) → (P : Point) → StandFor X Y Z P → StandFor X3 Y3 Z3 (P ⊕ affine x' y')
added_by_line X Y Z H R X3 Y3 Z3 x' y' d some below h_some line infinity h = absurd (omega arith)
added_by_line X Y Z H R X3 Y3 Z3 x' y' d some below h_some line (affine x y) h =
    let crosses : Crosses X Y Z H R x y x' y' = record { first = h; x_below = d.x_below; y_below = d.y_below; h_some = h_some; h_is = d.h_is; r_is = d.r_is } in
    subst (λ (Q : Point). StandFor X3 Y3 Z3 Q) (sym (sum_chord x y x' y' (x_differs X Y Z H R x y x' y' d h below h_some))) (line x y x' y' crosses)

-- a point and itself
pub added_to_itself : (X Y Z H R X3 Y3 Z3 x' y' : ℕ) → Differs X Y Z H R x' y' → 0 < Z → Z < p → H ≡ 0 → R ≡ 0
    → ((P : Point) → StandFor X Y Z P → StandFor X3 Y3 Z3 (P ⊕ P)) → (P : Point) → StandFor X Y Z P → StandFor X3 Y3 Z3 (P ⊕ affine x' y')
added_to_itself X Y Z H R X3 Y3 Z3 x' y' d some below h_none r_none whole infinity h = absurd (omega arith)
added_to_itself X Y Z H R X3 Y3 Z3 x' y' d some below h_none r_none whole (affine x y) h =
    let x_same : x ≡ x' = x_is_same X Y Z H R x y x' y' d h below h_none in
    let y_same : y ≡ y' = y_is_same X Y Z H R x y x' y' d h below r_none in
    let points : affine x y ≡ affine x' y' = ap (λ z. affine z y) x_same ∙ ap (λ z. affine x' z) y_same in
    subst (λ (Q : Point). StandFor X3 Y3 Z3 (affine x y ⊕ Q)) points (whole (affine x y) h)

-- a point and its opposite
pub added_to_opposite : (X Y Z H R X3 Y3 Z3 x' y' : ℕ) → Differs X Y Z H R x' y' → 0 < Z → Z < p → H ≡ 0 → 0 < R → Z3 ≡ 0
    → (P : Point) → StandFor X Y Z P → StandFor X3 Y3 Z3 (P ⊕ affine x' y')
added_to_opposite X Y Z H R X3 Y3 Z3 x' y' d some below h_none r_some none infinity h = absurd (omega arith)
added_to_opposite X Y Z H R X3 Y3 Z3 x' y' d some below h_none r_some none (affine x y) h =
    let x_same : x ≡ x' = x_is_same X Y Z H R x y x' y' d h below h_none in
    let apart : y ≡ y' → ⊥ = y_differs X Y Z H R x y x' y' d h below r_some in
    let sum : affine x y ⊕ affine x' y' ≡ infinity = ap (λ z. affine x y ⊕ affine z y') (sym x_same) ∙ sum_opposite x y y' apart in
    subst (λ (Q : Point). StandFor X3 Y3 Z3 Q) (sym sum) none

-- of a Z that isn't 0, times another number that isn't
pub scaled_some : (Z W Z' : ℕ) → Z' ≡ Z * W % p → 0 < Z → Z < p → 0 < W → W < p → 0 < Z'
scaled_some Z W Z' z_is z_some z_below w_some w_below =
    let whole : 0 < Z * W % p = product_some p Z W field_prime (some_mod Z z_below z_some) (some_mod W w_below w_some) in
    omega (arith, z_is, whole)

-- a point with its Z times another number
pub scaled_stands : (X Y Z W X' Y' Z' : ℕ) → X' ≡ X * (W * W) % p → Y' ≡ Y * (W * W * W) % p → Z' ≡ Z * W % p → Z < p → 0 < W → W < p
    → (P : Point) → StandFor X Y Z P → StandFor X' Y' Z' P
scaled_stands X Y Z W X' Y' Z' x_is y_is z_is z_below w_some w_below infinity h =
    let none : Z * W ≡ 0 = ap (λ z. z * W) h ∙ (omega arith) in
    z_is ∙ ap (λ z. z % p) none
scaled_stands X Y Z W X' Y' Z' x_is y_is z_is z_below w_some w_below (affine x y) h =
    let z' : Same p Z' (Z * W) = of_eq Z' (Z * W) z_is in
    let x_grouped : x * (Z * Z) * (W * W) ≡ x * (Z * W * (Z * W)) = omega arith in
    let y_grouped : y * (Z * Z * Z) * (W * W * W) ≡ y * (Z * W * (Z * W) * (Z * W)) = omega arith in
    let x_below : X' < p = omega (arith, x_is) in
    let y_below : Y' < p = omega (arith, y_is) in
    record {
      x_below = h.x_below;
      y_below = h.y_below;
      z_some = scaled_some Z W Z' z_is h.z_some z_below w_some w_below;
      x_is = to_eq x_below (of_eq X' (X * (W * W)) x_is ⨟ times (x_same X Y Z x y h) (at (W * W)) ⨟ by x_grouped ⨟ times (at x) (times (back z') (back z')));
      y_is = to_eq y_below (of_eq Y' (Y * (W * W * W)) y_is ⨟ times (y_same X Y Z x y h) (at (W * W * W)) ⨟ by y_grouped ⨟ times (at y) (times (times (back z') (back z')) (back z')));
    }

-- the sum of a point that was scaled by the Z of another one, W, and that one
pub added_points : (Z W X' Y' Z' H R X2 Y2 X3 Y3 Z3 : ℕ) → Z' ≡ Z * W % p → 0 < W → H < p → R < p → Same p (H + X') (X2 * (Z * Z)) → Same p (R + Y') (Y2 * (Z * Z * Z))
    → ((x y : ℕ) → Differs X' Y' Z' H R x y → (P : Point) → StandFor X' Y' Z' P → StandFor X3 Y3 Z3 (P ⊕ affine x y))
    → (P Q : Point) → StandFor X' Y' Z' P → StandFor X2 Y2 W Q → StandFor X3 Y3 Z3 (P ⊕ Q)
added_points Z W X' Y' Z' H R X2 Y2 X3 Y3 Z3 z_is w_some h_below r_below h_is r_is sum P infinity first second = absurd (omega (arith, second))
added_points Z W X' Y' Z' H R X2 Y2 X3 Y3 Z3 z_is w_some h_below r_below h_is r_is sum P (affine x y) first second =
    let z' : Same p Z' (Z * W) = of_eq Z' (Z * W) z_is in
    let x_grouped : x * (W * W) * (Z * Z) ≡ x * (Z * W * (Z * W)) = omega arith in
    let y_grouped : y * (W * W * W) * (Z * Z * Z) ≡ y * (Z * W * (Z * W) * (Z * W)) = omega arith in
    let h : Same p (H + X') (x * (Z' * Z')) = h_is ⨟ times (x_same X2 Y2 W x y second) (at (Z * Z)) ⨟ by x_grouped ⨟ times (at x) (times (back z') (back z')) in
    let r : Same p (R + Y') (y * (Z' * Z' * Z')) =
    r_is ⨟ times (y_same X2 Y2 W x y second) (at (Z * Z * Z)) ⨟ by y_grouped ⨟ times (at y) (times (times (back z') (back z')) (back z')) in
    sum x y (record { x_below = second.x_below; y_below = second.y_below; h_below = h_below; r_below = r_below; h_is = h.same; r_is = r.same }) P first

-- infinity and another point
pub added_nothing : (X Y Z X2 Y2 : ℕ) (P Q : Point) (W : ℕ) → W ≡ 0 → StandFor X Y Z P → StandFor X2 Y2 W Q → StandFor X Y Z (P ⊕ Q)
added_nothing X Y Z X2 Y2 P infinity W none first second = subst (λ (R : Point). StandFor X Y Z R) (sym (sum_nothing P)) first
added_nothing X Y Z X2 Y2 P (affine x y) W none first second = absurd (omega (arith, none, second.z_some))

pub added_to_nothing : (X Y Z X2 Y2 : ℕ) (P Q : Point) (W : ℕ) → W ≡ 0 → StandFor X2 Y2 W P → StandFor X Y Z Q → StandFor X Y Z (P ⊕ Q)
added_to_nothing X Y Z X2 Y2 infinity Q W none first second = subst (λ (R : Point). StandFor X Y Z R) (sym (sum_from_nothing Q)) second
added_to_nothing X Y Z X2 Y2 (affine x y) Q W none first second = absurd (omega (arith, none, first.z_some))

-- what a test for 0 says
pub none_by_test : (a : ℕ) → eqb a 0 ≡ true → a ≡ 0
none_by_test a e = eqb-true a 0 e

pub some_by_test : (a : ℕ) → eqb a 0 ≡ false → 0 < a
some_by_test a e = let apart : a ≡ 0 → ⊥ = eqb-false a 0 e in elim (cases_lt 0 a) [ inl pos ↦ pos | inr none ↦ absurd (apart (omega arith)) ]
