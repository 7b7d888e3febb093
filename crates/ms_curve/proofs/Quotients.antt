-- The coordinates of a point, by the inverse of Z.
use Rattle.std.proofs.Common.{◌≡◌, ℕ, ◌*◌, ◌%◌, ◌<◌, refl, ◌∙◌, ap, arith}
use Rattle.def_curve.specs.Modular.{inverse}
use Rattle.def_curve.specs.Curve.{p}
use Rattle.def_curve.specs.Point.{Point, infinity, affine}
use Rattle.ms_prime_laws.proofs.Congruence.{Same, at, by, ◌⨟◌, times, of_eq, to_one}
use Rattle.ms_prime_laws.proofs.Inverses.{inverse_is}
use Rattle.ms_point.specs.Standing.{StandAt, StandFor}

pub at_infinity : (X Y Z : ℕ) → Z ≡ 0 → (P : Point) → StandFor X Y Z P → infinity ≡ P
at_infinity X Y Z none infinity h = refl
at_infinity X Y Z none (affine x y) h = absurd (omega (arith, none, h.z_some))

-- a multiple of Z by its inverse is gone
module _ (X Y Z w ww www x' y' x y : ℕ) (a : StandAt X Y Z x y) (z_below : Z < p) (w_is : w ≡ inverse p Z) (ww_is : ww ≡ w * w % p) (www_is : www ≡ ww * w % p)
    (x_is : x' ≡ X * ww % p) (y_is : y' ≡ Y * www % p) where
  unit : Same p (Z * w) 1
  unit =
      let some : 0 < Z % p = omega (arith, a.z_some, z_below) in
      times (at Z) (by w_is) ⨟ inverse_is Z some

  square : Same p (Z * Z * ww) 1
  square = times (at (Z * Z)) (of_eq ww (w * w) ww_is) ⨟ by (omega arith) ⨟ times unit unit

  cube : Same p (Z * Z * Z * www) 1
  cube = times (at (Z * Z * Z)) (of_eq www (ww * w) www_is) ⨟ by (omega arith) ⨟ times square unit

  x_same : Same p x' x
  x_same =
      of_eq x' (X * ww) x_is ⨟ times (of_eq X (x * (Z * Z)) a.x_is) (at ww) ⨟ by (omega arith) ⨟ times (at x) square ⨟ by (omega arith)

  y_same : Same p y' y
  y_same =
      of_eq y' (Y * www) y_is ⨟ times (of_eq Y (y * (Z * Z * Z)) a.y_is) (at www) ⨟ by (omega arith) ⨟ times (at y) cube ⨟ by (omega arith)

  same : affine x' y' ≡ affine x y
  same =
      let x_below : x' < p = omega (arith, x_is) in
      let y_below : y' < p = omega (arith, y_is) in
      ap (λ z. affine z y') (to_one x_below a.x_below x_same) ∙ ap (λ z. affine x z) (to_one y_below a.y_below y_same)

pub at_coordinates : (X Y Z w ww www x' y' : ℕ) → 0 < Z → Z < p → w ≡ inverse p Z → ww ≡ w * w % p → www ≡ ww * w % p → x' ≡ X * ww % p → y' ≡ Y * www % p
    → (P : Point) → StandFor X Y Z P → affine x' y' ≡ P
at_coordinates X Y Z w ww www x' y' some below w_is ww_is www_is x_is y_is infinity h = absurd (omega (arith, some, h))
at_coordinates X Y Z w ww www x' y' some below w_is ww_is www_is x_is y_is (affine x y) h = same X Y Z w ww www x' y' x y h below w_is ww_is www_is x_is y_is
