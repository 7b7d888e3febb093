-- Which point three numbers stand for (Jacobian coordinates: x is X / Z ^ 2, and y is Y / Z ^ 3, modulo p).
use Rattle.std.specs.Prelude.{◌≡◌, ℕ, ◌*◌, ◌%◌, ◌<◌}
use Rattle.def_curve.specs.Curve.{p}
use Rattle.def_curve.specs.Point.{Point, infinity, affine}
use Rattle.ms_field.specs.Limbs.{value}
use Rattle.ms_point.specs.declared.point.Jacobian.{Jacobian}
use Rattle.ms_point.specs.declared.point.Affine.{Affine}

-- they stand for a point with coordinates below p
pub record StandAt (X Y Z x y : ℕ) : Type 0 where
  pub x_below : x < p
  pub y_below : y < p
  pub z_some : 0 < Z
  pub x_is : X ≡ x * (Z * Z) % p
  pub y_is : Y ≡ y * (Z * Z * Z) % p

-- infinity has 0 for Z
abbrev pub StandFor : (X Y Z : ℕ) → Point → Type 0
StandFor X Y Z infinity = Z ≡ 0
StandFor X Y Z (affine x y) = StandAt X Y Z x y

abbrev pub StandsFor : Jacobian → Point → Type 0
StandsFor a P = StandFor (value a.x) (value a.y) (value a.z) P

-- each of the three is below p
pub record IsReduced (a : Jacobian) : Type 0 where
  pub x : value a.x < p
  pub y : value a.y < p
  pub z : value a.z < p

-- the point with two coordinates
abbrev pub point_at : Affine → Point
point_at a = affine (value a.x) (value a.y)

-- both of them are below p
pub record IsAffine (a : Affine) : Type 0 where
  pub x : value a.x < p
  pub y : value a.y < p
