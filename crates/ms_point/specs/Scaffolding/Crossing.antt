-- What the addition of two points finds out first.
use Rattle.std.specs.Prelude.{◌≡◌, ℕ, ◌+◌, ◌*◌, ◌%◌, ◌<◌}
use Rattle.def_curve.specs.Curve.{p}
use Rattle.ms_point.specs.Standing.{StandAt}

-- H and R are the differences of the x and of the y of two points, times Z ^ 2 and times Z ^ 3, and H isn't 0
pub record Crosses (X Y Z H R x y x' y' : ℕ) : Type 0 where
  pub first : StandAt X Y Z x y
  pub x_below : x' < p
  pub y_below : y' < p
  pub h_some : 0 < H
  pub h_is : (H + X) % p ≡ x' * (Z * Z) % p
  pub r_is : (R + Y) % p ≡ y' * (Z * Z * Z) % p

-- H and R are such differences of a point that X, Y and Z stand for, and of another one
pub record Differs (X Y Z H R x' y' : ℕ) : Type 0 where
  pub x_below : x' < p
  pub y_below : y' < p
  pub h_below : H < p
  pub r_below : R < p
  pub h_is : (H + X) % p ≡ x' * (Z * Z) % p
  pub r_is : (R + Y) % p ≡ y' * (Z * Z * Z) % p
