-- How what the code hands out is read.
use Rattle.std.specs.Prelude.{Option, Some, None}
use Rattle.def_curve.specs.Point.{Point, infinity}
use Rattle.ms_point.specs.declared.point.Affine.{Affine}
use Rattle.ms_point.specs.Standing.{point_at}

-- the point that was found, if any
abbrev pub found : Option Affine → Option Point
found None = None
found (Some point) = Some (point_at point)

-- the point that has coordinates, or infinity, which has none
abbrev pub point_or_infinity : Option Affine → Point
point_or_infinity None = infinity
point_or_infinity (Some point) = point_at point
