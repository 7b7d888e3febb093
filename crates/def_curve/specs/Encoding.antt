-- The bytes of a point (SEC 1, 2.3.3).
use Rattle.std.specs.Prelude.{ℕ, ◌+◌, ◌%◌, [], ◌∷◌, ◌++◌, Option, Some, None}
use Rattle.std.specs.Int.{bytes_high_first}
use Rattle.def_script.specs.Bytes.{Bytes}
use Rattle.def_curve.specs.Point.{Point, infinity, affine}
use Rattle.def_curve.specs.Key.{point_of}

-- the 32 bytes of a coordinate, the highest first (SEC 1, 2.3.5)
abbrev pub coordinate : ℕ → Bytes
coordinate x = bytes_high_first 32 x

-- 02 or 03 by the parity of y, and x; 00 of infinity
abbrev pub compressed : Point → Bytes
compressed infinity = 0 ∷ []
compressed (affine x y) = (2 + y % 2) ∷ coordinate x

-- 04, x and y; 00 of infinity
abbrev pub uncompressed : Point → Bytes
uncompressed infinity = 0 ∷ []
uncompressed (affine x y) = 4 ∷ (coordinate x ++ coordinate y)

abbrev pub uncompressed_if : Option Point → Option Bytes
uncompressed_if None = None
uncompressed_if (Some point) = Some (uncompressed point)

-- the point of a key, as 65 bytes
abbrev pub point_bytes : (key : Bytes) → Option Bytes
point_bytes key = uncompressed_if (point_of key)
