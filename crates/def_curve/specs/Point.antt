-- Points, their sum and their multiples (SEC 1, 2.2.1).
use Rattle.std.specs.Prelude.{ℕ, zero, suc, ◌+◌, ◌*◌, ◌/◌, ◌%◌, ◌==◌, ◌&&◌, nat_lt, if◌then◌else◌, Bool, true}
use Rattle.def_curve.specs.Modular.{minus, inverse}
use Rattle.def_curve.specs.Curve.{p, generator_x, generator_y}

-- the point at infinity, or one with two coordinates
pub data Point : Type 0 where
  infinity : Point
  affine : (x y : ℕ) → Point

-- whether a point is on the curve
abbrev pub is_on_curve : Point → Bool
is_on_curve infinity = true
is_on_curve (affine x y) = nat_lt x p && nat_lt y p && (y * y % p == (x * x * x + 7) % p)

abbrev pub generator : Point
generator = affine generator_x generator_y

-- the third point of a line through (x, y) that meets the curve at x' too, mirrored
unfoldable pub on_line : (slope x y x' : ℕ) → Point
on_line slope x y x' = let third = minus p (minus p (slope * slope) x) x' in affine third (minus p (slope * minus p x third) y)

-- twice a point: by the tangent, whose slope is 3 x ^ 2 / (2 y)
unfoldable pub double : (x y : ℕ) → Point
double x y = on_line (3 * (x * x) * inverse p (2 * y) % p) x y x

-- the sum of points with two different x: by their line, whose slope is (y' - y) / (x' - x)
unfoldable pub chord : (x y x' y' : ℕ) → Point
chord x y x' y' = on_line (minus p y' y * inverse p (minus p x' x) % p) x y x'

-- the sum of two points: those of one x are the same one or opposite
infixl 20 ◌⊕◌
unfoldable pub ◌⊕◌ : Point → Point → Point
infinity ⊕ Q = Q
affine x y ⊕ infinity = affine x y
affine x y ⊕ affine x' y' =
    let twice = double x y in
    let sum = chord x y x' y' in
    if x == x' then (if (y == y') && nat_lt 0 y then twice else infinity) else sum

-- k times a point, of k with so many bits, the highest first: twice the multiple by all bits but the last, and the point where that is 1
unfoldable pub multiple : (bits k : ℕ) → Point → Point
multiple zero k P = infinity
multiple (suc bits) k P =
    let half = multiple bits (k / 2) P in
    let even = half ⊕ half in
    let odd = even ⊕ P in
    if k % 2 == 0 then even else odd

-- k times a point, of k below 2 ^ 256
abbrev pub times : (k : ℕ) → Point → Point
times k P = multiple 256 k P
