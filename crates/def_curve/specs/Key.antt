-- The point of a compressed key (SEC 1, 2.3.4).
use Rattle.std.specs.Prelude.{ℕ, ◌+◌, ◌-◌, ◌*◌, ◌/◌, ◌%◌, ◌==◌, ◌&&◌, ◌||◌, nat_lt, if◌then◌else◌, [], ◌∷◌, length, fold, Option, Some, None}
use Rattle.def_script.specs.Bytes.{Bytes}
use Rattle.def_curve.specs.Modular.{minus, power}
use Rattle.def_curve.specs.Curve.{p}
use Rattle.def_curve.specs.Point.{Point, affine}

-- the number of some bytes, the highest first (SEC 1, 2.3.8)
abbrev pub number_of : Bytes → ℕ
number_of bytes = fold (λ value byte. 256 * value + byte) 0 bytes

-- the square root of a number modulo p, if it has one: p is 3 modulo 4
abbrev pub root : ℕ → ℕ
root w = power p 256 w ((p + 1) / 4)

-- the point with the given x and the parity of its y, if there is one
unfoldable pub lift : (x parity : ℕ) → Option Point
lift x parity =
    let w = (x * x * x + 7) % p in
    let y = root w in
    if nat_lt x p && (y * y % p == w) then Some (affine x (if y % 2 == parity then y else minus p 0 y)) else None

-- the point of a key: 33 bytes, 02 or 03 by the parity of y, and x
abbrev pub point_of : Bytes → Option Point
point_of [] = None
point_of (first ∷ rest) = if (length rest == 32) && ((first == 2) || (first == 3)) then lift (number_of rest) (first - 2) else None
