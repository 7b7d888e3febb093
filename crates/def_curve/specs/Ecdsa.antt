-- ECDSA: the check of a signature (SEC 1, 4.1.4).
use Rattle.std.specs.Prelude.{ℕ, ◌*◌, ◌%◌, ◌==◌, ◌&&◌, nat_lt, if◌then◌else◌, Bool, false}
use Rattle.def_curve.specs.Modular.{inverse}
use Rattle.def_curve.specs.Curve.{n}
use Rattle.def_curve.specs.Point.{Point, infinity, affine, ◌⊕◌, times, generator}

-- a number from 1 to n - 1
abbrev pub is_scalar : ℕ → Bool
is_scalar r = nat_lt 0 r && nat_lt r n

-- the point isn't infinity, and its x modulo n is r
abbrev pub has_x : Point → ℕ → Bool
has_x infinity r = false
has_x (affine x y) r = x % n == r

-- u1 * G + u2 * Q, with u1 = e / s and u2 = r / s modulo n
unfoldable pub sum_of : (key : Point) (e r s : ℕ) → Point
sum_of key e r s = let w = inverse n s in times (e * w % n) generator ⊕ times (r * w % n) key

-- whether r and s are a signature by the key of the hash that is the number e
unfoldable pub is_signature_by : (key : Point) (e r s : ℕ) → Bool
is_signature_by key e r s = let good = has_x (sum_of key e r s) r in if is_scalar r && is_scalar s then good else false
