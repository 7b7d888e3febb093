-- What the definitions imply.
use Rattle.std.specs.Prelude.{◌≡◌, ℕ, ◌*◌, ◌%◌, ◌^◌, ◌<◌}
use Rattle.def_curve.specs.Modular.{inverse}
use Rattle.def_curve.specs.Curve.{p, n}
use Rattle.ms_prime_laws.specs.Prime.{IsPrime}

-- p is a prime
abbrev pub FieldPrimeIsPrime : Type 0
FieldPrimeIsPrime = IsPrime p

-- n is a prime
abbrev pub OrderIsPrime : Type 0
OrderIsPrime = IsPrime n

-- modulo a prime of at most 256 bits, as both are, a number that isn't 0 times its inverse is 1
abbrev pub InverseIsInverse : Type 0
InverseIsInverse = (m a : ℕ) → IsPrime m → m < 2 ^ 256 → 0 < a % m → a * inverse m a % m ≡ 1
