-- Inverses modulo the prime of secp256k1's field.
use Rattle.std.proofs.Common.{◌≡◌, ℕ, suc, ◌-◌, ◌*◌, ◌%◌, ◌^◌, ◌<◌, sym, ◌∙◌, ap, lit<, arith}
use Rattle.std.proofs.Math.Nat.{pow-suc, mod-eq_of_lt}
use Rattle.def_curve.specs.Modular.{power, inverse}
use Rattle.def_curve.specs.Curve.{p}
use Rattle.ms_prime_laws.specs.Prime.{IsPrime}
use Rattle.ms_prime_laws.specs.Laws.{InverseIsInverse}
use Rattle.ms_prime_laws.proofs.Congruence.{Same, at, by, ◌⨟◌, times}
use Rattle.ms_prime_laws.proofs.Fermat.{fermat_unit}
use Rattle.ms_prime_laws.proofs.Powers.{power-same}
use Rattle.ms_prime_laws.proofs.FieldPrime.{field_prime}

-- a to the power of q - 2 is 1 / a modulo a prime q
inverse_by : (q a : ℕ) → IsPrime q → q < 2 ^ 256 → 0 < a % q → Same q (a * power q 256 a (q - 2)) 1
inverse_by q a prime short some =
    let sum : suc (q - 2) ≡ q - 1 = omega (arith, prime.above) in
    let turned : a * a ^ (q - 2) ≡ a ^ (q - 2) * a = omega arith in
    times (at a) (power-same q 256 a (q - 2) (omega arith)) ⨟ by (turned ∙ sym (pow-suc a (q - 2)) ∙ ap (λ k. a ^ k) sum) ⨟ fermat_unit q a prime some

pub inverse_is : (a : ℕ) → 0 < a % p → Same p (a * inverse p a) 1
inverse_is a some = inverse_by p a field_prime (lit< tt) some

pub inverse_is_inverse : InverseIsInverse
inverse_is_inverse m a prime short some = (inverse_by m a prime short some).same ∙ mod-eq_of_lt {n = 1} {m = m} prime.above
