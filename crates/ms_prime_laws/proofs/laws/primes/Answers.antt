-- The certificates, and what follows from them.
use Rattle.ms_prime_laws.proofs.FieldPrime.{field_prime}
use Rattle.ms_prime_laws.proofs.OrderPrime.{order_prime}
use Rattle.ms_prime_laws.proofs.Inverses.{inverse_is_inverse}
use Rattle.ms_prime_laws.proofs.laws.primes.Goals as goal

pub returns-clause-prime : goal.returns-clause-prime
returns-clause-prime c = field_prime

pub returns-clause-order : goal.returns-clause-order
returns-clause-order c = order_prime

pub returns-clause-inverse : goal.returns-clause-inverse
returns-clause-inverse c = inverse_is_inverse
