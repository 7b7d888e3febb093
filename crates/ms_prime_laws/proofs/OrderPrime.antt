-- The order of secp256k1's generator is a prime: a chain of certificates, from small primes up.
use Rattle.std.proofs.Common.{refl, lit<}
use Rattle.def_curve.specs.Modular.{power}
use Rattle.def_curve.specs.Curve.{n}
use Rattle.ms_prime_laws.specs.Prime.{IsPrime}
use Rattle.ms_prime_laws.proofs.Pocklington.{before, join, prime_by, prime_by_trial, undivided}

first : IsPrime 9349
unfolding undivided
first = prime_by_trial 9349 95 (lit< tt) (lit< tt) refl

second : IsPrime 28181
unfolding undivided
second = prime_by_trial 28181 166 (lit< tt) (lit< tt) refl

third : IsPrime 120233
unfolding undivided
third = prime_by_trial 120233 345 (lit< tt) (lit< tt) refl

fourth : IsPrime 1627771
unfolding undivided
fourth = prime_by_trial 1627771 1274 (lit< tt) (lit< tt) refl

fifth : IsPrime 297159362677
unfolding power
fifth = prime_by 297159362677 1627771 (lit< tt) (lit< tt)
    (before 297159362677 1627771
    114170894341
    44169280672
    21 fourth (lit< tt) (lit< tt) (lit< tt) refl refl)

sixth : IsPrime 545358713
unfolding power
sixth = prime_by 545358713 28181 (lit< tt) (lit< tt)
    (before 545358713 28181
    420071726
    160797069
    15 second (lit< tt) (lit< tt) (lit< tt) refl refl)

seventh : IsPrime 29047611873442575647497758179
unfolding power
seventh = prime_by 29047611873442575647497758179 162058447585428954701 (lit< tt) (lit< tt)
    (join 29047611873442575647497758179 297159362677 545358713
    (before 29047611873442575647497758179 297159362677
    16062460713643416818883781819
    7881196461825673388358983901
    39 fifth (lit< tt) (lit< tt) (lit< tt) refl refl)
    (before 29047611873442575647497758179 545358713
    1548700731856248688196814844
    9643653164146849936640551407
    30 sixth (lit< tt) (lit< tt) (lit< tt) refl refl)
    sixth (lit< tt) (lit< tt))

eighth : IsPrime 341948486974166000522343609283189
unfolding power
eighth = prime_by 341948486974166000522343609283189 29047611873442575647497758179 (lit< tt) (lit< tt)
    (before 341948486974166000522343609283189 29047611873442575647497758179
    291782875431971620014836968593543
    230912421032721991545077801069578
    95 seventh (lit< tt) (lit< tt) (lit< tt) refl refl)

ninth : IsPrime 44706919
unfolding power
ninth = prime_by 44706919 9349 (lit< tt) (lit< tt)
    (before 44706919 9349
    24793509
    35850462
    14 first (lit< tt) (lit< tt) (lit< tt) refl refl)

tenth : IsPrime 174723607534414371449
unfolding power
tenth = prime_by 174723607534414371449 5375246992127 (lit< tt) (lit< tt)
    (join 174723607534414371449 44706919 120233
    (before 174723607534414371449 44706919
    69188669156729060297
    97513711501333925610
    26 ninth (lit< tt) (lit< tt) (lit< tt) refl refl)
    (before 174723607534414371449 120233
    97784642313376440036
    14283963398578376782
    17 third (lit< tt) (lit< tt) (lit< tt) refl refl)
    third (lit< tt) (lit< tt))

pub order_prime : IsPrime n
unfolding power
order_prime = prime_by n 59746473235060985162263246577491932178200490877270861 (lit< tt) (lit< tt)
    (join n 341948486974166000522343609283189 174723607534414371449
    (before n 341948486974166000522343609283189
    86644313145397489891193855759928671818841495415153161568930588450251036589538
    57112704531168816596589732607440886458891436705097388389849158079043094771009
    109 eighth (lit< tt) (lit< tt) (lit< tt) refl refl)
    (before n 174723607534414371449
    58138579787377535003503259606714116115479494849592057519620557805018937774448
    82825258999207434266669200773575514537865192807825383256844795767869923999078
    68 tenth (lit< tt) (lit< tt) (lit< tt) refl refl)
    tenth (lit< tt) (lit< tt))
