-- The prime of secp256k1's field is a prime: a chain of certificates, from small primes up.
use Rattle.std.proofs.Common.{refl, lit<}
use Rattle.def_curve.specs.Modular.{power}
use Rattle.def_curve.specs.Curve.{p}
use Rattle.ms_prime_laws.specs.Prime.{IsPrime}
use Rattle.ms_prime_laws.proofs.Pocklington.{before, join, prime_by, prime_by_trial, undivided}

seven : IsPrime 7
unfolding undivided
seven = prime_by_trial 7 1 (lit< tt) (lit< tt) refl

twenty_nine : IsPrime 29
unfolding undivided
twenty_nine = prime_by_trial 29 4 (lit< tt) (lit< tt) refl

fifty_three : IsPrime 53
unfolding undivided
fifty_three = prime_by_trial 53 6 (lit< tt) (lit< tt) refl

first : IsPrime 96557
unfolding undivided
first = prime_by_trial 96557 309 (lit< tt) (lit< tt) refl

second : IsPrime 1206781
unfolding undivided
second = prime_by_trial 1206781 1097 (lit< tt) (lit< tt) refl

third : IsPrime 107590001
unfolding power
third = prime_by 107590001 10759 (lit< tt) (lit< tt)
    (join 107590001 1537 7
    (join 107590001 53 29
    (before 107590001 53
    26896163
    75712971
    6 fifty_three (lit< tt) (lit< tt) (lit< tt) refl refl)
    (before 107590001 29
    68236646
    100085220
    5 twenty_nine (lit< tt) (lit< tt) (lit< tt) refl refl)
    twenty_nine (lit< tt) (lit< tt))
    (before 107590001 7
    95730224
    4923006
    3 seven (lit< tt) (lit< tt) (lit< tt) refl refl)
    seven (lit< tt) (lit< tt))

fourth : IsPrime 7240687
unfolding power
fourth = prime_by 7240687 1206781 (lit< tt) (lit< tt)
    (before 7240687 1206781
    64
    5746577
    21 second (lit< tt) (lit< tt) (lit< tt) refl refl)

fifth : IsPrime 255515944373312847190720520512484175977
unfolding power
fifth = prime_by 255515944373312847190720520512484175977 75220367286300824659 (lit< tt) (lit< tt)
    (join 255515944373312847190720520512484175977 779025521570687 96557
    (join 255515944373312847190720520512484175977 107590001 7240687
    (before 255515944373312847190720520512484175977 107590001
    82381214149343919061612748413412685903
    235081362755335172132203715226758066727
    27 third (lit< tt) (lit< tt) (lit< tt) refl refl)
    (before 255515944373312847190720520512484175977 7240687
    111233916942653821000329437866037388564
    175544394104025381149509263364095140941
    23 fourth (lit< tt) (lit< tt) (lit< tt) refl refl)
    fourth (lit< tt) (lit< tt))
    (before 255515944373312847190720520512484175977 96557
    47418180093458530687350227428022525796
    52333299885033245219942804006191421971
    17 first (lit< tt) (lit< tt) (lit< tt) refl refl)
    first (lit< tt) (lit< tt))

sixth : IsPrime 205115282021455665897114700593932402728804164701536103180137503955397371
unfolding power
sixth = prime_by 205115282021455665897114700593932402728804164701536103180137503955397371 255515944373312847190720520512484175977 (lit< tt) (lit< tt)
    (before 205115282021455665897114700593932402728804164701536103180137503955397371 255515944373312847190720520512484175977
    53072002638256206696760401718638995221936714922431175139555783581918754
    81475874003799270243122483189086420723726815346591292526890606927317739
    128 fifth (lit< tt) (lit< tt) (lit< tt) refl refl)

pub field_prime : IsPrime p
unfolding power
field_prime = prime_by p 205115282021455665897114700593932402728804164701536103180137503955397371 (lit< tt) (lit< tt)
    (before p 205115282021455665897114700593932402728804164701536103180137503955397371
    30133174243114333125352536507925183895021889065932097717961225114769139489296
    38738227534097492269493948901333532538630784921480042032654553727346127695815
    237 sixth (lit< tt) (lit< tt) (lit< tt) refl refl)
