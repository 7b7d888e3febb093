-- The coordinates times powers of one number.
use Rattle.std.proofs.Common.{◌≡◌, ℕ, ◌*◌, ◌%◌, ◌<◌, arith}
use Rattle.def_curve.specs.Curve.{p}
use Rattle.ms_field.specs.Limbs.{value}
use Rattle.ms_prime_laws.proofs.Congruence.{Same, at, ◌⨟◌, times, of_eq, to_eq}
use Rattle.ms_point.proofs.Additions.{scaled_stands}
use Rattle.ms_point.proofs.sums.scaled.Goals as goal

pub returns-clause-point : goal.returns-clause-point
returns-clause-point c P stands =
    let X : ℕ = value c.args.a.x in
    let Y : ℕ = value c.args.a.y in
    let W : ℕ = value c.args.w in
    let ww : Same p (value c.square-ww.result) (W * W) = of_eq _ _ c.square-ww.ensures in
    let www : Same p (value c.multiply-www.result) (W * W * W) = of_eq _ _ c.multiply-www.ensures ⨟ times ww (at W) in
    let x_below : value c.multiply-x.result < p = omega arith in
    let y_below : value c.multiply-y.result < p = omega arith in
    let x_is : value c.multiply-x.result ≡ X * (W * W) % p = to_eq x_below (of_eq _ _ c.multiply-x.ensures ⨟ times (at X) ww) in
    let y_is : value c.multiply-y.result ≡ Y * (W * W * W) % p = to_eq y_below (of_eq _ _ c.multiply-y.ensures ⨟ times (at Y) www) in
    scaled_stands X Y (value c.args.a.z) W _ _ _ x_is y_is c.multiply-z.ensures c.requires.reduced.z c.requires.some c.requires.below P stands
