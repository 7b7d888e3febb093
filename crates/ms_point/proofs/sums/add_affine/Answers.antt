-- Infinity, or what the differences are.
use Rattle.std.proofs.Common.{◌≡◌, ℕ, ◌+◌, ◌*◌, ◌≤◌, arith, eqb, true, false}
use Rattle.def_curve.specs.Curve.{p}
use Rattle.ms_field.specs.Limbs.{value}
use Rattle.ms_prime_laws.proofs.Congruence.{Same, at, ◌⨟◌, times, of_eq, of_minus}
use Rattle.ms_point.proofs.Additions.{added_to_infinity, none_by_test, some_by_test}
use Rattle.ms_point.proofs.sums.add_affine.Goals as goal

pub returns-then-is_zero-clause-sum : goal.returns-then-is_zero-clause-sum
returns-then-is_zero-clause-sum c P h =
    let test : eqb (value c.args.a.z) 0 ≡ true = cc in
    added_to_infinity (value c.args.a.x) (value c.args.a.y) (value c.args.a.z) _ _ _ (value c.args.point.x) (value c.args.point.y)
    (none_by_test _ test) c.from_affine.ensures.point P h

pub add_by_differences-requires-clause-some : goal.add_by_differences-requires-clause-some
add_by_differences-requires-clause-some c = let test : eqb (value c.args.a.z) 0 ≡ false = cc in some_by_test _ test

pub returns-clause-sum : goal.returns-clause-sum
returns-clause-sum c P stands =
    let Z : ℕ = value c.args.a.z in
    let zz : Same p (value c.square-zz.result) (Z * Z) = of_eq _ _ c.square-zz.ensures in
    let zzz : Same p (value c.multiply-zzz.result) (Z * Z * Z) = of_eq _ _ c.multiply-zzz.ensures ⨟ times zz (at Z) in
    let u : Same p (value c.multiply-u.result) (value c.args.point.x * (Z * Z)) = of_eq _ _ c.multiply-u.ensures ⨟ times (at (value c.args.point.x)) zz in
    let v : Same p (value c.multiply-v.result) (value c.args.point.y * (Z * Z * Z)) = of_eq _ _ c.multiply-v.ensures ⨟ times (at (value c.args.point.y)) zzz in
    let x_below : value c.args.a.x ≤ p = omega (arith, c.requires.reduced.x) in
    let y_below : value c.args.a.y ≤ p = omega (arith, c.requires.reduced.y) in
    let h : Same p (value c.subtract-h.result + value c.args.a.x) (value c.multiply-u.result) = of_minus _ _ _ x_below c.subtract-h.ensures in
    let r : Same p (value c.subtract-r.result + value c.args.a.y) (value c.multiply-v.result) = of_minus _ _ _ y_below c.subtract-r.ensures in
    c.add_by_differences.ensures.sum (value c.args.point.x) (value c.args.point.y)
    (record {
      x_below = c.requires.affine.x;
      y_below = c.requires.affine.y;
      h_below = omega (arith, c.subtract-h.ensures);
      r_below = omega (arith, c.subtract-r.ensures);
      h_is = (h ⨟ u).same;
      r_is = (r ⨟ v).same;
    }) P stands
