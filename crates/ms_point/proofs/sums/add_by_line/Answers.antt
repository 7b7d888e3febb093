-- What the steps of addition compute, as congruences.
use Rattle.std.proofs.Common.{ℕ, ◌+◌, ◌*◌, ◌≤◌, arith}
use Rattle.def_curve.specs.Curve.{p}
use Rattle.ms_field.specs.Limbs.{value}
use Rattle.ms_prime_laws.proofs.Congruence.{Same, at, ◌⨟◌, times, plus, of_eq, of_minus}
use Rattle.ms_point.proofs.Coordinates.{Crossed, crossed_stands}
use Rattle.ms_point.proofs.sums.add_by_line.Goals as goal

pub returns-clause-line : goal.returns-clause-line
returns-clause-line c x y x' y' crosses =
    let X : ℕ = value c.args.a.x in
    let Y : ℕ = value c.args.a.y in
    let Z : ℕ = value c.args.a.z in
    let H : ℕ = value c.args.h in
    let R : ℕ = value c.args.r in
    let C : ℕ = value c.multiply-hhh.result in
    let S : ℕ = value c.multiply-s.result in
    let T : ℕ = value c.multiply-t.result in
    let X3 : ℕ = value c.subtract-x.result in
    let D : ℕ = value c.subtract-d.result in
    let hh : Same p (value c.square-hh.result) (H * H) = of_eq _ _ c.square-hh.ensures in
    let c_is : Same p C (H * H * H) = of_eq _ _ c.multiply-hhh.ensures ⨟ times hh (at H) in
    let s_is : Same p S (X * (H * H)) = of_eq _ _ c.multiply-s.ensures ⨟ times (at X) hh in
    let t_is : Same p T (Y * (H * H * H)) = of_eq _ _ c.multiply-t.ensures ⨟ times (at Y) c_is in
    let c_below : C ≤ p = omega arith in
    let s_below : S ≤ p = omega arith in
    let t_below : T ≤ p = omega arith in
    let x3_below : X3 ≤ p = omega arith in
    let rr : Same p (value c.square-rr.result) (R * R) = of_eq _ _ c.square-rr.ensures in
    let less_c : Same p (value c.subtract-less_hhh.result + C) (value c.square-rr.result) = of_minus _ _ _ c_below c.subtract-less_hhh.ensures in
    let less_s : Same p (value c.subtract-less_s.result + S) (value c.subtract-less_hhh.result) = of_minus _ _ _ s_below c.subtract-less_s.ensures in
    let x_less : Same p (X3 + S) (value c.subtract-less_s.result) = of_minus _ _ _ s_below c.subtract-x.ensures in
    let d_is : Same p (D + X3) S = of_minus _ _ _ x3_below c.subtract-d.ensures in
    let rd : Same p (value c.multiply-rd.result) (R * D) = of_eq _ _ c.multiply-rd.ensures in
    let y_less : Same p (value c.subtract-y.result + T) (value c.multiply-rd.result) = of_minus _ _ _ t_below c.subtract-y.ensures in
    let computed : Crossed X Y Z H R X3 (value c.subtract-y.result) (value c.multiply-z.result) = record {
      C = C;
      S = S;
      T = T;
      D = D;
      c_is = c_is;
      s_is = s_is;
      t_is = t_is;
      x3_is = plus (plus x_less (at S) ⨟ less_s) (at C) ⨟ less_c ⨟ rr;
      d_is = d_is;
      y3_is = y_less ⨟ rd;
      z3_is = of_eq _ _ c.multiply-z.ensures;
      x3_below = omega arith;
      y3_below = omega arith;
      z3_below = omega arith;
    } in
    crossed_stands X Y Z H R X3 (value c.subtract-y.result) (value c.multiply-z.result) x y x' y' computed crosses c.requires.reduced.z c.requires.h
