-- What the steps of doubling compute, as congruences.
use Rattle.std.proofs.Common.{◌≡◌, ℕ, ◌+◌, ◌*◌, ◌<◌, ◌≤◌, sym, ◌∙◌, arith}
use Rattle.std.proofs.Math.Nat.{mod-eq_of_lt}
use Rattle.def_curve.specs.Curve.{p}
use Rattle.ms_field.specs.Limbs.{value}
use Rattle.ms_prime_laws.proofs.Congruence.{Same, at, by, ◌⨟◌, times, plus, of_eq, of_minus}
use Rattle.ms_point.proofs.Coordinates.{Doubled}
use Rattle.ms_point.proofs.Additions.{twice}
use Rattle.ms_point.proofs.sums.double.Goals as goal

pub returns-clause-sum : goal.returns-clause-sum
returns-clause-sum c P h =
    let X : ℕ = value c.args.a.x in
    let Y : ℕ = value c.args.a.y in
    let Z : ℕ = value c.args.a.z in
    let S : ℕ = value c.multiply-s.result in
    let M : ℕ = value c.add-m.result in
    let T : ℕ = value c.square-yyyy.result in
    let X3 : ℕ = value c.subtract-x.result in
    let D : ℕ = value c.subtract-d.result in
    let L : ℕ = value c.half-half_xx.result in
    let yy : Same p (value c.square-yy.result) (Y * Y) = of_eq _ _ c.square-yy.ensures in
    let s_is : Same p S (X * (Y * Y)) = of_eq _ _ c.multiply-s.ensures ⨟ times (at X) yy in
    let xx : Same p (value c.square-xx.result) (X * X) = of_eq _ _ c.square-xx.ensures in
    let xx_below : value c.square-xx.result < p = omega arith in
    let half : Same p (L + L) (value c.square-xx.result) = record { same = c.half-half_xx.ensures.twice ∙ sym (mod-eq_of_lt xx_below) } in
    let m : Same p M (L + value c.square-xx.result) = of_eq _ _ c.add-m.ensures in
    let m_sum : L + value c.square-xx.result + (L + value c.square-xx.result) ≡ L + L + (value c.square-xx.result + value c.square-xx.result) = omega arith in
    let three : X * X + (X * X + X * X) ≡ 3 * (X * X) = omega arith in
    let m_is : Same p (M + M) (3 * (X * X)) = plus m m ⨟ by m_sum ⨟ plus (half ⨟ xx) (plus xx xx) ⨟ by three in
    let t_is : Same p T (Y * Y * (Y * Y)) = of_eq _ _ c.square-yyyy.ensures ⨟ times yy yy in
    let s_below : S ≤ p = omega arith in
    let x3_below : X3 ≤ p = omega arith in
    let t_below : T ≤ p = omega arith in
    let mm : Same p (value c.square-mm.result) (M * M) = of_eq _ _ c.square-mm.ensures in
    let less_s : Same p (value c.subtract-less_s.result + S) (value c.square-mm.result) = of_minus _ _ _ s_below c.subtract-less_s.ensures in
    let x_less : Same p (X3 + S) (value c.subtract-less_s.result) = of_minus _ _ _ s_below c.subtract-x.ensures in
    let d_is : Same p (D + X3) S = of_minus _ _ _ x3_below c.subtract-d.ensures in
    let md : Same p (value c.multiply-md.result) (M * D) = of_eq _ _ c.multiply-md.ensures in
    let y_less : Same p (value c.subtract-y.result + T) (value c.multiply-md.result) = of_minus _ _ _ t_below c.subtract-y.ensures in
    let z3_is : Same p (value c.multiply-z.result) (Y * Z) = of_eq _ _ c.multiply-z.ensures in
    let computed : Doubled X Y Z X3 (value c.subtract-y.result) (value c.multiply-z.result) = record {
      S = S;
      M = M;
      T = T;
      D = D;
      s_is = s_is;
      m_is = m_is;
      t_is = t_is;
      x3_is = plus x_less (at S) ⨟ less_s ⨟ mm;
      d_is = d_is;
      y3_is = y_less ⨟ md;
      z3_is = z3_is;
      x3_below = omega arith;
      y3_below = omega arith;
      z3_below = omega arith;
    } in
    twice X Y Z X3 (value c.subtract-y.result) (value c.multiply-z.result) computed c.requires.z P h
