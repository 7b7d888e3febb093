-- Infinity, or what the differences are.
use Rattle.std.proofs.Common.{◌≡◌, ℕ, ◌+◌, ◌*◌, ◌≤◌, arith, eqb, true, false}
use Rattle.def_curve.specs.Curve.{p}
use Rattle.ms_field.specs.Limbs.{value}
use Rattle.ms_prime_laws.proofs.Congruence.{Same, at, ◌⨟◌, times, of_eq, of_minus}
use Rattle.ms_point.proofs.Additions.{added_points, added_nothing, added_to_nothing, scaled_some, none_by_test, some_by_test}
use Rattle.ms_point.proofs.sums.add_points.Goals as goal

pub returns-then-is_zero-clause-sum : goal.returns-then-is_zero-clause-sum
returns-then-is_zero-clause-sum c P Q first second =
    let test : eqb (value c.args.b.z) 0 ≡ true = cc in
    added_nothing (value c.args.a.x) (value c.args.a.y) (value c.args.a.z) (value c.args.b.x) (value c.args.b.y) P Q (value c.args.b.z) (none_by_test _ test) first second

pub returns-then-is_zero-2-clause-sum : goal.returns-then-is_zero-2-clause-sum
returns-then-is_zero-2-clause-sum c P Q first second =
    let test : eqb (value c.args.a.z) 0 ≡ true = cc in
    added_to_nothing (value c.args.b.x) (value c.args.b.y) (value c.args.b.z) (value c.args.a.x) (value c.args.a.y) P Q (value c.args.a.z) (none_by_test _ test) first second

pub scaled-first-requires-clause-some : goal.scaled-first-requires-clause-some
scaled-first-requires-clause-some c = let test : eqb (value c.args.b.z) 0 ≡ false = cc in some_by_test _ test

pub add_by_differences-requires-clause-some : goal.add_by_differences-requires-clause-some
add_by_differences-requires-clause-some c =
    let first : eqb (value c.args.a.z) 0 ≡ false = cc in
    let second : eqb (value c.args.b.z) 0 ≡ false = cc in
    scaled_some (value c.args.a.z) (value c.args.b.z) (value c.scaled-first.result.z) c.scaled-first.ensures.z (some_by_test _ first) c.requires.first.z
    (some_by_test _ second) c.requires.second.z

pub returns-clause-sum : goal.returns-clause-sum
returns-clause-sum c P Q first second =
    let Z : ℕ = value c.args.a.z in
    let some : eqb (value c.args.b.z) 0 ≡ false = cc in
    let zz : Same p (value c.square-zz.result) (Z * Z) = of_eq _ _ c.square-zz.ensures in
    let zzz : Same p (value c.multiply-zzz.result) (Z * Z * Z) = of_eq _ _ c.multiply-zzz.ensures ⨟ times zz (at Z) in
    let u : Same p (value c.multiply-u.result) (value c.args.b.x * (Z * Z)) = of_eq _ _ c.multiply-u.ensures ⨟ times (at (value c.args.b.x)) zz in
    let v : Same p (value c.multiply-v.result) (value c.args.b.y * (Z * Z * Z)) = of_eq _ _ c.multiply-v.ensures ⨟ times (at (value c.args.b.y)) zzz in
    let x_below : value c.scaled-first.result.x ≤ p = omega (arith, c.scaled-first.ensures.reduced.x) in
    let y_below : value c.scaled-first.result.y ≤ p = omega (arith, c.scaled-first.ensures.reduced.y) in
    let h : Same p (value c.subtract-h.result + value c.scaled-first.result.x) (value c.multiply-u.result) = of_minus _ _ _ x_below c.subtract-h.ensures in
    let r : Same p (value c.subtract-r.result + value c.scaled-first.result.y) (value c.multiply-v.result) = of_minus _ _ _ y_below c.subtract-r.ensures in
    added_points Z (value c.args.b.z) (value c.scaled-first.result.x) (value c.scaled-first.result.y) (value c.scaled-first.result.z) (value c.subtract-h.result)
    (value c.subtract-r.result) (value c.args.b.x) (value c.args.b.y) _ _ _ c.scaled-first.ensures.z (some_by_test _ some)
    (omega (arith, c.subtract-h.ensures)) (omega (arith, c.subtract-r.ensures)) (h ⨟ u) (r ⨟ v) c.add_by_differences.ensures.sum P Q
    (c.scaled-first.ensures.point P first) second
