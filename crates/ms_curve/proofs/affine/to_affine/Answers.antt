-- Infinity, and any other point.
use Rattle.std.proofs.Common.{◌≡◌, eqb, true, false}
use Rattle.ms_field.specs.Limbs.{value}
use Rattle.ms_point.proofs.Additions.{none_by_test, some_by_test}
use Rattle.ms_curve.proofs.Quotients.{at_infinity, at_coordinates}
use Rattle.ms_curve.proofs.affine.to_affine.Goals as goal

pub returns-then-is_zero-clause-point : goal.returns-then-is_zero-clause-point
returns-then-is_zero-clause-point c P h =
    let test : eqb (value c.args.a.z) 0 ≡ true = cc in
    at_infinity (value c.args.a.x) (value c.args.a.y) (value c.args.a.z) (none_by_test _ test) P h

pub returns-clause-point : goal.returns-clause-point
returns-clause-point c P h =
    let test : eqb (value c.args.a.z) 0 ≡ false = cc in
    at_coordinates (value c.args.a.x) (value c.args.a.y) (value c.args.a.z) (value c.inverse-w.result) (value c.square-ww.result) (value c.multiply-www.result)
    (value c.multiply-x.result) (value c.multiply-y.result) (some_by_test _ test) c.requires.z c.inverse-w.ensures c.square-ww.ensures c.multiply-www.ensures
    c.multiply-x.ensures c.multiply-y.ensures P h
