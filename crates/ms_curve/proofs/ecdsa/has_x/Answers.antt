-- Infinity, r, and r and n together.
use Rattle.std.proofs.Common.{◌≡◌, ◌-◌, eqb, ltb, true, false, ◌∙◌}
use Rattle.def_curve.specs.Curve.{p, n as order}
use Rattle.ms_field.specs.Limbs.{value}
use Rattle.ms_point.proofs.Additions.{none_by_test, some_by_test}
use Rattle.ms_curve.proofs.Abscissas.{nothing, at_first, at_neither, at_second}
use Rattle.ms_curve.proofs.ecdsa.has_x.Goals as goal

pub returns-then-is_zero : goal.returns-then-is_zero
returns-then-is_zero c P h =
    let test : eqb (value c.args.a.z) 0 ≡ true = cc in
    nothing (value c.args.a.x) (value c.args.a.y) (value c.args.a.z) (value c.args.r) (none_by_test _ test) P h

pub returns-then-is_same : goal.returns-then-is_same
returns-then-is_same c P h =
    let some : eqb (value c.args.a.z) 0 ≡ false = cc in
    let test : eqb (value c.multiply-first.result) (value c.args.a.x) ≡ true = cc in
    at_first (value c.args.a.x) (value c.args.a.y) (value c.args.a.z) (value c.square-zz.result) (value c.args.r) (value c.multiply-first.result) (some_by_test _ some)
    c.requires.reduced.z c.requires.scalar c.square-zz.ensures c.multiply-first.ensures test P h

pub returns-then-not-is_below : goal.returns-then-not-is_below
returns-then-not-is_below c P h =
    let some : eqb (value c.args.a.z) 0 ≡ false = cc in
    let test : eqb (value c.multiply-first.result) (value c.args.a.x) ≡ false = cc in
    let over : ltb (value c.args.r) (p - order) ≡ false = cc in
    at_neither (value c.args.a.x) (value c.args.a.y) (value c.args.a.z) (value c.square-zz.result) (value c.args.r) (value c.multiply-first.result) (some_by_test _ some)
    c.requires.reduced.z c.requires.scalar c.square-zz.ensures c.multiply-first.ensures test over P h

pub returns : goal.returns
returns c P h =
    let some : eqb (value c.args.a.z) 0 ≡ false = cc in
    let test : eqb (value c.multiply-first.result) (value c.args.a.x) ≡ false = cc in
    let under : ltb (value c.args.r) (p - order) ≡ true = cc in
    c.is_same-2.ensures
    ∙ at_second (value c.args.a.x) (value c.args.a.y) (value c.args.a.z) (value c.square-zz.result) (value c.args.r) (value c.multiply-first.result) (value c.add-other.result)
    (value c.multiply-second.result) (some_by_test _ some) c.requires.reduced.z c.requires.scalar c.square-zz.ensures c.multiply-first.ensures test under c.add-other.ensures
    c.multiply-second.ensures P h
