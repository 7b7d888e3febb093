-- Different x, the same point, and the opposite one.
use Rattle.std.proofs.Common.{◌≡◌, eqb, true, false, refl}
use Rattle.ms_field.specs.Limbs.{value}
use Rattle.ms_point.proofs.Additions.{added_by_line, added_to_itself, added_to_opposite, none_by_test, some_by_test}
use Rattle.ms_point.proofs.sums.add_by_differences.Goals as goal

pub returns-then-not-is_zero-clause-sum : goal.returns-then-not-is_zero-clause-sum
returns-then-not-is_zero-clause-sum c x' y' d P stands =
    let test : eqb (value c.args.h) 0 ≡ false = cc in
    added_by_line (value c.args.a.x) (value c.args.a.y) (value c.args.a.z) (value c.args.h) (value c.args.r) _ _ _ x' y' d
    c.requires.some c.requires.reduced.z (some_by_test _ test) c.add_by_line.ensures.line P stands

pub returns-then-is_zero-clause-sum : goal.returns-then-is_zero-clause-sum
returns-then-is_zero-clause-sum c x' y' d P stands =
    let test : eqb (value c.args.h) 0 ≡ true = cc in
    let other : eqb (value c.args.r) 0 ≡ true = cc in
    added_to_itself (value c.args.a.x) (value c.args.a.y) (value c.args.a.z) (value c.args.h) (value c.args.r) _ _ _ x' y' d
    c.requires.some c.requires.reduced.z (none_by_test _ test) (none_by_test _ other) c.double.ensures.sum P stands

pub returns-else-is_zero-clause-sum : goal.returns-else-is_zero-clause-sum
returns-else-is_zero-clause-sum c x' y' d P stands =
    let test : eqb (value c.args.h) 0 ≡ true = cc in
    let other : eqb (value c.args.r) 0 ≡ false = cc in
    added_to_opposite (value c.args.a.x) (value c.args.a.y) (value c.args.a.z) (value c.args.h) (value c.args.r) 1 1 0 x' y' d
    c.requires.some c.requires.reduced.z (none_by_test _ test) (some_by_test _ other) refl P stands
