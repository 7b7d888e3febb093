-- The left half over the order, infinity, and a point.
use Rattle.std.proofs.Common.{◌≡◌, ℕ, ltb, true, false, drop, Some, None, ap, ◌∙◌, arith}
use Rattle.std.proofs.lemmas.Slice.{between_to_end}
use Rattle.def_script.specs.Bytes.{Bytes}
use Rattle.def_derive.specs.Child.{child_by}
use Rattle.def_curve.specs.Curve.{n as order}
use Rattle.def_curve.specs.Point.{◌⊕◌, times, generator}
use Rattle.ms_field.specs.Limbs.{value}
use Rattle.ms_point.specs.Standing.{point_at}
use Rattle.ms_derive.proofs.Children.{with_code, none_over, found_by}
use Rattle.ms_derive.proofs.steps.child_by.Goals as goal

pub returns-then-not-is_below-clause-node : goal.returns-then-not-is_below-clause-node
returns-then-not-is_below-clause-node c =
    let test : ltb (value c.number_of-left.result) order ≡ false = cc in
    let e = none_over (value c.number_of-left.result) (drop 32 c.args.digest.now) (point_at c.args.parent) test in
    cc

pub returns-in_err-point-clause-node : goal.returns-in_err-point-clause-node
returns-in_err-point-clause-node c =
    let test : ltb (value c.number_of-left.result) order ≡ true = cc in
    let P = times (value c.number_of-left.result) generator ⊕ point_at c.args.parent in
    let sum = c.add_affine-sum.ensures.sum (times (value c.number_of-left.result) generator) c.times-multiple.ensures.multiple in
    let point = c.in_err-point.ensures.point P sum in
    let e = found_by (value c.number_of-left.result) (drop 32 c.args.digest.now) (point_at c.args.parent) None test point in
    cc

pub returns-clause-node : goal.returns-clause-node
returns-clause-node c =
    let digest = c.args.digest.now in
    let test : ltb (value c.number_of-left.result) order ≡ true = cc in
    let P = times (value c.number_of-left.result) generator ⊕ point_at c.args.parent in
    let sum = c.add_affine-sum.ensures.sum (times (value c.number_of-left.result) generator) c.times-multiple.ensures.multiple in
    let point = c.in_ok-point.ensures.point P sum in
    let right : c.copy_from_slice.new.self ≡ drop 32 digest = c.copy_from_slice.ensures.after ∙ between_to_end digest 32 64 (omega arith) in
    ap (λ (z : Bytes). Some (with_code z c.in_ok-point.point)) right
    ∙ (found_by (value c.number_of-left.result) (drop 32 digest) (point_at c.args.parent) (Some c.in_ok-point.point) test point
    ∙ ap (λ (z : ℕ). child_by z (drop 32 digest) (point_at c.args.parent)) c.number_of-left.ensures)
