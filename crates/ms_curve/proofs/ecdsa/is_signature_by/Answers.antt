-- r or s that is no scalar, and the sum.
use Rattle.std.proofs.Common.{◌≡◌, ℕ, sym, ◌∙◌, ltb, false, true}
use Rattle.std.proofs.lemmas.Bool.{and_parts, ltb-true}
use Rattle.def_curve.specs.Curve.{n as order}
use Rattle.def_curve.specs.Point.{Point, ◌⊕◌, times, generator}
use Rattle.def_curve.specs.Ecdsa.{is_scalar}
use Rattle.ms_field.specs.Limbs.{value}
use Rattle.ms_point.specs.Standing.{StandsFor, point_at}
use Rattle.ms_curve.proofs.Checks.{refused_by_first, refused_by_second, judged_by_sum}
use Rattle.ms_curve.proofs.ecdsa.is_signature_by.Goals as goal

pub returns-then-not-is_scalar : goal.returns-then-not-is_scalar
returns-then-not-is_scalar c =
    let test : is_scalar (value c.args.r) ≡ false = cc in
    sym (refused_by_first (point_at c.args.key) (value c.args.e) (value c.args.r) (value c.args.s) test)

pub returns-then-not-is_scalar-2 : goal.returns-then-not-is_scalar-2
returns-then-not-is_scalar-2 c =
    let test : is_scalar (value c.args.s) ≡ false = cc in
    sym (refused_by_second (point_at c.args.key) (value c.args.e) (value c.args.r) (value c.args.s) test)

pub has_x-requires-clause-scalar : goal.has_x-requires-clause-scalar
has_x-requires-clause-scalar c =
    let first : is_scalar (value c.args.r) ≡ true = cc in
    ltb-true (value c.args.r) order (and_parts (ltb 0 (value c.args.r)) (ltb (value c.args.r) order) first).1

pub returns : goal.returns
returns c =
    let first : is_scalar (value c.args.r) ≡ true = cc in
    let second : is_scalar (value c.args.s) ≡ true = cc in
    let key : Point = point_at c.args.key in
    let u : ℕ = value c.multiply.result in
    let v : ℕ = value c.multiply-2.result in
    let sum : StandsFor c.add_points.result (times u generator ⊕ times v key) =
    c.add_points.ensures.sum (times u generator) (times v key) c.times-first.ensures.multiple c.times-second.ensures.multiple in
    c.has_x.ensures (times u generator ⊕ times v key) sum
    ∙ sym (judged_by_sum key (value c.args.e) (value c.args.r) (value c.args.s) (value c.inverse-w.result) u v first second c.inverse-w.ensures c.multiply.ensures c.multiply-2.ensures)
