-- One bit more of the multiple.
use Rattle.std.proofs.Common.{◌≡◌, ◌+◌, ◌*◌, sym, subst, arith}
use Rattle.def_curve.specs.Point.{Point, ◌⊕◌, multiple}
use Rattle.ms_point.specs.Standing.{StandsFor, point_at}
use Rattle.ms_point.proofs.Bits.{multiple_even, multiple_odd}
use Rattle.ms_point.proofs.multiples.next.Goals as goal

pub returns-then-bit-eq0-clause-multiple : goal.returns-then-bit-eq0-clause-multiple
returns-then-bit-eq0-clause-multiple c bits k h =
    let even : 2 * k + c.args.bit ≡ 2 * k = omega arith in
    subst (λ (Q : Point). StandsFor c.double-even.result Q) (sym (multiple_even bits k (2 * k + c.args.bit) (point_at c.args.point) even))
    (c.double-even.ensures.sum (multiple bits k (point_at c.args.point)) h)

pub returns-clause-multiple : goal.returns-clause-multiple
returns-clause-multiple c bits k h =
    let odd : 2 * k + c.args.bit ≡ 2 * k + 1 = omega arith in
    let M : Point = multiple bits k (point_at c.args.point) in
    subst (λ (Q : Point). StandsFor c.add_affine.result Q) (sym (multiple_odd bits k (2 * k + c.args.bit) (point_at c.args.point) odd))
    (c.add_affine.ensures.sum (M ⊕ M) (c.double-even.ensures.sum M h))
