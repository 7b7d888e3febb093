-- The parity, and the coordinate behind it.
use Rattle.std.proofs.Common.{◌≡◌, ℕ, ◌+◌, ◌%◌, ◌∷◌, ap, arith}
use Rattle.def_curve.specs.Encoding.{coordinate}
use Rattle.ms_field.specs.Limbs.{value}
use Rattle.ms_derive.proofs.steps.compressed.Goals as goal

pub returns : goal.returns
returns c =
    let parity : 2 + c.args.point.y.first % 2 ≡ 2 + value c.args.point.y % 2 = omega arith in
    rw (c.copy_from_slice.ensures.after, c.coordinate.ensures) (ap (λ (z : ℕ). z ∷ coordinate (value c.args.point.x)) parity)
