-- The bytes of four words, the highest first.
use Rattle.std.proofs.Common.{refl, arith}
use Rattle.ms_field.specs.Limbs.{value}
use Rattle.ms_judge.proofs.Words.{four_words}
use Rattle.ms_judge.proofs.point.coordinate.Goals as goal

pub returns : goal.returns
returns c =
    rw (
      c.copy_from_slice.ensures.after,
      c.copy_from_slice-2.ensures.after,
      c.copy_from_slice-3.ensures.after,
      c.copy_from_slice-4.ensures.after,
      c.to_be_bytes.ensures,
      c.to_be_bytes-2.ensures,
      c.to_be_bytes-3.ensures,
      c.to_be_bytes-4.ensures,
    )
    (four_words c.args.x.fourth c.args.x.third c.args.x.second c.args.x.first (value c.args.x) (omega arith) (omega arith) (omega arith) (omega arith) refl)
