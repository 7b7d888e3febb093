-- r or s that four words don't hold.
use Rattle.std.proofs.Common.{sym}
use Rattle.def_curve.specs.Key.{number_of}
use Rattle.ms_field.specs.Limbs.{value}
use Rattle.ms_point.specs.Standing.{point_at}
use Rattle.ms_judge.proofs.Cases.{bad_by_first, bad_by_second}
use Rattle.ms_judge.proofs.judge.judged_bytes.Goals as goal

pub returns-in_default : goal.returns-in_default
returns-in_default c =
    sym (bad_by_first (point_at c.args.key) (value c.args.e) (number_of c.args.r.now) (number_of c.args.s.now) c.in_default.ensures)

pub returns-in_default-limbs_of : goal.returns-in_default-limbs_of
returns-in_default-limbs_of c =
    sym (bad_by_second (point_at c.args.key) (value c.args.e) (number_of c.args.r.now) (number_of c.args.s.now) c.in_default-limbs_of.ensures)
