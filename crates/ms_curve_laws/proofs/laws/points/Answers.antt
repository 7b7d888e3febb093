-- The points of the curve.
use Rattle.std.proofs.Common.{refl}
use Rattle.ms_curve_laws.proofs.Closure.{sum-curve, multiple-curve}
use Rattle.ms_curve_laws.proofs.laws.points.Goals as goal

pub returns-clause-generator : goal.returns-clause-generator
returns-clause-generator c = refl

pub returns-clause-sum : goal.returns-clause-sum
returns-clause-sum c = sum-curve

pub returns-clause-multiple : goal.returns-clause-multiple
returns-clause-multiple c = multiple-curve
