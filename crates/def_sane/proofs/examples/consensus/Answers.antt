-- What consensus allows, computed.
use Rattle.def_sane.proofs.examples.consensus.Goals as goal
use Rattle.std.proofs.Common.{refl}
use Rattle.def_types.proofs.Rows.{correctness_rows, malleability_rows}
use Rattle.def_limits.proofs.Greatest.{limits_exist, limits_by}
use Rattle.def_sane.specs.TheLimits.{the_limits}

pub returns : goal.returns
unfolding the_limits limits_exist correctness_rows malleability_rows
returns c = record {
  many_keys = (limits_by _ _ refl, refl, refl);
  most_keys = (limits_by _ _ refl, refl, refl, refl);
  largest_script = (limits_by _ _ refl, refl, refl, refl);
}
