-- The first nodes compute.
use Rattle.def_sane.proofs.examples.first_nodes.Goals as goal
use Rattle.std.proofs.Common.{refl}

pub returns : goal.returns
returns c = record {
  mixed_ones = (refl, refl, refl, refl, refl, refl);
  unmixed_ones = (refl, refl, refl, refl, refl, refl, refl, refl, refl, refl);
  repeated_ones = (refl, refl, refl, refl, refl, refl, refl);
}
