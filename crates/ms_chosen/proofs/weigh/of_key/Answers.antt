use Rattle.std.proofs.Common.{arith}
use Rattle.ms_chosen.proofs.Bounds.{length_light}
use Rattle.ms_chosen.proofs.weigh.of_key.Goals as goal

pub returns-clause-light : goal.returns-clause-light
returns-clause-light c = record {
  sat = length_light c.args.assets.now c.requires c.args.key.now c.length_of_signature.result c.length_of_signature.ensures;
  dsat = omega arith;
}
