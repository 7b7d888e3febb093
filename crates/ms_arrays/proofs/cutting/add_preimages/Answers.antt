use Rattle.std.proofs.Common.{rules, ◌/◌, length, arith}
use Rattle.std.proofs.lemmas.Grind.{common_steps}
use Rattle.ms_arrays.specs.Pieces.{PREIMAGE_SIZE}
use Rattle.ms_arrays.proofs.Steps.{preimages_step}
use Rattle.ms_arrays.proofs.cutting.add_preimages.Goals as goal

pub loop-preserved : goal.loop-preserved
loop-preserved c =
    let step = preimages_step (length c.args.preimages.now / PREIMAGE_SIZE) c.loop.counter c.loop.rest.now c.loop-test.true in
    record {
      rest = grind (arith, common_steps);
      locks = search rules;
      pairs = search rules;
      preimages = grind (arith, common_steps, step, c.loop.invariant.preimages);
    }
