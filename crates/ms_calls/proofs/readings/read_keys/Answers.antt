use Rattle.std.proofs.Common.{◌/◌, length, sym, arith}
use Rattle.std.proofs.lemmas.Grind.{common_steps}
use Rattle.ms_arrays.specs.Pieces.{KEY_SIZE}
use Rattle.ms_calls.proofs.ReadingLemmas.{keys_step, no_key, one_key}
use Rattle.ms_calls.proofs.readings.read_keys.Goals as goal

pub returns-in_default-clause-none : goal.returns-in_default-clause-none
returns-in_default-clause-none c given =
    no_key (length c.args.bytes.now / KEY_SIZE) c.loop.counter c.args.bytes.now c.loop.rest.now c.split_at.result.0.now c.loop-test.true
    c.loop.invariant.form c.split_at.ensures.front (sym c.in_default.ensures.form)

pub loop-preserved : goal.loop-preserved
loop-preserved c =
    let step = keys_step (length c.args.bytes.now / KEY_SIZE) c.loop.counter c.loop.rest.now c.loop-test.true in
    record {
      rest = grind (arith, common_steps);
      keys = grind (arith, common_steps, step, c.loop.invariant.keys);
      form =
          one_key (length c.args.bytes.now / KEY_SIZE) c.loop.counter c.args.bytes.now c.loop.rest.now c.split_at.result.0.now c.split_at.result.1.now
          c.loop-test.true c.loop.invariant.form c.split_at.ensures.front c.split_at.ensures.back (sym c.in-Some.ensures.form);
    }
