use Rattle.std.proofs.Common.{arith}
use Rattle.ms_height.specs.Scaffolding.Kept.{heights_in}
use Rattle.ms_height.proofs.Keeping.{length_in}
use Rattle.ms_height.proofs.Tallies.{few_of}
use Rattle.ms_height.proofs.tally.tally_of.Goals as goal

pub add-requires : goal.add-requires
add-requires c =
    let as_many = length_in c.args.sats.now c.args.dsats.now c.requires.alike in
    let h = few_of c.loop-index.tally c.loop-index.index (heights_in c.args.sats.now c.args.dsats.now) c.loop-index.invariant.counts in
    record { few = (omega (arith, h.0, as_many, c.requires.few), omega (arith, h.1, as_many, c.requires.few), omega (arith, h.2, as_many, c.requires.few)) }

pub loop-index-preserved : goal.loop-index-preserved
loop-index-preserved c =
    let as_many = length_in c.args.sats.now c.args.dsats.now c.requires.alike in
    record {
      counts = c.add.ensures c.loop-index.index (heights_in c.args.sats.now c.args.dsats.now)
          (omega (arith, as_many, c.loop-index-test.true, c.loop-index.auto.index-end)) c.child_at.ensures c.loop-index.invariant.counts;
    }
