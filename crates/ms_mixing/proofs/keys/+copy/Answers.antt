use Rattle.std.proofs.Common.{arith}
use Rattle.ms_tree.proofs.Parts.{nodes_at, in_range_at}
use Rattle.ms_types.proofs.Seen.{nodes_left}
use Rattle.ms_mixing.proofs.Repeated.{measure_left}
use Rattle.ms_mixing.proofs.keys.+copy.Goals as goal

pub copy_keys_of_all-copy_keys-requires : goal.copy_keys_of_all-copy_keys-requires
copy_keys_of_all-copy_keys-requires t c =
    let few = nodes_at c.args.parts.now c.loop-part.part-index c.part-item.result c.loop-part-test.true c.part-item.is in
    let nodes = nodes_left c.args.parts.now c.loop-part.part-index c.part-item.result c.loop-part-test.true c.part-item.is in
    let room = measure_left c.args.parts.now c.loop-part.part-index c.part-item.result c.loop-part-test.true c.part-item.is in (
      omega (arith, c.decreases, few),
      (
        in_range_at c.args.parts.now c.loop-part.part-index c.part-item.result c.loop-part-test.true c.part-item.is c.requires.parts,
        (
          omega (arith, nodes, c.loop-part.invariant.nodes, c.requires.nodes),
          omega (arith, room, c.loop-part.invariant.keys, c.loop-part.auto.entries, c.requires.room),
        ),
      ),
    )
