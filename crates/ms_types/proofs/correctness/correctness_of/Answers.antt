use Rattle.std.proofs.Common.{arith}
use Rattle.def_types.specs.Correctness.{correctness}
use Rattle.ms_tree.specs.Shape.{shape}
use Rattle.ms_tree.proofs.Parts.{nodes-le-measure}
use Rattle.ms_types.proofs.Places.{refused_within}
use Rattle.ms_types.proofs.correctness.correctness_of.Goals as goal

pub typed-requires-clause-room : goal.typed-requires-clause-room
typed-requires-clause-room c = omega (arith, c.requires.measure, nodes-le-measure (shape c.args.tree.now))

pub returns-clause-node : goal.returns-clause-node
returns-clause-node c =
    refused_within correctness (shape c.args.tree.now) c.typed.result c.typed.ensures.typed
