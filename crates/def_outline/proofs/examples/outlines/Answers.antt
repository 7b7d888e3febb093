-- The examples, each computed.
use Rattle.std.proofs.Common.{refl}
use Rattle.def_types.proofs.Rows.{correctness_rows}
use Rattle.def_outline.proofs.examples.outlines.Goals as goal

pub returns : goal.returns
unfolding correctness_rows
returns c = record { choice = refl; v = refl; nothing = refl; below_sugar = refl }
