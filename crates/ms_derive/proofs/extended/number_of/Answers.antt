-- The number of the same bytes.
use Rattle.std.proofs.Common.{ap, ◌∙◌}
use Rattle.std.specs.Int.{w32, from_be_bytes}
use Rattle.ms_derive.proofs.Texts.{number_of_four}
use Rattle.ms_derive.proofs.extended.number_of.Goals as goal

pub returns : goal.returns
returns c = c.from_be_bytes.ensures ∙ (ap (from_be_bytes w32) c.array_of.ensures ∙ number_of_four c.args.bytes.now c.requires)
