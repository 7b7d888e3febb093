use Rattle.std.proofs.Common.{refl}
use Rattle.ms_combine.proofs.Sizing.{encoded_long}
use Rattle.ms_combine.proofs.parts.decoded_text.Goals as goal

pub returns-then-has_magic-clause-short : goal.returns-then-has_magic-clause-short
returns-then-has_magic-clause-short c = encoded_long c.args.text.now c.in-Ok.bytes.items (c.in-Ok.ensures.exact (refl, refl))
