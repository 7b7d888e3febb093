-- A text that is too long.
use Rattle.std.proofs.Common.{arith}
use Rattle.def_descriptor.specs.Answer.{too_long}
use Rattle.ms_descriptor.proofs.answer.read_descriptor.Goals as goal

pub returns-then-text-gt-MOST_BYTES_READ-clause-refused : goal.returns-then-text-gt-MOST_BYTES_READ-clause-refused
returns-then-text-gt-MOST_BYTES_READ-clause-refused c = λ n. too_long (omega (arith, c.if-text-gt-MOST_BYTES_READ.true))
