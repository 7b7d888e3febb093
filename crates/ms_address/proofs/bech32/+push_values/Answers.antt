-- All values but the last one, and that.
use Rattle.std.proofs.Common.{arith}
use Rattle.std.proofs.lemmas.Grind.{common_steps}
use Rattle.ms_address.proofs.Fives.{fixed_more}
use Rattle.ms_address.proofs.bech32.+push_values.Goals as goal

pub returns : goal.returns
returns t c = let e = fixed_more 32 c.args.count c.args.number (omega arith) in grind (arith, common_steps)
