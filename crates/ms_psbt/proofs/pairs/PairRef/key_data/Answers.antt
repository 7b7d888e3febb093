use Rattle.std.proofs.Common.{arith}
use Rattle.def_psbt.specs.Part.{first_size}
use Rattle.ms_psbt.proofs.pairs.PairRef.key_data.Goals as goal

pub returns-in-Some : goal.returns-in-Some
unfolding first_size
returns-in-Some c = grind arith

pub returns-in-None : goal.returns-in-None
unfolding first_size
returns-in-None c = grind arith
