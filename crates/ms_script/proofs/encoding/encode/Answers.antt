use Rattle.std.proofs.Common.{arith}
use Rattle.std.proofs.lemmas.Grind.{common_steps}
use Rattle.ms_script.proofs.ScriptLemmas.{short_at, read_back}
use Rattle.ms_script.proofs.encoding.encode.Goals as goal

pub encode_one-requires : goal.encode_one-requires
encode_one-requires c = short_at _ _ _ c.loop-instr-test.true c.instr-item.is (rw c.instrs-instr-items.ensures c.requires)

pub returns-clause-decoded : goal.returns-clause-decoded
returns-clause-decoded c = read_back _ _ c.requires (grind (arith, common_steps))
