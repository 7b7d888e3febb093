use Rattle.std.proofs.Common.{◌≡◌}
use Rattle.def_script.specs.Spell.{spell}
use Rattle.ms_script.specs.Views.{instructions_of}
use Rattle.ms_reading.proofs.Compared.{short_at, spelled_on}
use Rattle.ms_reading.proofs.spelled.is_spelling_of.Goals as goal

pub behind_instr-requires : goal.behind_instr-requires
behind_instr-requires c = short_at _ _ _ c.loop-instr-test.true c.instr-item.is c.requires

pub loop-instr-preserved : goal.loop-instr-preserved
loop-instr-preserved c =
    spelled_on c.args.instrs.now c.loop-instr.instr-index c.instr-item.result c.loop-instr.rest.now c.in-Some.next.now (spell (instructions_of c.args.instrs.now) ≡ c.args.bytes.now)
    c.loop-instr-test.true c.instr-item.is c.in-Some.ensures c.loop-instr.invariant
