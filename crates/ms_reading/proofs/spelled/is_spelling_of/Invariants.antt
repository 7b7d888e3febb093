use Rattle.std.proofs.Common.{◌≡◌, ◌↔◌, drop}
use Rattle.def_script.specs.Spell.{spell}
use Rattle.ms_script.specs.Views.{instructions_of}
use Rattle.ms_reading.proofs.spelled.is_spelling_of.Given as goal

abbrev pub invariant-loop-instr : goal.invariant-loop-instr
invariant-loop-instr l = (spell (instructions_of l.instrs) ≡ l.bytes) ↔ (spell (instructions_of (drop l.instr-index l.instrs)) ≡ l.rest)
