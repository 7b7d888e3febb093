use Rattle.std.proofs.Common.{◌≡◌, ◌++◌, drop}
use Rattle.def_script.specs.Spell.{spell}
use Rattle.ms_script.specs.Views.{instructions_of}
use Rattle.ms_script.proofs.encoding.encode.Given as goal

abbrev pub invariant-loop-instr : goal.invariant-loop-instr
invariant-loop-instr l = l.bytes.items ++ spell (instructions_of (drop l.instr-index l.instr-items)) ≡ spell l.script
