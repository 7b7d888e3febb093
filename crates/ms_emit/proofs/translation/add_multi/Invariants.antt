use Rattle.std.proofs.Common.{◌≡◌, ◌++◌, drop, map}
use Rattle.def_script.specs.Instruction.{push}
use Rattle.ms_emit.proofs.translation.add_multi.Given as goal

abbrev pub invariant-loop-key : goal.invariant-loop-key
invariant-loop-key l = l.script ++ map push (drop l.key-index l.keys) ≡ l.initial.script ++ map push l.keys
