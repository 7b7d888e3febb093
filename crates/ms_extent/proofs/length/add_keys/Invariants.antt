use Rattle.std.proofs.Common.{◌≡◌, drop, map}
use Rattle.def_script.specs.Instruction.{push}
use Rattle.ms_extent.specs.Extent.{extended_by}
use Rattle.ms_extent.proofs.length.add_keys.Given as goal

abbrev pub invariant-loop-key : goal.invariant-loop-key
invariant-loop-key l = extended_by l.extent (map push (drop l.key-index l.keys)) ≡ extended_by l.initial.extent (map push l.keys)
