use Rattle.std.proofs.Common.{take, All}
use Rattle.def_tree.specs.Range.{IsKey}
use Rattle.ms_reading.proofs.found.see_keys.Given as goal

abbrev pub invariant-loop-key : goal.invariant-loop-key
invariant-loop-key l = All IsKey (take l.key-index l.keys)
