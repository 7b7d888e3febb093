use Rattle.std.proofs.Common.{◌≡◌, ◌+◌, ◌++◌, length, take}
use Rattle.std.specs.List.{flat_map}
use Rattle.def_script.specs.Sizes.{size_bytes}
use Rattle.def_script.specs.Witness.{sized}
use Rattle.ms_witness.proofs.witness.witness_bytes.Given as goal

abbrev pub invariant-loop-i : goal.invariant-loop-i
invariant-loop-i l = l.bytes.items ≡ size_bytes (length l.stack + 1) ++ flat_map sized (take l.i l.stack)
