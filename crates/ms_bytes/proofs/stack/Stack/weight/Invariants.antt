use Rattle.std.proofs.Common.{◌≡◌, take}
use Rattle.def_script.specs.Witness.{weight as the_weight}
use Rattle.ms_bytes.proofs.stack.Stack.weight.Given as goal

abbrev pub invariant-loop-item : goal.invariant-loop-item
invariant-loop-item l = l.total ≡ the_weight (take l.item-index l.item-items)
