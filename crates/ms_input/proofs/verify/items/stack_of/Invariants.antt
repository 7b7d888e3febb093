use Rattle.std.proofs.Common.{◌≡◌, take}
use Rattle.ms_input.specs.Verdicts.{items_in}
use Rattle.ms_input.proofs.verify.items.stack_of.Given as goal

abbrev pub invariant-items : goal.invariant-items
invariant-items l = l.stack ≡ items_in (take l.item-index l.items)
