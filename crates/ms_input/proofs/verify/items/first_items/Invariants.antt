use Rattle.std.proofs.Common.{◌≡◌, ◌-◌}
use Rattle.def_psbt.specs.Part.{first_many, first_string}
use Rattle.ms_input.specs.Verdicts.{items_in}
use Rattle.ms_input.proofs.Reading.{after}
use Rattle.ms_input.proofs.verify.items.first_items.Given as goal

abbrev pub invariant-items : goal.invariant-items
invariant-items l = after (items_in l.items.items) (first_many first_string (l.count - l.counter) l.rest) ≡ first_many first_string l.count l.bytes
