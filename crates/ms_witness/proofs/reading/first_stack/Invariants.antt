use Rattle.std.proofs.Common.{◌≡◌, ◌-◌}
use Rattle.ms_witness.specs.Reading.{first_items}
use Rattle.ms_witness.proofs.Loop.{after}
use Rattle.ms_witness.proofs.reading.first_stack.Given as goal

abbrev pub invariant-loop : goal.invariant-loop
invariant-loop l = after l.stack (first_items (l.count - l.counter) l.rest) ≡ first_items l.count l.bytes
