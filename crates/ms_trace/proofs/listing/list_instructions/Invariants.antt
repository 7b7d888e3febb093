use Rattle.std.proofs.Common.{◌-◌, length}
use Rattle.std.specs.String.{string_bytes}
use Rattle.ms_trace.proofs.Listed.{KeepsList}
use Rattle.ms_trace.proofs.listing.list_instructions.Given as goal

abbrev pub invariant-instructions : goal.invariant-instructions
invariant-instructions l = KeepsList l.script l.places (string_bytes l.fn.report) l.offset l.count (string_bytes l.report)

abbrev pub decreases-instructions : goal.decreases-instructions
decreases-instructions l = length l.script - l.offset
