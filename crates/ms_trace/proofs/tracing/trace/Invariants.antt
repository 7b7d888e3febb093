use Rattle.std.proofs.Common.{◌-◌, length}
use Rattle.std.specs.String.{string_bytes}
use Rattle.ms_interp.specs.Answering.{given_by}
use Rattle.ms_trace.proofs.Loop.{KeepsTrace}
use Rattle.ms_trace.proofs.tracing.trace.Given as goal

abbrev pub invariant-instructions : goal.invariant-instructions
invariant-instructions g l =
    KeepsTrace (given_by (g.C.SignatureChecker.checker l.sigs) l.locks) l.script l.stack l.places (string_bytes l.fn.report) l.spot.offset l.spot.place l.run
    (string_bytes l.report)

abbrev pub decreases-instructions : goal.decreases-instructions
decreases-instructions g l = length l.script - l.spot.offset
