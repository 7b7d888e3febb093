use Rattle.std.proofs.Common.{◌-◌, length}
use Rattle.ms_interp.specs.Answering.{given_by}
use Rattle.ms_interp.proofs.Running.{KeepsRun}
use Rattle.ms_interp.proofs.runs.steps.Given as goal

abbrev pub invariant-instructions : goal.invariant-instructions
invariant-instructions g l = KeepsRun (given_by (g.C.SignatureChecker.checker l.sigs) l.locks) l.script l.fn.machine l.from l.place l.machine

abbrev pub decreases-instructions : goal.decreases-instructions
decreases-instructions g l = length l.script - l.from
