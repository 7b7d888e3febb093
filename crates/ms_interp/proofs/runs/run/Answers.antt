use Rattle.ms_interp.specs.Answering.{given_by}
use Rattle.ms_interp.proofs.Running.{from_start, not_started}
use Rattle.ms_interp.proofs.Bounds.{report-small}
use Rattle.ms_interp.proofs.runs.run.Goals as goal

pub returns-in-Err-clause-outcome : goal.returns-in-Err-clause-outcome
returns-in-Err-clause-outcome g c =
    not_started (given_by (g.C.SignatureChecker.checker c.args.sigs.now) c.args.locks.now) c.args.script.now c.args.stack.now _ c.in-Err.ensures.value

pub returns-in-Ok-clause-outcome : goal.returns-in-Ok-clause-outcome
returns-in-Ok-clause-outcome g c =
    from_start (given_by (g.C.SignatureChecker.checker c.args.sigs.now) c.args.locks.now) c.args.script.now c.args.stack.now _ c.steps.result
    c.in-Ok.ensures.value c.steps.ensures

pub returns-in-Ok-clause-small : goal.returns-in-Ok-clause-small
returns-in-Ok-clause-small g c =
    report-small (given_by (g.C.SignatureChecker.checker c.args.sigs.now) c.args.locks.now) c.args.script.now c.args.stack.now c.steps.result (returns-in-Ok-clause-outcome g c)
