use Rattle.ms_interp.proofs.Running.{goes_on, finishes, breaks, stops}
use Rattle.ms_interp.proofs.runs.steps.Goals as goal

pub returns-in-Ok-None : goal.returns-in-Ok-None
returns-in-Ok-None g c =
    let found = rw c.in-Ok-None.field-0-is at c.in-Ok-None.ensures.items in
    finishes _ _ _ _ _ _ _ c.instructions.invariant found c.ended.ensures

pub returns-in-Err-step : goal.returns-in-Err-step
returns-in-Err-step g c =
    let found = rw c.in-Ok-Some.field-0-is at c.in-Ok-Some.ensures.items in
    rw c.stopped.ensures (stops _ _ _ _ _ _ _ _ _ c.instructions.invariant found.2 c.in-Err-step.ensures.value)

pub instructions-preserved : goal.instructions-preserved
instructions-preserved g c =
    let found = rw c.in-Ok-Some.field-0-is at c.in-Ok-Some.ensures.items in
    goes_on _ _ _ _ _ _ _ _ _ c.instructions.invariant found.0 found.1 found.2 c.in-Ok.ensures.value c.in-Ok.ensures.depth

pub returns-in-Err : goal.returns-in-Err
returns-in-Err g c = rw c.unread.ensures (breaks _ _ _ _ _ _ _ c.instructions.invariant c.in-Err.ensures.items)
