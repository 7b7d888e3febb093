use Rattle.std.specs.Prelude.{drop}
use Rattle.std.specs.String.{string_bytes}
use Rattle.ms_interp.specs.Answering.{given_by}
use Rattle.ms_trace.proofs.Lines.{taken, refused}
use Rattle.ms_trace.proofs.step_line.take.Goals as goal

pub returns-in-Ok-push_step-clause-taken : goal.returns-in-Ok-push_step-clause-taken
returns-in-Ok-push_step-clause-taken g c = λ s first at.
    taken (given_by (g.C.SignatureChecker.checker c.args.sigs.now) c.args.locks.now) c.args.instr c.args.spot.offset first c.args.spot.place c.args.run.now
    c.step.new.self (string_bytes c.args.report.now) (string_bytes c.push_step.new.report) (drop c.args.spot.place c.args.places.now) s at
    (c.in-Ok.ensures.value s at) (rw c.of-before.ensures at c.in-Ok-push_step.ensures)

pub returns-in-Ok-push_stop-clause-taken : goal.returns-in-Ok-push_stop-clause-taken
returns-in-Ok-push_stop-clause-taken g c = λ s first at.
    rw c.in-Err-Refused.field-0-is
    (refused (given_by (g.C.SignatureChecker.checker c.args.sigs.now) c.args.locks.now) c.args.instr c.args.spot.offset first c.args.spot.place
    c.in-Err-Refused.place c.step.new.self (string_bytes c.args.report.now) (string_bytes c.push_stop.new.report)
    (drop c.args.spot.place c.args.places.now) s c.in-Err-Refused.fault (rw c.in-Err-Refused.field-0-is at (c.in-Err-Refused.ensures.value s at))
    c.in-Ok-push_stop.ensures)
