use Rattle.ms_script.specs.Reads.{item_of}
use Rattle.ms_interp.specs.Answering.{given_by}
use Rattle.ms_interp.proofs.States.{steps_as, stops_as}
use Rattle.ms_interp.proofs.stepped.SteppedRun.step.Goals as goal

pub returns-in-Ok-clause-value : goal.returns-in-Ok-clause-value
returns-in-Ok-clause-value g c = λ s at.
    steps_as (given_by (g.C.SignatureChecker.checker c.args.sigs.now) c.args.locks.now) (item_of c.args.instr) c.args.self.now.machine c.step.new.self s
    c.in-Ok.ensures.value at

pub returns-in-Err-clause-value : goal.returns-in-Err-clause-value
returns-in-Err-clause-value g c = λ s at.
    rw c.stopped.ensures
    (stops_as (Unit {0}) (given_by (g.C.SignatureChecker.checker c.args.sigs.now) c.args.locks.now) (item_of c.args.instr) c.in-Err.stop c.args.self.now.machine
    (record { machine = c.step.new.self }) c.args.place s c.in-Err.ensures.value at)
