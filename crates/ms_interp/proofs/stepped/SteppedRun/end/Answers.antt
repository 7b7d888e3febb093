use Rattle.ms_interp.proofs.States.{ends_as}
use Rattle.ms_interp.proofs.stepped.SteppedRun.end.Goals as goal

pub returns : goal.returns
returns c = λ s at. ends_as c.ended.result c.args.place c.args.self.machine s c.ended.ensures at
