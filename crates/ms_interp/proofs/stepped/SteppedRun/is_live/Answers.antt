use Rattle.std.proofs.Common.{◌∙◌}
use Rattle.ms_interp.proofs.States.{live_at}
use Rattle.ms_interp.proofs.stepped.SteppedRun.is_live.Goals as goal

pub returns-clause-state : goal.returns-clause-state
returns-clause-state c = λ s at. c.all_taken.ensures ∙ live_at c.args.self.now.machine s at
