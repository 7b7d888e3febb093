use Rattle.def_answer.specs.Satisfy.{reason_by}
use Rattle.ms_calls.proofs.texts.choice_of.Goals as goal

pub returns-in-Err-clause-stop : goal.returns-in-Err-clause-stop
returns-in-Err-clause-stop c = c.misfit_stop.ensures (reason_by c.args.choice c.args.rules) c.in-Err.ensures.unfit
