use Rattle.def_sane.specs.Unfit.{first_unfit_valid_under}
use Rattle.ms_calls.proofs.texts.valid_of.Goals as goal

pub returns-in-Err-clause-stop : goal.returns-in-Err-clause-stop
returns-in-Err-clause-stop c = c.misfit_stop.ensures (first_unfit_valid_under c.args.rules) c.in-Err.ensures.unfit
