-- The examples of refusals, each computed.
use Rattle.std.proofs.Common.{refl}
use Rattle.ms_psbt_answer_laws.proofs.Answered.{answered}
use Rattle.ms_psbt_answer_laws.proofs.Computing.{psbt_answers_on_literals}
use Rattle.ms_psbt_answer_laws.proofs.examples.refusals.Goals as goal

pub returns : goal.returns
unfolding psbt_answers_on_literals
returns c = record {
  no_form = (answered refl refl, answered refl refl, answered refl refl, answered refl refl, answered refl refl);
  refused = (answered refl refl, answered refl refl, answered refl refl);
}
