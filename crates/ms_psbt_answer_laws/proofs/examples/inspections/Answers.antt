-- The examples of inspections, each computed.
use Rattle.std.proofs.Common.{refl}
use Rattle.ms_psbt_answer_laws.proofs.Answered.{answered}
use Rattle.ms_psbt_answer_laws.proofs.Computing.{psbt_answers_on_literals}
use Rattle.ms_psbt_answer_laws.proofs.examples.inspections.Goals as goal

pub returns : goal.returns
unfolding psbt_answers_on_literals
returns c = record {
  ready = answered refl refl;
  one_signature = answered refl refl;
  lightest = answered refl refl;
  too_early = answered refl refl;
  no_reading = answered refl refl;
  unfit = answered refl refl;
  types = (answered refl refl, answered refl refl);
  others = (answered refl refl, answered refl refl, answered refl refl);
  nested = (answered refl refl, answered refl refl, answered refl refl);
}
