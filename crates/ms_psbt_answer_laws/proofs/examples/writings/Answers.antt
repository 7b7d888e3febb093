-- The examples of writings, each computed.
use Rattle.std.proofs.Common.{refl}
use Rattle.ms_psbt_answer_laws.proofs.Answered.{answered}
use Rattle.ms_psbt_answer_laws.proofs.Computing.{psbt_answers_on_literals}
use Rattle.ms_psbt_answer_laws.proofs.examples.writings.Goals as goal

pub returns : goal.returns
unfolding psbt_answers_on_literals
returns c = record {
  two_of_three = answered refl refl;
  nested = answered refl refl;
  base64 = answered refl refl;
  others = (answered refl refl, answered refl refl, answered refl refl);
  extracts = answered refl refl;
  extracts_nested = answered refl refl;
  not_final = (answered refl refl, answered refl refl);
}
