-- Answers to `tree TEXT`, each computed.
use Rattle.std.proofs.Common.{refl}
use Rattle.ms_answer_laws.proofs.Answered.{answered}
use Rattle.ms_answer_laws.proofs.Computing.{answers_on_literals}
use Rattle.ms_answer_laws.proofs.examples.outlined.Goals as goal

pub returns : goal.returns
unfolding answers_on_literals
returns c = record {
  choice = answered refl refl;
  rule = answered refl refl;
  malleable = answered refl refl;
  words = (answered refl refl, answered refl refl, answered refl refl, answered refl refl);
}
