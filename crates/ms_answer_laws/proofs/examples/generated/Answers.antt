-- Answers to `gen N`, each computed.
use Rattle.std.proofs.Common.{refl}
use Rattle.ms_answer_laws.proofs.Answered.{answered}
use Rattle.ms_answer_laws.proofs.Computing.{answers_on_literals}
use Rattle.ms_answer_laws.proofs.examples.generated.Goals as goal

pub returns : goal.returns
unfolding answers_on_literals
returns c = record {
  gen_one = answered refl refl;
  gen_four = answered refl refl;
}
