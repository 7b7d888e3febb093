-- Answers to `policy TEXT`, each computed.
use Rattle.std.proofs.Common.{refl}
use Rattle.ms_answer_laws.proofs.Answered.{answered}
use Rattle.ms_answer_laws.proofs.Computing.{answers_on_literals}
use Rattle.ms_answer_laws.proofs.examples.policies.Goals as goal

pub returns : goal.returns
unfolding answers_on_literals
returns c = record {
  late_key = answered refl refl;
  lock = answered refl refl;
  hashes = answered refl refl;
  zero = answered refl refl;
  refused = (answered refl refl, answered refl refl);
}
