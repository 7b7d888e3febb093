-- Answers to `decode HEX KEY..`, each computed.
use Rattle.std.proofs.Common.{refl}
use Rattle.ms_answer_laws.proofs.Answered.{answered}
use Rattle.ms_answer_laws.proofs.Computing.{answers_on_literals}
use Rattle.ms_answer_laws.proofs.examples.decodings.Goals as goal

pub returns : goal.returns
unfolding answers_on_literals
returns c = record {
  key = answered refl refl;
  chain = answered refl refl;
  key_hash = (answered refl refl, answered refl refl, answered refl refl);
  short = (answered refl refl, answered refl refl, answered refl refl, answered refl refl);
  no_script = (answered refl refl, answered refl refl, answered refl refl, answered refl refl, answered refl refl);
}
