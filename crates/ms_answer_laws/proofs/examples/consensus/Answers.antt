-- Answers to the forms with `--consensus`, each computed.
use Rattle.std.proofs.Common.{refl}
use Rattle.ms_answer_laws.proofs.Answered.{answered}
use Rattle.ms_answer_laws.proofs.Computing.{answers_on_literals}
use Rattle.ms_answer_laws.proofs.examples.consensus.Goals as goal

pub returns : goal.returns
unfolding answers_on_literals
returns c = record {
  script_by_consensus = answered refl refl;
  check_by_consensus = answered refl refl;
  strict_by_consensus = answered refl refl;
  cheapest_by_consensus = answered refl refl;
  refused_by_consensus = (answered refl refl, answered refl refl);
  text_is_consensus = (answered refl refl, answered refl refl);
  no_form_by_consensus = (answered refl refl, answered refl refl, answered refl refl);
}
