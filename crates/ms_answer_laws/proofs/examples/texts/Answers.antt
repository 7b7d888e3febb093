-- Answers to words without a form, and to `script TEXT` and `check TEXT`, each computed.
use Rattle.std.proofs.Common.{refl}
use Rattle.ms_answer_laws.proofs.Answered.{answered}
use Rattle.ms_answer_laws.proofs.Computing.{answers_on_literals}
use Rattle.ms_answer_laws.proofs.examples.texts.Goals as goal

pub returns : goal.returns
unfolding answers_on_literals
returns c = record {
  no_form = (
    answered refl refl,
    answered refl refl,
    answered refl refl,
    answered refl refl,
    answered refl refl,
    answered refl refl,
    answered refl refl,
    answered refl refl,
    answered refl refl,
  );
  script_of_key = answered refl refl;
  script_of_one = answered refl refl;
  script_of_same_key = answered refl refl;
  check_of_key = answered refl refl;
  check_of_chain = answered refl refl;
  check_of_zero = answered refl refl;
  check_of_either = answered refl refl;
  unspelled = (answered refl refl, answered refl refl, answered refl refl, answered refl refl, answered refl refl, answered refl refl, answered refl refl);
  too_deep_or_long = (answered refl refl, answered refl refl, answered refl refl, answered refl refl);
  broken_rules = (answered refl refl, answered refl refl, answered refl refl, answered refl refl);
  not_sane = (answered refl refl, answered refl refl, answered refl refl, answered refl refl);
}
