-- Answers to `plan TEXT`, each computed.
use Rattle.std.proofs.Common.{refl}
use Rattle.def_machine.specs.Samples.{key_a}
use Rattle.def_types.specs.Samples.{pk}
use Rattle.ms_answer_laws.proofs.Answered.{answered}
use Rattle.ms_answer_laws.proofs.Early.{long_plan_file}
use Rattle.ms_answer_laws.proofs.Computing.{answers_on_literals}
use Rattle.ms_answer_laws.proofs.examples.plans.Goals as goal

pub returns : goal.returns
unfolding answers_on_literals
returns c = record {
  shortest_two = answered refl refl;
  lock_counts = (answered refl refl, answered refl refl);
  too_few_keys = (answered refl refl, answered refl refl);
  refused_plan_files = (
    answered refl refl,
    answered refl refl,
    answered refl refl,
    answered refl refl,
    answered refl refl,
    answered refl refl,
    answered refl refl,
    answered refl refl,
  );
  plan_refused = (answered refl refl, answered refl refl);
  plan_file_too_long = λ source long. answered refl (long_plan_file source (pk key_a) long);
}
