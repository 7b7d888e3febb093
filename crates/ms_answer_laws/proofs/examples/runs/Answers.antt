-- Answers to `run`, each computed.
use Rattle.std.proofs.Common.{refl}
use Rattle.ms_answer_laws.proofs.Answered.{answered}
use Rattle.ms_answer_laws.proofs.Early.{long_run_file}
use Rattle.ms_answer_laws.proofs.Computing.{answers_on_literals}
use Rattle.ms_answer_laws.proofs.examples.runs.Goals as goal

pub returns : goal.returns
unfolding answers_on_literals
returns c = record {
  accepted_runs = (answered refl refl, answered refl refl, answered refl refl);
  accepted_signature = answered refl refl;
  fault_lines = (
    answered refl refl,
    answered refl refl,
    answered refl refl,
    answered refl refl,
    answered refl refl,
    answered refl refl,
    answered refl refl,
    answered refl refl,
    answered refl refl,
    answered refl refl,
    answered refl refl,
    answered refl refl,
    answered refl refl,
    answered refl refl,
    answered refl refl,
    answered refl refl,
    answered refl refl,
  );
  null_dummy_line = answered refl refl;
  limit_lines = (answered refl refl, answered refl refl, answered refl refl, answered refl refl);
  refused_run_files = (answered refl refl, answered refl refl, answered refl refl);
  run_file_too_long = λ source long. answered refl (long_run_file source long);
}
