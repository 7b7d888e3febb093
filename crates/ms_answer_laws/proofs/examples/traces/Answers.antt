-- Answers to `trace` and `trace TEXT`, each computed.
use Rattle.std.proofs.Common.{refl}
use Rattle.ms_answer_laws.proofs.Answered.{answered}
use Rattle.ms_answer_laws.proofs.Early.{long_trace_file}
use Rattle.ms_answer_laws.proofs.Computing.{answers_on_literals}
use Rattle.ms_answer_laws.proofs.examples.traces.Goals as goal

pub returns : goal.returns
unfolding answers_on_literals
returns c = record {
  key = answered refl refl;
  faults = (answered refl refl, answered refl refl, answered refl refl);
  choice = answered refl refl;
  refusals = (answered refl refl, answered refl refl);
  texts = (answered refl refl, answered refl refl, answered refl refl);
  refused_files = (answered refl refl, answered refl refl, answered refl refl);
  file_too_long = λ source long. answered refl (long_trace_file source long);
}
