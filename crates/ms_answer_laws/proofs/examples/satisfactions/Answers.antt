-- Answers to `satisfy TEXT` and `satisfy --malleable TEXT`, each computed.
use Rattle.std.proofs.Common.{refl}
use Rattle.def_machine.specs.Samples.{key_a}
use Rattle.def_types.specs.Samples.{pk}
use Rattle.def_sane.specs.declared.Rules.TheVariants.{Policy}
use Rattle.def_choice.specs.Strict.{strict}
use Rattle.ms_answer_laws.proofs.Answered.{answered}
use Rattle.ms_answer_laws.proofs.Early.{long_asset_file}
use Rattle.ms_answer_laws.proofs.Computing.{answers_on_literals}
use Rattle.ms_answer_laws.proofs.examples.satisfactions.Goals as goal

pub returns : goal.returns
unfolding answers_on_literals
returns c = record {
  two_of_three = answered refl refl;
  shorter_signature = (answered refl refl, answered refl refl);
  late_key = answered refl refl;
  too_early = (answered refl refl, answered refl refl, answered refl refl);
  void_lock = answered refl refl;
  time_lock = answered refl refl;
  no_time = (answered refl refl, answered refl refl, answered refl refl);
  strict_threshold = answered refl refl;
  cheapest_threshold = answered refl refl;
  strict_either = answered refl refl;
  cheapest_either = answered refl refl;
  lock_in_threshold = answered refl refl;
  lock_too_early = answered refl refl;
  signatures_for_lock = answered refl refl;
  zeros_as_preimage = answered refl refl;
  zeros_unknown = answered refl refl;
  texts_first = (answered refl refl, answered refl refl);
  zero_has_none = (answered refl refl, answered refl refl);
  refused_files = (answered refl refl, answered refl refl, answered refl refl, answered refl refl, answered refl refl, answered refl refl);
  refused_formats = (answered refl refl, answered refl refl, answered refl refl, answered refl refl, answered refl refl);
  file_too_long = λ source long. answered refl (long_asset_file Policy strict source (pk key_a) long);
}
