-- Answers to `audit TEXT`, each computed.
use Rattle.std.proofs.Common.{[], ◌∷◌, refl}
use Rattle.def_tree.specs.Tree.{just_1}
use Rattle.ms_answer_laws.proofs.Answered.{answered}
use Rattle.ms_answer_laws.proofs.Early.{long_audit_file}
use Rattle.ms_answer_laws.proofs.Computing.{answers_on_literals}
use Rattle.ms_answer_laws.proofs.examples.audits.Goals as goal

pub returns : goal.returns
unfolding answers_on_literals
returns c = record {
  both_keys = answered refl refl;
  one_key = answered refl refl;
  not_accepted = (answered refl refl, answered refl refl, answered refl refl);
  other_bytes = answered refl refl;
  texts = (answered refl refl, answered refl refl, answered refl refl);
  refused_files = (answered refl refl, answered refl refl);
  file_too_long = λ source long. answered refl (long_audit_file (0 ∷ []) _ source just_1 long);
}
