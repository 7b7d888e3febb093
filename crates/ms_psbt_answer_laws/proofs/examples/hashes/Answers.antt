-- The examples of hashes, each computed.
use Rattle.std.proofs.Common.{refl}
use Rattle.ms_psbt_answer_laws.proofs.Answered.{answered}
use Rattle.ms_psbt_answer_laws.proofs.Computing.{psbt_answers_on_literals}
use Rattle.ms_psbt_answer_laws.proofs.examples.hashes.Goals as goal

pub returns : goal.returns
unfolding psbt_answers_on_literals
returns c = record {
  of_types = answered refl refl;
  of_none = answered refl refl;
}
