use Rattle.ms_psbt_answer_laws.proofs.laws.writings.Goals as goal
use Rattle.ms_psbt_answer_laws.proofs.Written.{leaves_others, keeps_pairs, none_is_ready, written_again}

pub returns : goal.returns
returns c = record { leaves_others = leaves_others; keeps_pairs = keeps_pairs; none_is_ready = none_is_ready; written_again = written_again }
