use Rattle.ms_answer_laws.proofs.laws.generator.Goals as goal
use Rattle.ms_answer_laws.proofs.GeneratedRead.{generated_is_read}
use Rattle.ms_answer_laws.proofs.GeneratedSane.{generated_is_sane}
use Rattle.ms_answer_laws.proofs.GeneratedHeld.{generated_are_assets}
use Rattle.ms_answer_laws.proofs.GeneratedChosen.{generated_is_satisfied}

pub returns : goal.returns
returns c = record { read = generated_is_read; sane = generated_is_sane; assets = generated_are_assets; satisfied = generated_is_satisfied }
