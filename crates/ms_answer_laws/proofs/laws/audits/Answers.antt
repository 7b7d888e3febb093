use Rattle.ms_answer_laws.proofs.AuditSteps.{walked_are_steps}
use Rattle.ms_answer_laws.proofs.laws.audits.Goals as goal

pub returns : goal.returns
returns c = record { walked = walked_are_steps }
