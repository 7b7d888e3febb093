use Rattle.def_descriptor_answer.proofs.OneAnswer.{one_answer, others_alike, answers_have_status}
use Rattle.def_descriptor_answer.proofs.laws.one_answer.Goals as goal

pub returns-clause-one : goal.returns-clause-one
returns-clause-one c = one_answer c.one_answer.ensures.one

pub returns-clause-alike : goal.returns-clause-alike
returns-clause-alike c = others_alike

pub returns-clause-status : goal.returns-clause-status
returns-clause-status c = answers_have_status
