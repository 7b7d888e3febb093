-- One answer, and some.
use Rattle.def_descriptor.proofs.OneAnswer.{one, some}
use Rattle.def_descriptor.proofs.laws.one_answer.Goals as goal

pub returns-clause-one : goal.returns-clause-one
returns-clause-one c text a b utf8 first second = one text utf8 first second

pub returns-clause-some : goal.returns-clause-some
returns-clause-some c text utf8 = some text utf8
