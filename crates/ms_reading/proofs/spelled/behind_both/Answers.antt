use Rattle.ms_reading.proofs.Compared.{behind_second, behind_none}
use Rattle.ms_reading.proofs.spelled.behind_both.Goals as goal

pub returns-in_default : goal.returns-in_default
returns-in_default c = behind_none c.args.first.now c.args.second.now c.args.bytes.now c.in_default.ensures

pub returns : goal.returns
returns c = behind_second c.args.first.now c.args.second.now c.args.bytes.now c.in-Some.rest.now c.behind-2.result c.in-Some.ensures c.behind-2.ensures
