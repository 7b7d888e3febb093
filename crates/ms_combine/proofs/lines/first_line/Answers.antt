use Rattle.ms_combine.proofs.Lining.{line_alone, line_found}
use Rattle.ms_combine.proofs.lines.first_line.Goals as goal

pub returns-in-Some-clause-line : goal.returns-in-Some-clause-line
returns-in-Some-clause-line c = line_found c.args.bytes.now c.in-Some.end c.memchr.result c.in-Some.is c.memchr.ensures

pub returns-in-None-clause-line : goal.returns-in-None-clause-line
returns-in-None-clause-line c = line_alone c.args.bytes.now c.memchr.result c.in-None.is c.memchr.ensures
