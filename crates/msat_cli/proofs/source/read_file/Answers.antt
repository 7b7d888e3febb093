use Rattle.std.proofs.Common.{Err, ap}
use Rattle.def_answer.specs.Lines.{MOST_FILE}
use Rattle.ms_io.proofs.Holding.{over_held}
use Rattle.msat_cli.proofs.source.read_file.Goals as goal

pub returns-in-Err-TooLong-clause-stop : goal.returns-in-Err-TooLong-clause-stop
returns-in-Err-TooLong-clause-stop g c = over_held MOST_FILE _ (c.in-Err-TooLong.ensures.too_long (ap Err c.in-Err-TooLong.field-0-is))
