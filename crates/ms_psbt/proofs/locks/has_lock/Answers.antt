use Rattle.std.proofs.Common.{sym}
use Rattle.ms_psbt.proofs.Locking.{no_lock}
use Rattle.ms_psbt.proofs.locks.has_lock.Goals as goal

pub returns-in-None : goal.returns-in-None
returns-in-None c = λ forms map e. no_lock c.args.lock map.0 c.args.from (sym (c.in-None.ensures forms map e))
