use Rattle.std.proofs.Common.{sym}
use Rattle.ms_psbt.specs.declared.locks.Lock.TheVariants as lock
use Rattle.ms_psbt.proofs.Locking.{no_lock}
use Rattle.ms_psbt.proofs.locks.locks_alone.Goals as goal

pub returns-in-None-clause-time : goal.returns-in-None-clause-time
returns-in-None-clause-time c = λ forms map e. no_lock lock.TimeAlone map.0 c.args.from (sym (c.in-None.ensures forms map e))

pub returns-in-None-clause-height : goal.returns-in-None-clause-height
returns-in-None-clause-height c = λ forms map e. no_lock lock.HeightAlone map.0 c.args.from (sym (c.in-None.ensures forms map e))
