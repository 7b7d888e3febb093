use Rattle.ms_way_laws.proofs.LocksHeld.{older_held, after_held}
use Rattle.ms_way_laws.proofs.laws.locks.Goals as goal

pub returns : goal.returns
returns c = record { older = older_held; after = after_held }
