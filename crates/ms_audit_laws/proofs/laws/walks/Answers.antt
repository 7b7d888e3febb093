use Rattle.ms_audit_laws.proofs.WalkTrees.{walk_is_trail, trail_is_unique}
use Rattle.ms_audit_laws.proofs.laws.walks.Goals as goal

pub returns : goal.returns
returns c = record { walk = walk_is_trail; unique = trail_is_unique }
