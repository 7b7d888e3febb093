use Rattle.ms_audit_laws.proofs.WalkTrees.{accepted_has_trail, trail_is_accepted}
use Rattle.ms_audit_laws.proofs.laws.acceptance.Goals as goal

pub returns : goal.returns
returns c = record { has_trail = accepted_has_trail; is_accepted = trail_is_accepted }
