use Rattle.ms_audit_laws.proofs.Canonical.{canonical_is_sat}
use Rattle.ms_audit_laws.proofs.CanonicalSteps.{sat_has_canonical_steps, sat_is_canonical}
use Rattle.ms_audit_laws.proofs.laws.canonical.Goals as goal

pub returns : goal.returns
returns c = record { is_sat = canonical_is_sat; has_steps = sat_has_canonical_steps; no_others = sat_is_canonical }
