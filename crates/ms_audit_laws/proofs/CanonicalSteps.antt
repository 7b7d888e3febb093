-- A canonical satisfaction has steps by canonical rows alone.
use Rattle.std.proofs.Common.{true, false, reverse, refl, sym, ◌∙◌, ap, subst}
use Rattle.def_machine.specs.declared.Locks.{Locks}
use Rattle.def_audit.specs.Derives.{Derives}
use Rattle.ms_audit_laws.specs.Laws.{is_canonical, SatHasCanonicalSteps, SatIsCanonical}
use Rattle.ms_audit_laws.proofs.WalkTrees.{trail_is_unique}
use Rattle.ms_audit_laws.proofs.Canonical.{row_kept}

pub sat_has_canonical_steps : SatHasCanonicalSteps
sat_has_canonical_steps tree assets checker stack holds sat =
    let r = (row_kept assets checker holds false 0 tree).sat.to (reverse stack) sat in (r.0, r.1, r.3 refl)

pub sat_is_canonical : SatIsCanonical
sat_is_canonical tree given steps stack valid trail assets same holds sat =
    let r = sat_has_canonical_steps tree assets given.checker stack holds sat in
    let here : Derives tree given true r.0 stack = subst (λ (locks : Locks). Derives tree (record { checker = given.checker; locks = locks }) true r.0 stack) same r.1 in
    let one = trail_is_unique tree given r.0 steps stack valid here trail in
    ap is_canonical (sym one) ∙ r.2
