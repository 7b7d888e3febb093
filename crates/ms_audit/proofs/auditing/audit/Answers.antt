use Rattle.ms_tree.specs.Shape.{shape}
use Rattle.ms_interp.specs.Answering.{given_by}
use Rattle.ms_audit_laws.proofs.CanonicalSteps.{sat_is_canonical}
use Rattle.ms_audit.proofs.auditing.audit.Goals as goal

pub accepted_trail-requires-clause-accepted : goal.accepted_trail-requires-clause-accepted
accepted_trail-requires-clause-accepted g c = (
  c.in_ok-report.report.checks,
  record {
    ops = c.in_ok-report.report.ops;
    peak = c.in_ok-report.report.peak;
    run = rw (← c.in_ok-script.ensures, ← c.as_slice.ensures) c.in_ok-report.ensures.outcome;
  },
)

pub returns-clause-canonical : goal.returns-clause-canonical
returns-clause-canonical g c =
    sat_is_canonical (shape c.args.tree.now) (given_by (g.C.SignatureChecker.checker c.args.sigs.now) c.args.locks.now) c.in_ok-trail.trail c.args.stack.now c.requires.valid
    c.in_ok-trail.ensures
