use Rattle.std.proofs.Common.{◌∙◌, sym, ap, List, Some}
use Rattle.std.proofs.lemmas.Bool.{false≢true}
use Rattle.std.proofs.lemmas.Option.{none-some}
use Rattle.std.proofs.lemmas.Slice.Eq.{slice_eq-Decides}
use Rattle.def_audit.specs.declared.Step.{Step}
use Rattle.ms_tree.specs.Shape.{shape}
use Rattle.ms_interp.specs.Answering.{given_by}
use Rattle.ms_audit_laws.proofs.Walks.{some_is}
use Rattle.ms_audit_laws.proofs.WalkTrees.{walk_is_trail, trail_is_accepted}
use Rattle.ms_audit.proofs.Equal.{step_decides}
use Rattle.ms_audit.proofs.checking.check_trail.Goals as goal

pub returns-in-Some-clause-derives : goal.returns-in-Some-clause-derives
returns-in-Some-clause-derives g c =
    let w = walk_is_trail (shape c.args.tree.now) (given_by (g.C.SignatureChecker.checker c.args.sigs.now) c.args.locks.now) c.args.trail.now c.args.stack.now c.requires.valid in
    let same = slice_eq-Decides step_decides c.as_slice.result.now c.args.trail.now c.eq.result c.eq.ensures in
    let found = sym c.in_ok-found.ensures ∙ c.in-Some.is ∙ ap (λ (steps : List Step). Some steps) (sym c.as_slice.ensures) in (
      λ e. w.0 (found ∙ ap (λ (steps : List Step). Some steps) (same.0 e)),
      λ d. same.1 (some_is c.as_slice.result.now c.args.trail.now (sym found ∙ w.1 d)),
    )

pub returns-in-Some-clause-accepted : goal.returns-in-Some-clause-accepted
returns-in-Some-clause-accepted g c =
    λ e. trail_is_accepted (shape c.args.tree.now) (given_by
    (g.C.SignatureChecker.checker c.args.sigs.now) c.args.locks.now) c.args.trail.now c.args.stack.now c.requires.in_range.writable c.requires.valid
    ((returns-in-Some-clause-derives g c).0 e)

pub returns-in-None-clause-derives : goal.returns-in-None-clause-derives
returns-in-None-clause-derives g c =
    let w = walk_is_trail (shape c.args.tree.now) (given_by (g.C.SignatureChecker.checker c.args.sigs.now) c.args.locks.now) c.args.trail.now c.args.stack.now c.requires.valid in (
      λ e. absurd (false≢true e),
      λ d. absurd (none-some c.args.trail.now (sym c.in-None.is ∙ c.in_ok-found.ensures ∙ w.1 d)),
    )
