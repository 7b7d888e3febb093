use Rattle.std.proofs.Common.{◌∙◌, sym}
use Rattle.std.proofs.lemmas.Option.{none-some}
use Rattle.ms_tree.specs.Shape.{shape}
use Rattle.ms_interp.specs.Answering.{given_by}
use Rattle.ms_audit_laws.proofs.WalkTrees.{walk_is_trail, accepted_has_trail}
use Rattle.ms_audit.proofs.spend.Spend.accepted_trail.Goals as goal

pub unreachable-requires : goal.unreachable-requires
unreachable-requires g c =
    let found = accepted_has_trail (shape c.args.tree.now) (given_by (g.C.SignatureChecker.checker c.args.self.now.sigs.now) c.args.self.now.locks.now) c.args.self.now.stack.now c.requires.accepted.0
    c.requires.in_range.writable c.requires.valid c.requires.accepted.1
    in none-some found.0 (sym c.in-None.is ∙ c.in_ok-trail.ensures ∙ found.1)

pub returns : goal.returns
returns g c =
    (walk_is_trail (shape c.args.tree.now) (given_by (g.C.SignatureChecker.checker c.args.self.now.sigs.now) c.args.self.now.locks.now) c.in-Some.trail c.args.self.now.stack.now c.requires.valid).0
    (sym c.in_ok-trail.ensures ∙ c.in-Some.is)
