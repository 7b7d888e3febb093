use Rattle.std.proofs.Common.{◌≡◌, ◌-◌, ◌∙◌, ap, sym, [], get_or}
use Rattle.def_machine.specs.Stacks.{is_empty}
use Rattle.ms_interp.specs.Answering.{given_by}
use Rattle.ms_audit_laws.specs.Walk.{with_step}
use Rattle.ms_audit.specs.Scaffolding.Walking.{below}
use Rattle.ms_audit.proofs.Lefts.{empty_is, multi_off}
use Rattle.ms_audit.proofs.spend.Spend.multi.Goals as goal

pub returns-clause-row : goal.returns-clause-row
returns-clause-row g c = λ node.
    let e : is_empty (get_or c.args.self.now.stack.now (c.args.left.now - c.args.k - 1) [])
    ≡ c.is_empty.result = rw (← c.item-dummy.ensures) (empty_is c.item-dummy.result.now ∙ sym c.is_empty.ensures) in
    multi_off (given_by (g.C.SignatureChecker.checker c.args.self.now.sigs.now) c.args.self.now.locks.now) node c.args.k c.args.keys.now
    c.args.self.now.stack.now c.args.left.now c.if-top-k.false c.requires.left
    ∙ ap (λ v. with_step node v [] (below c.args.self.now.stack.now (c.args.left.now - c.args.k - 1)))
    (rw (e, ← c.are_found.ensures, ← c.are_empty.ensures) (sym c.of_multi.ensures))
