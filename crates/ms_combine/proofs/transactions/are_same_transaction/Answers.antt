use Rattle.std.proofs.Common.{Bool, sym, subst, ◌∙◌, arith}
use Rattle.ms_combine.specs.Scaffolding.Again.{SameOrNot}
use Rattle.ms_combine.proofs.Spelled.{same_texts, same_or_not}
use Rattle.ms_combine.proofs.transactions.are_same_transaction.Goals as goal

pub returns-clause-text : goal.returns-clause-text
returns-clause-text c = λ first second e f.
    c.are_same_bytes.ensures
    ∙ same_texts c.args.own.now c.args.wanted.now first second (omega arith) (λ i. omega (arith, c.type_inv.own i)) (omega arith) (λ i. omega (arith, c.type_inv.wanted i)) e f

pub returns-clause-same : goal.returns-clause-same
returns-clause-same c = λ first second e f.
    subst (λ (b : Bool). SameOrNot b first second) (sym c.are_same_bytes.ensures)
    (same_or_not c.args.own.now c.args.wanted.now first second (omega arith) (λ i. omega (arith, c.type_inv.own i)) (omega arith) (λ i. omega (arith, c.type_inv.wanted i)) e f)
