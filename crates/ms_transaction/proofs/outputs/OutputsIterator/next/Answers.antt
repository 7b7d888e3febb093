use Rattle.std.proofs.Common.{◌<◌, length, sym, ap, ◌∙◌, arith}
use Rattle.ms_transaction.specs.Parts.{outputs_in}
use Rattle.ms_transaction.proofs.Spelling.{next_output, no_more}
use Rattle.ms_transaction.proofs.outputs.OutputsIterator.next.Goals as goal

pub returns-in_err-output-clause-steps : goal.returns-in_err-output-clause-steps
returns-in_err-output-clause-steps c =
    let none = sym c.self.view_is ∙ no_more c.self.inside.rest.now c.in_err-output.ensures in rw c.from_residual.ensures (none, none)

pub invariant_of-self : goal.invariant_of-self
invariant_of-self c = (next_output c.self.inside.rest.now c.in_ok-output.output c.in_ok-output.rest.now c.self.invariant c.in_ok-output.ensures).1

pub returns-clause-steps : goal.returns-clause-steps
returns-clause-steps c = sym c.self.view_is ∙ (next_output c.self.inside.rest.now c.in_ok-output.output c.in_ok-output.rest.now c.self.invariant c.in_ok-output.ensures).0

pub returns-clause-goes : goal.returns-clause-goes
returns-clause-goes c =
    let step = sym c.self.view_is ∙ (next_output c.self.inside.rest.now c.in_ok-output.output c.in_ok-output.rest.now c.self.invariant c.in_ok-output.ensures).0 in
    let fewer : length (outputs_in c.in_ok-output.rest.now) < length c.args.self.now = omega (arith, ap length step) in
    record { on = λ f. (tt, tt, fewer); keeps = tt; rests = λ f. tt }
