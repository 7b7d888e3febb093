use Rattle.std.proofs.Common.{◌∙◌, subst}
use Rattle.ms_input.specs.Seen.{Seen, input_seen}
use Rattle.ms_input.specs.Scaffolding.Kept.{IsFound}
use Rattle.ms_input.proofs.Found.{stack_told}
use Rattle.ms_input.proofs.input.Input.stack.Goals as goal

pub returns-clause-stack : goal.returns-clause-stack
returns-clause-stack c =
    let found = subst (λ (s : Seen). IsFound (input_seen s) c.self.inside.settled) c.self.view_is c.self.invariant.found in
    c.as_ref.ensures.value ∙ stack_told (input_seen c.args.self.now) c.self.inside.settled found
