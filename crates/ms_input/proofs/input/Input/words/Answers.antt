use Rattle.std.proofs.Common.{ap, subst, ◌∙◌}
use Rattle.def_spend.specs.declared.State.{State}
use Rattle.ms_input.specs.Settled.{words_in}
use Rattle.ms_input.specs.Seen.{Seen, input_seen}
use Rattle.ms_input.specs.Scaffolding.Kept.{IsFound}
use Rattle.ms_input.proofs.input.Input.words.Goals as goal

pub returns : goal.returns
returns c =
    let found = subst (λ (s : Seen). IsFound (input_seen s) c.self.inside.settled) c.self.view_is c.self.invariant.found in
    c.words_of.ensures ∙ found.words_are ∙ ap (λ (s : State). words_in s c.args.self.now.spend) found.state_is
