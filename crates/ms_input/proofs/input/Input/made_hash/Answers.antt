use Rattle.std.proofs.Common.{subst, ◌∙◌}
use Rattle.ms_input.specs.Spending.{code_seen}
use Rattle.ms_input.specs.Seen.{Seen}
use Rattle.ms_input.specs.Scaffolding.Kept.{IsAt, IsGuarded}
use Rattle.ms_input.proofs.input.Input.made_hash.Goals as goal

pub returns : goal.returns
returns c =
    let i = c.self.inside in
    let at = subst (λ (s : Seen). IsAt i.verification i.psbt.now i.number s.spend i.input i.fields) c.self.view_is c.self.invariant.at in
    let guarded = subst (λ (s : Seen). IsGuarded s.spend i.amount i.kind (code_seen i.script)) c.self.view_is c.self.invariant.guarded in
    c.signed_hash.ensures c.args.self.now.spend c.requires.shared c.requires.output at.same_input (c.as_slice.ensures ∙ guarded.script_is) guarded.amount_is
