use Rattle.std.proofs.Common.{◌||◌, ap, subst, ◌∙◌}
use Rattle.def_spend.specs.Reading.{has_byte, has_item}
use Rattle.ms_input.specs.Held.{Held}
use Rattle.ms_input.specs.Seen.{Seen}
use Rattle.ms_input.specs.Scaffolding.Kept.{IsAt}
use Rattle.ms_input.proofs.input.Input.is_final.Goals as goal

pub returns : goal.returns
returns c =
    let i = c.self.inside in
    let at = subst (λ (s : Seen). IsAt i.verification i.psbt.now i.number s.spend i.input i.fields) c.self.view_is c.self.invariant.at in
    c.is_final.ensures ∙ ap (λ (h : Held). has_byte h.final_script_sig || has_item h.final_witness) at.fields
