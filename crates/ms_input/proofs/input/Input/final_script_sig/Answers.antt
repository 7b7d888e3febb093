use Rattle.std.proofs.Common.{[], ap, subst, ◌∙◌}
use Rattle.std.specs.Prelude.{Option, unwrap_or}
use Rattle.def_script.specs.Bytes.{Bytes}
use Rattle.ms_input.specs.Held.{Held}
use Rattle.ms_input.specs.Seen.{Seen}
use Rattle.ms_input.specs.Scaffolding.Kept.{IsAt}
use Rattle.ms_input.proofs.input.Input.final_script_sig.Goals as goal

pub returns : goal.returns
returns c =
    let i = c.self.inside in
    let at = subst (λ (s : Seen). IsAt i.verification i.psbt.now i.number s.spend i.input i.fields) c.self.view_is c.self.invariant.at in
    c.bytes_or.ensures ∙ ap (λ (o : Option Bytes). unwrap_or o []) (c.final_script_sig.ensures ∙ ap (λ (h : Held). h.final_script_sig) at.fields)
