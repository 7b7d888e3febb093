use Rattle.std.proofs.Common.{◌<◌, [], length, inl, inr, sym, ap, subst, ◌∙◌}
use Rattle.std.proofs.lemmas.Result.{IfOk-weaker}
use Rattle.std.specs.Prelude.{Option, unwrap_or}
use Rattle.def_script.specs.Bytes.{Bytes}
use Rattle.ms_input.specs.Held.{Held}
use Rattle.ms_input.specs.Spending.{code_seen}
use Rattle.ms_input.specs.Seen.{Seen}
use Rattle.ms_input.specs.Scaffolding.Kept.{IsAt, IsGuarded}
use Rattle.ms_input.proofs.Nested.{redeem_is_short, open_is}
use Rattle.ms_input.proofs.input.Input.open_script_sig.Goals as goal

pub script_sig_by-requires-clause-script : goal.script_sig_by-requires-clause-script
script_sig_by-requires-clause-script c is =
    let i = c.self.inside in
    let at = subst (λ (s : Seen). IsAt i.verification i.psbt.now i.number s.spend i.input i.fields) c.self.view_is c.self.invariant.at in
    let guarded = subst (λ (s : Seen). IsGuarded s.spend i.amount i.kind (code_seen i.script)) c.self.view_is c.self.invariant.guarded in
    subst (λ (b : Bytes). length b < 76)
    (sym (c.bytes_or.ensures ∙ ap (λ (o : Option Bytes). unwrap_or o []) (c.redeem.ensures ∙ ap (λ (h : Held). h.redeem) at.fields)))
    (redeem_is_short c.args.self.now.spend (inl (sym guarded.kind_is ∙ is)))

pub script_sig_by-requires-clause-key : goal.script_sig_by-requires-clause-key
script_sig_by-requires-clause-key c is =
    let i = c.self.inside in
    let at = subst (λ (s : Seen). IsAt i.verification i.psbt.now i.number s.spend i.input i.fields) c.self.view_is c.self.invariant.at in
    let guarded = subst (λ (s : Seen). IsGuarded s.spend i.amount i.kind (code_seen i.script)) c.self.view_is c.self.invariant.guarded in
    subst (λ (b : Bytes). length b < 76)
    (sym (c.bytes_or.ensures ∙ ap (λ (o : Option Bytes). unwrap_or o []) (c.redeem.ensures ∙ ap (λ (h : Held). h.redeem) at.fields)))
    (redeem_is_short c.args.self.now.spend (inr (sym guarded.kind_is ∙ is)))

pub returns : goal.returns
returns c =
    let i = c.self.inside in
    let at = subst (λ (s : Seen). IsAt i.verification i.psbt.now i.number s.spend i.input i.fields) c.self.view_is c.self.invariant.at in
    let guarded = subst (λ (s : Seen). IsGuarded s.spend i.amount i.kind (code_seen i.script)) c.self.view_is c.self.invariant.guarded in
    IfOk-weaker c.script_sig_by.result _ _
    (λ found is. is ∙ open_is c.args.self.now.spend i.kind _ guarded.kind_is
    (c.bytes_or.ensures ∙ ap (λ (o : Option Bytes). unwrap_or o []) (c.redeem.ensures ∙ ap (λ (h : Held). h.redeem) at.fields)))
    c.script_sig_by.ensures
