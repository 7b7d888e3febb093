use Rattle.std.proofs.Common.{◌≡◌, Ok, sym, ap, subst, ◌∙◌}
use Rattle.std.specs.Prelude.{IfOk}
use Rattle.def_verify.specs.Final.{execution_of}
use Rattle.def_verify.specs.Verdict.{ran_verdict}
use Rattle.ms_input.specs.Spending.{code_seen}
use Rattle.ms_input.specs.Verdicts.{items_in, code_stack, verdict_seen}
use Rattle.ms_input.proofs.verify.verdict.output_verdict.Goals as goal

pub returns-in-Ok : goal.returns-in-Ok
returns-in-Ok c spend h of_spend =
    let code = c.in-Ok.code in
    let same =
    ap (execution_of c.args.spent.now c.args.script_sig.now) (sym c.in_ok-items.ensures ∙ ap items_in (sym c.deref.ensures.value))
    ∙ sym c.in-Ok.ensures
    ∙ ap (λ items. Ok (code_seen code, code_stack code (items_in items))) (c.deref.ensures.value ∙ sym c.deref-in-Ok.ensures.value)
    in
    subst (λ e. IfOk c.run_code.result (λ v. verdict_seen v ≡ ran_verdict spend e)) (sym same) (c.run_code.ensures spend h of_spend)
