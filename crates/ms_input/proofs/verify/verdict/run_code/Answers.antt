use Rattle.std.proofs.Common.{◌∙◌, ap}
use Rattle.def_machine.specs.Run.{refused}
use Rattle.ms_input.specs.Checking.{Asked}
use Rattle.ms_input.specs.Spending.{code_seen}
use Rattle.ms_input.specs.Verdicts.{items_in, code_stack}
use Rattle.ms_input.proofs.Checks.{ran_is}
use Rattle.ms_input.proofs.verify.verdict.run_code.Goals as goal

pub returns-in-Ok : goal.returns-in-Ok
returns-in-Ok c spend h of_spend =
    let inside = c.check.inside in
    ran_is spend c.args.check _ c.args.locks.now (code_seen c.args.code) _ (code_stack c.args.code (items_in c.args.items.now)) _ _
    (ap (λ s. record { shared = inside.shared; input = inside.input.now; single = inside.single; script = s; amount = inside.amount }) c.as_slice.ensures
    ∙ ap (λ (a : Asked). record a { script = code_seen c.args.code }) c.check.view_is)
    h of_spend c.as_slice-2.ensures c.in_ok-stack.ensures c.in-Ok.ensures.outcome

pub returns-in-Err-Refused : goal.returns-in-Err-Refused
returns-in-Err-Refused c spend h of_spend =
    let inside = c.check.inside in
    rw c.in-Err-Refused.field-0-is
    (ran_is spend c.args.check _ c.args.locks.now (code_seen c.args.code) _ (code_stack c.args.code (items_in c.args.items.now)) _
    (refused c.in-Err-Refused.fault c.in-Err-Refused.place)
    (ap (λ s. record { shared = inside.shared; input = inside.input.now; single = inside.single; script = s; amount = inside.amount }) c.as_slice.ensures
    ∙ ap (λ (a : Asked). record a { script = code_seen c.args.code }) c.check.view_is)
    h of_spend c.as_slice-2.ensures c.in_ok-stack.ensures (rw c.in-Err-Refused.field-0-is at c.in-Err-Refused.ensures.outcome))
