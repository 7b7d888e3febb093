use Rattle.std.proofs.Common.{refl, sym, ap, ◌∙◌}
use Rattle.ms_input.specs.Spending.{code_seen, code_found}
use Rattle.ms_input.specs.Verified.{verification_of}
use Rattle.ms_input.proofs.JudgedBy.{script_in_is, is_judged, asked_made, asked_none}
use Rattle.ms_input.proofs.input.verifying.asked_hash.Goals as goal

pub returns-in-Ok : goal.returns-in-Ok
returns-in-Ok c = λ spend told.
    let script_is = sym (ap code_found c.in-Ok.is) ∙ told.script in
    asked_made (verification_of c.args.verifying) (code_found c.args.spent.now.script) (code_seen c.in-Ok.script) spend c.judged_hash.result (ap code_found c.in-Ok.is)
    (is_judged c.args.verifying spend c.args.fields.now c.asked_type.result _ told.fields c.asked_type.ensures
    (c.judged_hash.ensures.verified spend told.verifies told.same_input (c.as_slice.ensures ∙ script_in_is spend (code_seen c.in-Ok.script) (sym script_is)) told.amount))
    c.judged_hash.ensures.unverified

pub returns-in-Err : goal.returns-in-Err
returns-in-Err c = λ spend told. asked_none (verification_of c.args.verifying) (code_found c.args.spent.now.script) _ spend _ (ap code_found c.in-Err.is) refl
