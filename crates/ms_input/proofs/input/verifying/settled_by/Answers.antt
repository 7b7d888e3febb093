use Rattle.std.proofs.Common.{sym, ap, ◌∙◌}
use Rattle.ms_input.specs.Settled.{IsOf}
use Rattle.ms_input.specs.Spending.{code_seen, code_found}
use Rattle.ms_input.specs.Verified.{verification_of}
use Rattle.ms_input.proofs.Found.{each_of, ap_ok, found_early, found_settled}
use Rattle.ms_input.proofs.JudgedBy.{asked_judged}
use Rattle.ms_input.proofs.input.verifying.settled_by.Goals as goal

pub returns-in-Ok : goal.returns-in-Ok
returns-in-Ok c = each_of c.settle.result _ (λ spend told.
    let script_is = sym (ap code_found c.in-Ok.is) ∙ told.script in
    let of : IsOf spend c.args.fields.now c.args.locks c.judging-judging.result = record {
      fields = told.fields;
      values = told.values;
      judged = c.judging-judging.ensures spend told.verified
          (asked_judged (verification_of c.args.verifying) (code_found c.args.spent.now.script) (code_seen c.in-Ok.script) spend c.args.hash.now told.hash_is (ap code_found c.in-Ok.is));
    } in
    found_settled c.settle.result spend c.args.fields.now c.args.locks c.judging-judging.result _ (ap_ok c.as_slice.ensures ∙ script_is) of
    c.settle.ensures.reading c.settle.ensures.in_range c.settle.ensures.state c.settle.ensures.assets c.settle.ensures.words c.settle.ensures.stack c.settle.ensures.light)

pub returns-in-Err : goal.returns-in-Err
returns-in-Err c spend told = found_early spend c.in-Err.state c.of.result c.of.ensures (sym (ap code_found c.in-Err.is) ∙ told.script)
