use Rattle.std.proofs.Common.{rules}
use Rattle.ms_script.proofs.ScriptLemmas.{verify_set, verify_plain}
use Rattle.ms_script.proofs.script.verify_last.Goals as goal

pub returns-in_default-verify_form-clause-none : goal.returns-in_default-verify_form-clause-none
returns-in_default-verify_form-clause-none c =
    λ _. verify_plain _ _ _ (search rules) c.index.ensures c.in_default-verify_form.ensures

pub returns-clause-done : goal.returns-clause-done
returns-clause-done c = λ _. verify_set _ _ _ _ (search rules) c.index.ensures c.in-Some-verify_form.ensures
