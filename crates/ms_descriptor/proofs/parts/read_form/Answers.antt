-- No `(`.
use Rattle.ms_descriptor.proofs.Surrounding.{form_open}
use Rattle.ms_descriptor.proofs.parts.read_form.Goals as goal

pub returns-in_default-behind_mark : goal.returns-in_default-behind_mark
returns-in_default-behind_mark c = λ n.
    form_open c.args.text.now c.token_at-name.result.now c.args.at c.in-Some.form c.token_at-name.ensures.token c.in-Some.ensures
    c.in_default-behind_mark.ensures.mark
