-- `sh`, without a `(` and with a form.
use Rattle.ms_paths.proofs.Reading.{handed}
use Rattle.ms_descriptor.proofs.Surrounding.{head_open, head_wrong}
use Rattle.ms_descriptor.proofs.parts.read_head.Goals as goal

pub returns-in_default-behind_mark : goal.returns-in_default-behind_mark
returns-in_default-behind_mark c = λ n.
    head_open c.args.text.now c.in-Some.end c.in-Some.ensures.sh.0 c.in-Some.ensures.sh.1 c.in_default-behind_mark.ensures.mark

pub returns-in_err-form-2 : goal.returns-in_err-form-2
returns-in_err-form-2 c =
    handed _ _ _ _ _ _ c.from_residual-in_err-form-2.ensures.1 (λ n.
    head_wrong c.args.text.now c.in-Some.end c.in-Some.ensures.sh.0 c.in-Some.ensures.sh.1 c.in-Some-behind_mark.open c.in-Some-behind_mark.ensures.mark.0
    c.in-Some-behind_mark.ensures.mark.1 c.in_err-form-2.field-0.0 (c.in_err-form-2.ensures n))
