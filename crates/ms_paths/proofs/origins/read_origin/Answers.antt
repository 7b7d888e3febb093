-- The origin behind a `[`.
use Rattle.std.proofs.Common.{◌∙◌, arith}
use Rattle.ms_paths.proofs.Reading.{handed}
use Rattle.ms_paths.proofs.Prints.{origin_there}
use Rattle.ms_paths.proofs.origins.read_origin.Goals as goal

pub returns-in_err-origin : goal.returns-in_err-origin
returns-in_err-origin c =
    handed _ _ _ _ _ _ c.from_residual.ensures.1 (λ n.
    origin_there c.args.text.now c.args.at c.in-Some.next c.in-Some.ensures.mark.0 c.in-Some.ensures.mark.1 ∙ c.in_err-origin.ensures n)

pub returns : goal.returns
returns c = (
  origin_there c.args.text.now c.args.at c.in-Some.next c.in-Some.ensures.mark.0 c.in-Some.ensures.mark.1 ∙ c.in_ok-origin.ensures.0,
  c.in_ok-origin.ensures.1,
  omega (arith, c.in-Some.ensures.after, c.in_ok-origin.ensures.2),
)
