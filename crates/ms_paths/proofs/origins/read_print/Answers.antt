-- No fingerprint, no steps, no `]`, and all three.
use Rattle.std.proofs.Common.{sym, ◌∙◌, arith}
use Rattle.ms_paths.proofs.Reading.{handed}
use Rattle.ms_paths.proofs.Prints.{print_none, print_wrong, print_open, print_closed}
use Rattle.ms_paths.proofs.origins.read_print.Goals as goal

pub returns-in_default : goal.returns-in_default
returns-in_default c = λ n.
    print_none c.args.text.now c.token_at-word.result.now c.args.at c.token_at-word.ensures.token (sym c.print_of.ensures ∙ c.in_default.is)

pub returns-in_err-steps : goal.returns-in_err-steps
returns-in_err-steps c =
    handed _ _ _ _ _ _ c.from_residual.ensures.1 (λ n.
    print_wrong c.args.text.now c.token_at-word.result.now c.args.at c.token_at-word.ensures.token c.in-Some.print (sym c.print_of.ensures ∙ c.in-Some.is)
    c.in_err-steps.field-0.0 (c.in_err-steps.ensures n))

pub returns-in_default-behind_mark : goal.returns-in_default-behind_mark
returns-in_default-behind_mark c = λ n.
    print_open c.args.text.now c.token_at-word.result.now c.args.at c.token_at-word.ensures.token c.in-Some.print (sym c.print_of.ensures ∙ c.in-Some.is)
    c.in_ok-steps.steps.items c.in_ok-steps.end c.in_ok-steps.ensures.0 c.in_default-behind_mark.ensures.mark

pub returns : goal.returns
returns c = (
  print_closed c.args.text.now c.token_at-word.result.now c.args.at c.token_at-word.ensures.token c.in-Some.print (sym c.print_of.ensures ∙ c.in-Some.is)
      c.in_ok-steps.steps.items c.in_ok-steps.end c.in_ok-steps.ensures.0 c.in-Some-behind_mark.behind c.in-Some-behind_mark.ensures.mark.0
      c.in-Some-behind_mark.ensures.mark.1,
  c.in-Some-behind_mark.ensures.place,
  omega (arith, c.in_ok-steps.ensures.2, c.in-Some-behind_mark.ensures.after),
)
