use Rattle.std.proofs.Common.{◌++◌, ◌∙◌, ap}
use Rattle.std.specs.String.{string_bytes}
use Rattle.ms_outline.proofs.Writing.{letters_written}
use Rattle.ms_outline.proofs.letters.push_letters.Goals as goal

pub returns : goal.returns
returns c =
    letters_written (string_bytes c.args.letters.now) _ _ _ _ _ _ _ _ _ _ _ _ _ _ _ _ _ _
    (c.in_ok-push_str.ensures.bytes ∙ ap (λ b. string_bytes c.args.letters.now ++ b) c.base_letter.ensures)
    c.in_ok-push_letter.ensures c.in_ok-push_letter-2.ensures c.in_ok-push_letter-3.ensures c.in_ok-push_letter-4.ensures
    c.in_ok-push_letter-5.ensures c.in_ok-push_letter-6.ensures c.in_ok-push_letter-7.ensures c.in_ok-push_letter-8.ensures
