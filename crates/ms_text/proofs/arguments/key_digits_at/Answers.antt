use Rattle.std.proofs.Common.{◌≡◌, ◌-◌, length, drop, take, ap, ◌∙◌, length-drop, arith}
use Rattle.std.specs.Prelude.{min}
use Rattle.std.proofs.lemmas.List.{take_min}
use Rattle.ms_text.proofs.arguments.key_digits_at.Goals as goal

pub returns : goal.returns
returns c =
    let left : length (drop c.args.at c.args.text.now) ≡ length c.args.text.now - c.args.at = length-drop c.args.at c.args.text.now in
    let few : c.min-end.result - c.args.at ≡ min 66 (length (drop c.args.at c.args.text.now)) = omega (arith, c.min-end.ensures, left) in
    ap (λ k. take k (drop c.args.at c.args.text.now)) few ∙ take_min 66 (drop c.args.at c.args.text.now)
