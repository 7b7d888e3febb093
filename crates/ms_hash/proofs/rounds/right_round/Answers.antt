use Rattle.std.proofs.Common.{◌≡◌, ◌+◌, arith, ap, ◌∙◌}
use Rattle.def_hash.specs.Ripemd.{right_line}
use Rattle.ms_hash.proofs.rounds.right_round.Goals as goal

pub returns : goal.returns
returns c = λ h held.
    let whole : c.args.from + 8 + 8 ≡ c.args.from + 16 = omega arith in
    c.right_eight.ensures h (c.right_eight-half.ensures h held) ∙ ap (right_line c.args.w.now h) whole
