-- No `>`, and fewer than two numbers.
use Rattle.std.proofs.Common.{arith}
use Rattle.ms_paths.specs.Places.{tokens_at}
use Rattle.ms_paths.proofs.Places.{place_is}
use Rattle.ms_paths.proofs.Numbers.{no_end, too_few}
use Rattle.ms_paths.proofs.branches.closed.Goals as goal

pub returns-in_default : goal.returns-in_default
returns-in_default c = λ n.
    no_end c.args.numbers.items (tokens_at c.args.text.now c.args.at) c.args.at (place_is c.args.text.now c.args.at) c.in_default.ensures.mark

pub returns-then-len-lt2 : goal.returns-then-len-lt2
returns-then-len-lt2 c = λ n.
    too_few c.args.numbers.items (tokens_at c.args.text.now c.args.at) c.args.at (place_is c.args.text.now c.args.at)
    (omega (arith, c.len.ensures, c.if-len-lt2.true, c.args.numbers.ok.0))
