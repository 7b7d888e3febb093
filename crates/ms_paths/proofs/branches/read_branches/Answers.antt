-- Another count than an earlier key fixed.
use Rattle.std.proofs.Common.{[], ap, ◌∙◌, arith}
use Rattle.def_descriptor.specs.Steps.{read_numbers}
use Rattle.ms_paths.specs.Places.{tokens_at}
use Rattle.ms_paths.proofs.Places.{place_is}
use Rattle.ms_paths.proofs.Numbers.{branches_apart}
use Rattle.ms_paths.proofs.branches.read_branches.Goals as goal

pub returns-then-len-count : goal.returns-then-len-count
returns-then-len-count c = λ n.
    branches_apart c.args.fixed c.in-Some.count c.args.at (tokens_at c.args.text.now c.args.at) (tokens_at c.args.text.now c.in_ok-numbers.end)
    c.in_ok-numbers.numbers.items (ap (read_numbers 16 []) c.requires.behind ∙ c.in_ok-numbers.ensures.0) c.in-Some.is
    (λ e. c.if-len-count.true (omega (arith, c.len.ensures, c.in_ok-numbers.numbers.ok.0, e))) (place_is c.args.text.now c.args.at)
