use Rattle.std.proofs.Common.{◌≡◌, rules}
use Rattle.std.proofs.lemmas.Fn.{always_returns_same}
use Rattle.ms_choice.specs.Numbers.{difference}
use Rattle.ms_choice.proofs.sums.sort_by.Goals as goal

pub returns-clause-sorted : goal.returns-clause-sorted
returns-clause-sorted c =
    c.sort_unstable_by_key.ensures.sorted (difference c.args.number)
    (always_returns_same _ (λ a r. r ≡ difference c.args.number a.0.now) _ (λ a r q k. search rules))
