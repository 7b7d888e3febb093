use Rattle.std.proofs.Common.{Some, sym, ◌∙◌, ap, arith}
use Rattle.std.proofs.lemmas.List.Sorted.{IsNonDecreasingBy-from_sort}
use Rattle.std.specs.List.Sorted.{IsNonDecreasing}
use Rattle.ms_choice.proofs.Totals.{total_split, total-permutation}
use Rattle.ms_policy.proofs.Sums.{too_few, first_ones}
use Rattle.ms_policy.proofs.keys.sum_of_least.Goals as goal

pub returns-then-numbers-k : goal.returns-then-numbers-k
returns-then-numbers-k c = sym (too_few c.args.k c.args.numbers.now (omega arith))

pub sum_of-requires : goal.sum_of-requires
sum_of-requires c =
    let sorted = c.sort_unstable.new.self in
    let split = total_split (λ n. n) c.args.k sorted in
    let same = total-permutation (λ n. n) c.args.numbers.now sorted c.sort_unstable.ensures.permutation in
    omega arith

pub returns : goal.returns
returns c =
    let sorted = c.sort_unstable.new.self in
    let order : IsNonDecreasing sorted = IsNonDecreasingBy-from_sort (λ n. n) sorted c.sort_unstable.ensures.sorted in
    let least = first_ones c.args.k c.args.numbers.now sorted c.sort_unstable.ensures.permutation order (omega arith) in
    ap Some c.sum_of.ensures ∙ sym least
