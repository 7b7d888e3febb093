use Rattle.std.proofs.Common.{drop, map, ◌∙◌, ap, arith}
use Rattle.def_policy.specs.Policy.{policies_of}
use Rattle.ms_choice.specs.Sums.{total}
use Rattle.ms_policy.specs.Scaffolding.Cost.{costs}
use Rattle.ms_policy.specs.Shape.{policy_shape}
use Rattle.ms_policy.proofs.Bounds.{on_ok, cost-all, total-costs, total_front}
use Rattle.ms_policy.proofs.keys.+least.Goals as goal

pub least-returns-in-All : goal.least-returns-in-All
least-returns-in-All t c =
    let same = cost-all c.args.policy.now c.in-All.parts c.deref.result.now c.len.result c.in-All.is c.deref.ensures.value c.len.ensures in
    on_ok _ _ c.least_of.result (λ n e. e ∙ same) c.least_of.ensures

pub least_of-sum_of_least-requires : goal.least_of-sum_of_least-requires
least_of-sum_of_least-requires t c =
    let parts = policies_of (map policy_shape c.args.parts.now) in
    let left = policies_of (map policy_shape (drop c.loop-part.part-index c.args.parts.now)) in
    let few = total-costs parts in
    let front = total_front c.loop-part.found.items (costs left) (costs parts) c.loop-part.invariant.left in
    let same = ap (total (λ n. n)) c.deref_mut.ensures.value in
    omega arith
