use Rattle.std.proofs.Common.{ℕ, Vec, Global, ap, ◌∙◌}
use Rattle.ms_tree.specs.Shape.{shape}
use Rattle.ms_calls.proofs.PolicyLemmas.{demanded_of}
use Rattle.ms_calls.proofs.policies.demand_of.Goals as goal

pub returns : goal.returns
returns c =
    demanded_of (shape c.args.sane.now.valid.tree) _ _ _ _ c.in_ok-policy.ensures.simple c.in_ok-least.ensures
    (ap (λ (v : Vec ℕ Global). v.items) c.into_bytes-text.ensures.value ∙ c.in_ok-print_policy.ensures) c.number_of_keys.ensures
