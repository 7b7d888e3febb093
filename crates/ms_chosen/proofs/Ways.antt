-- What the ways of each fragment give, and what is paid for them.
use Rattle.std.proofs.Common.{◌≡◌, Option, Some, None, is_some, refl, sym, ◌∙◌, ap}
use Rattle.std.specs.Prelude.{◌&&◌}
use Rattle.def_machine.specs.Stacks.{Stack}
use Rattle.def_choice.specs.Least.{both}
use Rattle.ms_chosen.specs.declared.way.Price.{Price}
use Rattle.ms_chosen.specs.Scaffolding.Costs.{sum_of}
use Rattle.ms_chosen.specs.Scaffolding.Way.{IsPriceOf}
use Rattle.ms_chosen.proofs.Weights.{both_weighs}

pub is_some-both : (o p : Option Stack) → is_some (both o p) ≡ (is_some o && is_some p)
is_some-both None p = refl
is_some-both (Some v) None = refl
is_some-both (Some v) (Some w) = refl

-- one part on top of another
pub price_both : (o p free_o free_p : Option Stack) (below above : Price) (price : Price) → IsPriceOf o free_o below → IsPriceOf p free_p above
    → price.weight ≡ sum_of below.weight above.weight → price.free ≡ (below.free && above.free) → IsPriceOf (both o p) (both free_o free_p) price
price_both o p free_o free_p below above price b a weight free = record {
  weight = weight ∙ both_weighs _ _ _ _ b.weight a.weight;
  free = free ∙ ap (λ t. t && above.free) b.free ∙ ap (λ t. is_some free_o && t) a.free ∙ sym (is_some-both free_o free_p);
}
