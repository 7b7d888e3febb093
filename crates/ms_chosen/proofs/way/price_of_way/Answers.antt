use Rattle.std.proofs.Common.{subst, sym}
use Rattle.ms_chosen.specs.Scaffolding.Way.{stack_of_way, free_of_way, IsSeenWay, IsPriceOf}
use Rattle.ms_chosen.proofs.Ways.{price_both}
use Rattle.ms_chosen.proofs.way.price_of_way.Goals as goal

pub returns-in-Both : goal.returns-in-Both
returns-in-Both c = λ rule assets.
    subst (λ way. IsSeenWay rule assets way → IsPriceOf (stack_of_way rule assets way) (free_of_way rule assets way) c.with.result) (sym c.in-Both.is) (λ seen.
    price_both _ _ _ _ _ _ _ (c.price_of_part-in-Both.ensures.price rule assets seen.0) (c.price_of_part-in-Both-2.ensures.price rule assets seen.1) c.with.ensures.weight c.with.ensures.free)
