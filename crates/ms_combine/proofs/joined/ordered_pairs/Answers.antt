use Rattle.std.proofs.Common.{List, All, take, sym, subst, ◌∙◌}
use Rattle.ms_combine.specs.declared.keys.Marked.{Marked}
use Rattle.ms_combine.specs.Scaffolding.Order.{IsMarked}
use Rattle.ms_combine.specs.Scaffolding.Earliest.{all_places}
use Rattle.ms_combine.proofs.Pushing.{all_marked}
use Rattle.ms_combine.proofs.joined.ordered_pairs.Goals as goal

pub sort_places-requires : goal.sort_places-requires
sort_places-requires c =
    subst (λ (l : List Marked). All (IsMarked c.args.bytes.now) l) (sym (c.as_mut_slice.ensures.value ∙ c.maps.invariant))
    (all_marked c.args.bytes.now (all_places c.args.bytes.now (take c.maps.place-index c.args.places.now)))
