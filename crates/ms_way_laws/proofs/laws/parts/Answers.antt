use Rattle.std.proofs.Common.{[], ◌∷◌}
use Rattle.ms_way_laws.specs.Masks.{Mask, IsWithin}
use Rattle.ms_way_laws.proofs.Listed.{listed_are_chosen}
use Rattle.ms_way_laws.proofs.Parts.{chosen_are_least, least_are_chosen}
use Rattle.ms_way_laws.proofs.laws.parts.Goals as goal

within : (m : Mask) → IsWithin m m
within [] = tt
within (b ∷ ts) = (λ e. e, within ts)

pub returns : goal.returns
returns c = record {
  least = λ xs n ss are. (least_are_chosen Mask IsWithin within xs n ss are, chosen_are_least Mask IsWithin within xs n ss are);
  listed = listed_are_chosen Mask IsWithin;
}
