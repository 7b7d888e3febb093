-- What a tally of the children of a threshold knows.
use Rattle.std.specs.Prelude.{◌≡◌, ℕ, ◌+◌, ◌<◌, List, drop, get_or}
use Rattle.ms_height.specs.declared.highest.Heights.{Heights}
use Rattle.ms_height.specs.declared.tally.Tally.{Tally}
use Rattle.ms_height.specs.Scaffolding.Chosen.{forced, stuck, free}
use Rattle.ms_height.specs.Scaffolding.Kept.{IsFitting}

-- the first n children are counted, and no one takes more items than the most
pub record Counts (tally : Tally) (n : ℕ) (cs : List Heights) : Type 0 where
  pub forced : tally.forced + forced (drop n cs) ≡ forced cs
  pub free : tally.free + free (drop n cs) ≡ free cs
  pub stuck : tally.stuck + stuck (drop n cs) ≡ stuck cs
  pub fits : (i : ℕ) (d : Heights) → i < n → IsFitting (tally.most_items + 1) (get_or cs i d)
  pub least : (slots : ℕ) → 0 < slots → ((i : ℕ) (d : Heights) → i < n → IsFitting slots (get_or cs i d)) → tally.most_items < slots
