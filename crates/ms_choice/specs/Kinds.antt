-- How many children there are of each kind.
use Rattle.std.specs.Prelude.{◌≡◌, ℕ, ◌+◌, ◌<◌, nat_eq, nat_le, Bool, true, false, ◌&&◌, List}
use Rattle.ms_choice.specs.declared.kinds.KindCounts.{KindCounts}
use Rattle.ms_choice.specs.declared.children.Costs.{Costs}
use Rattle.ms_choice.specs.Tally.{forced, stuck, free}

-- each of the counts is below a number
pub record IsFew (kinds : KindCounts) (n : ℕ) : Type 0 where
  pub forced : kinds.forced < n
  pub stuck : kinds.stuck < n
  pub free : kinds.free < n

-- with a further child that can be satisfied, and that can be dissatisfied
abbrev pub with_child : KindCounts → (sat dsat : Bool) → KindCounts
with_child kinds true true = record kinds { free = kinds.free + 1 }
with_child kinds true false = record kinds { forced = kinds.forced + 1 }
with_child kinds false true = kinds
with_child kinds false false = record kinds { stuck = kinds.stuck + 1 }

-- so many of the children can be satisfied and the others dissatisfied
abbrev pub allows : KindCounts → (count : ℕ) → Bool
allows kinds count = nat_eq kinds.stuck 0 && nat_le kinds.forced count && nat_le count (kinds.forced + kinds.free)

-- the counts are those of these children
pub record Counts (cs : List Costs) (kinds : KindCounts) : Type 0 where
  pub forced : kinds.forced ≡ forced cs
  pub stuck : kinds.stuck ≡ stuck cs
  pub free : kinds.free ≡ free cs
