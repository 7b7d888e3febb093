-- What a tally of children says.
use Rattle.std.specs.Prelude.{◌≡◌, ℕ, suc, ℤ, pos, ◌-ℤ◌, ◌+◌, ◌≤◌, ◌*◌, ◌^◌, List, [], ◌∷◌, take, length, All, Option, Some, None}
use Rattle.ms_choice.specs.declared.slot.Slot.{Slot}
use Rattle.ms_choice.specs.declared.children.Costs.{Costs}
use Rattle.ms_choice.specs.declared.children.Number.{Number}
use Rattle.ms_choice.specs.declared.tally.Tally.{Tally}
use Rattle.ms_choice.specs.Numbers.{number_in, difference, IsLightSlot}
use Rattle.ms_choice.specs.Sums.{total}

-- how many children a tally counts at most
abbrev pub MOST_CHILDREN : ℕ
MOST_CHILDREN = 131072

-- 1 for a child that can only be satisfied, and for one that can be neither satisfied nor dissatisfied
abbrev pub forced_by : (sat dsat : Option ℕ) → ℕ
forced_by (Some s) None = 1
forced_by None d = 0
forced_by (Some s) (Some d) = 0

abbrev pub stuck_by : (sat dsat : Option ℕ) → ℕ
stuck_by (Some s) d = 0
stuck_by None None = 1
stuck_by None (Some d) = 0

-- the weight of a child that is satisfied only where it has to be
abbrev pub base_by : (sat dsat : Option ℕ) → ℕ
base_by s (Some d) = d
base_by (Some s) None = s
base_by None None = 0

-- a function of the difference between a free child's two weights, and of its place
abbrev pub free_by : (f : ℤ → ℕ → ℕ) → (place : ℕ) → (sat dsat : Option ℕ) → ℕ
free_by f place (Some s) (Some d) = f (pos s -ℤ pos d) place
free_by f place (Some s) None = 0
free_by f place None d = 0

abbrev pub forced : List Costs → ℕ
forced = total (λ c. forced_by c.sat c.dsat)

abbrev pub stuck : List Costs → ℕ
stuck = total (λ c. stuck_by c.sat c.dsat)

abbrev pub base : List Costs → ℕ
base = total (λ c. base_by c.sat c.dsat)

-- its sum over the free children, where the first child has this place
abbrev pub over_free : (f : ℤ → ℕ → ℕ) → (place : ℕ) → List Costs → ℕ
over_free f place [] = 0
over_free f place (c ∷ cs) = free_by f place c.sat c.dsat + over_free f (suc place) cs

-- how many are free
abbrev pub free : List Costs → ℕ
free = over_free (λ difference place. 1) 0

-- the numbers of a tally are bounded by the number of children
pub record Fits (t : Tally) (slots : List Slot) : Type 0 where
  pub place : t.place ≤ MOST_CHILDREN
  pub forced : t.forced ≤ t.place
  pub stuck : t.stuck ≤ t.place
  pub free : t.free ≤ t.place
  pub room : t.free ≤ length slots
  pub first : t.base.first ≤ t.place * 2 ^ 32
  pub second : t.base.second ≤ t.place * 2 ^ 32
  pub third : t.base.third ≤ t.place * 2 ^ 32
  pub light : All IsLightSlot (take t.free slots)

-- the tally and the slots tell of one number of these children. Each total over the slots is that over the free children
pub record Tells (n : Number) (cs : List Costs) (t : Tally) (slots : List Slot) : Type 0 where
  pub place : t.place ≡ length cs
  pub forced : t.forced ≡ forced cs
  pub stuck : t.stuck ≡ stuck cs
  pub free : t.free ≡ free cs
  pub base : number_in n t.base ≡ base cs
  pub differences : (f : ℤ → ℕ → ℕ) → total (λ s. f (difference n s) s.place) (take t.free slots) ≡ over_free f 0 cs
