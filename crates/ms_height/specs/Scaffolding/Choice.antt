-- What a choice among the last children of a threshold knows.
use Rattle.std.specs.Prelude.{◌≡◌, ℕ, zero, suc, ◌+◌, ◌*◌, ◌^◌, ◌<◌, ◌≤◌, List, ◌∷◌, length}
use Rattle.def_tree.specs.InRange.{MOST_MEASURE}
use Rattle.def_height.specs.Scaffolding.Highest.{only}
use Rattle.ms_choice.specs.declared.slot.Slot.{Slot}
use Rattle.ms_height.specs.declared.highest.Heights.{Heights}
use Rattle.ms_height.specs.declared.choice.Choice.{Choice}
use Rattle.ms_height.specs.Scaffolding.Chosen.{bounded, base, top, free, free_by, stuck, more_sats, more_dsats}
use Rattle.ms_height.specs.Scaffolding.Tops.{IsTop}

-- the items of a choice with these bounds
abbrev pub items_of : List Heights → (t u : ℕ) → ℕ
items_of cs t u = base cs + top t (more_sats cs) + top u (more_dsats cs)

-- a height that is reached where a bound isn't 0
abbrev pub reach : (ℕ → ℕ) → (bound : ℕ) → ℕ
reach f zero = 0
reach f (suc n) = f n

-- the last children `cs`, the first of which leaves `left`, with at most t free ones satisfied and at most u
-- dissatisfied
pub record IsChoice (choice : Choice) (pluses minuses : List Slot) (t u left : ℕ) (cs : List Heights) : Type 0 where
  pub base : choice.base ≡ base cs
  pub best : bounded left cs t u ≡ only (items_of cs t u) choice.best
  pub sats : IsTop choice.sats pluses t (more_sats cs)
  pub dsats : IsTop choice.dsats minuses u (more_dsats cs)
  pub fine : stuck cs ≡ 0
  pub light : choice.base ≤ length cs * 2 ^ 32
  pub low : choice.best ≤ length cs + 2 ^ 56
  pub bounds : (t ≤ MOST_MEASURE) × (u ≤ MOST_MEASURE)

-- it is one of some children
abbrev pub IsOfSome : Choice → Type 0
IsOfSome choice =
    (pluses : List Slot) × (minuses : List Slot) × (t : ℕ) × (u : ℕ) × (left : ℕ) × (cs : List Heights) × IsChoice choice pluses minuses t u left cs × (length cs ≤ MOST_MEASURE)

-- it is one of some children behind a further one
abbrev pub IsBehind : Choice → (pluses minuses : List Slot) → Type 0
IsBehind choice pluses minuses = (t : ℕ) × (u : ℕ) × (cs : List Heights) × IsChoice choice pluses minuses t u 0 cs × (length cs < MOST_MEASURE)

-- a further child was added, which leaves `left`: one that isn't free, one that is, and either
abbrev pub AddsFixed : (before : Choice) → (pluses minuses : List Slot) → (after : Choice) → (new_pluses new_minuses : List Slot) → (left : ℕ) → Heights → Type 0
AddsFixed before pluses minuses after new_pluses new_minuses left child =
    (t u : ℕ) (cs : List Heights) → IsChoice before pluses minuses t u 0 cs → length cs < MOST_MEASURE → IsChoice after new_pluses new_minuses t u left (child ∷ cs)

abbrev pub AddsFree : (before : Choice) → (pluses minuses : List Slot) → (after : Choice) → (new_pluses new_minuses : List Slot) → (left : ℕ) → Heights → Type 0
AddsFree before pluses minuses after new_pluses new_minuses left child =
    (t u : ℕ) (cs : List Heights) → IsChoice before pluses minuses t u 0 cs → length cs < MOST_MEASURE → free cs < t + u →
    IsChoice after new_pluses new_minuses t u left (child ∷ cs)

abbrev pub AddsChild : (before : Choice) → (pluses minuses : List Slot) → (after : Choice) → (new_pluses new_minuses : List Slot) → (left : ℕ) → Heights → Type 0
AddsChild before pluses minuses after new_pluses new_minuses left child =
    (t u : ℕ) (cs : List Heights) → IsChoice before pluses minuses t u 0 cs → length cs < MOST_MEASURE → free_by child.sat child.dsat + free cs ≤ t + u →
    IsChoice after new_pluses new_minuses t u left (child ∷ cs)
