-- The open branches as two numbers.
use Rattle.std.specs.Prelude.{ℕ, zero, suc, ◌+◌, ◌==◌, Bool, true, false, List, [], ◌∷◌, length, if◌then◌else◌, Option, Some, None, Ok, Err}
use Rattle.def_machine.specs.declared.ScriptFault.TheVariants as fault
use Rattle.def_machine.specs.Faults.{OrFault}
use Rattle.ms_interp.specs.declared.branches.Branches.{Branches}

-- the first branch that isn't taken, once one more is open inside so many others
abbrev pub first_with : (taken : Bool) → Option ℕ → (depth : ℕ) → Option ℕ
first_with taken (Some place) depth = Some place
first_with true None depth = None
first_with false None depth = Some depth

-- the place of the first one that isn't taken, counted from the outermost; the innermost stands
-- first in the list
abbrev pub first_false : List Bool → Option ℕ
first_false [] = None
first_false (taken ∷ branches) = first_with taken (first_false branches) (length branches)

abbrev pub branches_of : List Bool → Branches
branches_of branches = record { depth = length branches; first_false = first_false branches }

-- all are taken where none isn't
abbrev pub is_none : Option ℕ → Bool
is_none None = true
is_none (Some place) = false

abbrev pub all_taken : Branches → Bool
all_taken branches = is_none branches.first_false

-- one more is open
abbrev pub with_branch : (taken : Bool) → Branches → Branches
with_branch taken branches = record { depth = branches.depth + 1; first_false = first_with taken branches.first_false branches.depth }

-- the first one that isn't taken, without the innermost, which has the given place
abbrev pub first_outside : (innermost : ℕ) → Option ℕ → Option ℕ
first_outside innermost None = None
first_outside innermost (Some place) = if place == innermost then None else Some place

-- and after the innermost is turned round
abbrev pub first_turned : (innermost : ℕ) → Option ℕ → Option ℕ
first_turned innermost None = Some innermost
first_turned innermost (Some place) = if place == innermost then None else Some place

abbrev pub turned_at : (depth : ℕ) → Option ℕ → OrFault Branches
turned_at zero first = Err fault.Unbalanced
turned_at (suc innermost) first = Ok (record { depth = suc innermost; first_false = first_turned innermost first })

-- the innermost is turned round
abbrev pub turned : Branches → OrFault Branches
turned branches = turned_at branches.depth branches.first_false

abbrev pub closed_at : (depth : ℕ) → Option ℕ → OrFault Branches
closed_at zero first = Err fault.Unbalanced
closed_at (suc innermost) first = Ok (record { depth = innermost; first_false = first_outside innermost first })

-- the innermost is closed
abbrev pub closed : Branches → OrFault Branches
closed branches = closed_at branches.depth branches.first_false

-- none is open
abbrev pub balanced : Branches → OrFault Branches
balanced branches = if branches.depth == 0 then Ok branches else Err fault.Unbalanced
