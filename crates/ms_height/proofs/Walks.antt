-- From the last child of a threshold to the first.
use Rattle.std.proofs.Common.{◌≡◌, ℕ, zero, suc, ◌+◌, ◌<◌, ◌≤◌, List, [], ◌∷◌, length, get_or, drop, refl, sym, ◌∙◌, ap, subst, arith}
use Rattle.std.proofs.Math.Seq.{drop-cons}
use Rattle.std.proofs.lemmas.List.{length-drop}
use Rattle.ms_choice.specs.declared.slot.Slot.{Slot}
use Rattle.ms_height.specs.declared.highest.Heights.{Heights}
use Rattle.ms_height.specs.declared.choice.Choice.{Choice}
use Rattle.ms_height.specs.Scaffolding.Choice.{IsChoice}
use Rattle.ms_height.specs.Scaffolding.Chosen.{free, stuck, free_by, stuck_by}

-- what the children from this one on leave: the first one leaves one element, and a further one none, since ADD
-- stands behind it
abbrev pub left_at : (index : ℕ) → ℕ
left_at zero = 1
left_at (suc i) = 0

pub left_further : (index : ℕ) → 0 < index → left_at index ≡ 0
left_further zero below = absurd (omega (arith, below))
left_further (suc i) below = refl

pub shorter : (cs : List Heights) (i : ℕ) → i < length cs → length (drop (suc i) cs) < length cs
shorter cs i below = omega (arith, below, length-drop (suc i) cs)

-- the children from one on
pub from_child : (cs : List Heights) (i : ℕ) (c : Heights) → i < length cs → c ≡ get_or cs i c → drop i cs ≡ c ∷ drop (suc i) cs
from_child cs i c below at = drop-cons cs i c below ∙ ap (λ x. x ∷ drop (suc i) cs) (sym at)

free_behind : (cs : List Heights) (i : ℕ) → free (drop i cs) ≤ free cs
free_behind [] zero = omega arith
free_behind [] (suc i) = omega arith
free_behind (c ∷ cs) zero = omega arith
free_behind (c ∷ cs) (suc i) = omega (arith, free_behind cs i)

stuck_behind : (cs : List Heights) (i : ℕ) → stuck (drop i cs) ≤ stuck cs
stuck_behind [] zero = omega arith
stuck_behind [] (suc i) = omega arith
stuck_behind (c ∷ cs) zero = omega arith
stuck_behind (c ∷ cs) (suc i) = omega (arith, stuck_behind cs i)

-- a child and those behind it are no more free ones than all, and none is stuck where none of all is
pub free_from : (cs : List Heights) (i : ℕ) (c : Heights) → i < length cs → c ≡ get_or cs i c → free_by c.sat c.dsat + free (drop (suc i) cs) ≤ free cs
free_from cs i c below at = omega (arith, free_behind cs i, ap free (from_child cs i c below at))

pub stuck_from : (cs : List Heights) (i : ℕ) (c : Heights) → i < length cs → c ≡ get_or cs i c → stuck cs ≡ 0 → stuck_by c.sat c.dsat ≡ 0
stuck_from cs i c below at fine = omega (arith, fine, stuck_behind cs i, ap stuck (from_child cs i c below at))

-- the choice among the children behind one
pub choice_behind : (choice : Choice) (ps ms : List Slot) (t u : ℕ) (cs : List Heights) (index i : ℕ) → index ≡ suc i
    → IsChoice choice ps ms t u (left_at index) (drop index cs) → IsChoice choice ps ms t u 0 (drop (suc i) cs)
choice_behind choice ps ms t u cs index i next told = subst (λ (n : ℕ). IsChoice choice ps ms t u (left_at n) (drop n cs)) next told

-- and with it
pub choice_from : (choice : Choice) (ps ms : List Slot) (t u left : ℕ) (cs : List Heights) (i : ℕ) (c : Heights) → i < length cs → c ≡ get_or cs i c → left ≡ left_at i
    → IsChoice choice ps ms t u left (c ∷ drop (suc i) cs) → IsChoice choice ps ms t u (left_at i) (drop i cs)
choice_from choice ps ms t u left cs i c below at leaves told =
    subst (λ (n : ℕ). IsChoice choice ps ms t u n (drop i cs)) leaves (subst (IsChoice choice ps ms t u left) (sym (from_child cs i c below at)) told)

-- and among all of them
pub choice_all : (choice : Choice) (ps ms : List Slot) (t u : ℕ) (cs : List Heights) (index : ℕ) → index ≡ 0
    → IsChoice choice ps ms t u (left_at index) (drop index cs) → IsChoice choice ps ms t u 1 cs
choice_all choice ps ms t u cs index none told = subst (λ (n : ℕ). IsChoice choice ps ms t u (left_at n) (drop n cs)) none told
