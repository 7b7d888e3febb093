-- The children of a threshold: their room, and what they take.
use Rattle.std.proofs.Common.{◌≡◌, ℕ, zero, suc, ◌+◌, ◌*◌, ◌-◌, ◌<◌, ◌≤◌, List, [], ◌∷◌, length, get_or, All, refl, sym, ap, subst, arith}
use Rattle.def_tree.specs.Tree.{Trees, none, more}
use Rattle.def_tree.specs.InRange.{IsInRange, measure, measure_of}
use Rattle.def_types.specs.Typed.{IsTyped}
use Rattle.def_height.specs.Scaffolding.Highest.{counted, highest_sat, highest_dsat, highest_parts}
use Rattle.ms_tree.specs.declared.tree.Tree.{Tree}
use Rattle.ms_tree.specs.Shape.{shape, shapes}
use Rattle.ms_height.specs.declared.highest.Heights.{Heights}
use Rattle.ms_height.specs.Scaffolding.Chosen.{chosen}
use Rattle.ms_height.specs.Scaffolding.Kept.{heights_of, IsFitting}
use Rattle.ms_height.specs.Scaffolding.Row.{highest_of}
use Rattle.ms_height.specs.Scaffolding.Low.{IsLowHeights}
use Rattle.ms_work.proofs.Children.{measure_positive, few_children}
use Rattle.ms_height.proofs.Bounds.{low_of, fits_of}

-- a child and as many others as there are have room
pub measure_beside : (xs : List Tree) (i : ℕ) (d : Tree) → i < length xs → measure (shape (get_or xs i d)) + length xs ≤ measure_of (shapes xs) + 1
measure_beside [] i d below = absurd (omega (arith, below))
measure_beside (x ∷ xs) zero d below = omega (arith, few_children xs)
measure_beside (x ∷ xs) (suc i) d below = omega (arith, measure_positive (shape x), measure_beside xs i d (omega (arith, below)))

-- what a child needs
pub ready_at : (xs : List Tree) (i : ℕ) (x : Tree) (slots : ℕ) → i < length xs → x ≡ get_or xs i x
    → 4 * measure_of (shapes xs) + 4 ≤ 2 * length xs + slots → 4 * measure (shape x) ≤ slots
ready_at xs i x slots below at room =
    let P : Tree → Type 0 = λ y. measure (shape y) + length xs ≤ measure_of (shapes xs) + 1 in
    let beside = subst P (sym at) (measure_beside xs i x below) in
    omega (arith, room, beside, below)

-- what holds of each child holds of all that children take
all_heights : (P : Heights → Type 0) (xs : List Tree)
    → ((i : ℕ) (d : Tree) → i < length xs → P (highest_of (shape (get_or xs i d))))
    → All P (heights_of (shapes xs))
all_heights P [] each i d below = absurd (omega (arith, below))
all_heights P (x ∷ xs) each zero d below = each zero x (omega arith)
all_heights P (x ∷ xs) each (suc i) d below = all_heights P xs (λ j y f. each (suc j) y (omega (arith, f))) i d (omega (arith, below))

all_low : (xs : List Tree) → All (λ t. IsInRange (shape t)) xs → All (λ t. IsTyped (shape t)) xs → All IsLowHeights (heights_of (shapes xs))
all_low xs range typed = all_heights IsLowHeights xs (λ i d below. low_of (shape (get_or xs i d)) _ (range i d below) (typed i d below) refl)

all_fit : (slots : ℕ) (xs : List Tree) → 2 * measure_of (shapes xs) + 2 ≤ length xs + slots → All (λ t. IsTyped (shape t)) xs → All (IsFitting slots) (heights_of (shapes xs))
all_fit slots xs wide typed = all_heights (IsFitting slots) xs (λ i d below. fits_of slots (shape (get_or xs i d)) (omega (arith, wide, measure_beside xs i d below, below)) (typed i d below))

-- what is kept of them is low, and their items have places in the room that is left
pub low_kept : (xs : List Tree) (kept : List Heights) → kept ≡ heights_of (shapes xs) → All (λ t. IsInRange (shape t)) xs → All (λ t. IsTyped (shape t)) xs → All IsLowHeights kept
low_kept xs kept same range typed = subst (All IsLowHeights) (sym same) (all_low xs range typed)

pub room_kept : (xs : List Tree) (kept : List Heights) (room : ℕ) → kept ≡ heights_of (shapes xs) → 4 * measure_of (shapes xs) + 4 ≤ 2 * length xs + room → All (λ t. IsTyped (shape t)) xs
    → (slots : ℕ) × (0 < slots) × (2 * slots ≤ room) × All (IsFitting slots) kept
room_kept xs kept room same enough typed =
    let slots = (2 * measure_of (shapes xs) + 2) - length xs in (
      slots,
      omega (arith, few_children xs),
      omega (arith, few_children xs, enough),
      subst (All (IsFitting slots)) (sym same) (all_fit slots xs (omega (arith, few_children xs)) typed),
    )

-- so many children, chosen by what they take
pub chosen_parts : (left : ℕ) (xs : Trees) → chosen left (heights_of xs) ≡ highest_parts left xs
chosen_parts left none = refl
chosen_parts left (more x xs) = ap (counted left (highest_sat x) (highest_dsat x)) (chosen_parts 0 xs)
