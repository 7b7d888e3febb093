-- The children of a threshold: their room.
use Rattle.std.proofs.Common.{◌≡◌, ℕ, zero, suc, ◌+◌, ◌-◌, ◌<◌, ◌≤◌, List, [], ◌∷◌, length, take, drop, length-take, length-drop, get_or, All, sym, subst, arith}
use Rattle.def_tree.specs.Tree as model
use Rattle.def_tree.specs.InRange.{measure, measure_of}
use Rattle.def_types.specs.Typed.{IsTyped, AreTyped}
use Rattle.ms_tree.specs.declared.tree.Tree.{Tree}
use Rattle.ms_tree.specs.Shape.{shape, shapes}
use Rattle.ms_tree.proofs.Parts.{children_in_range, in_range_at}
use Rattle.ms_choice.specs.declared.slot.Slot.{Slot}
use Rattle.ms_choice.proofs.Tallies.{length_written}
use Rattle.ms_work.specs.Scaffolding.Ready.{IsReady, AreReady}
use borrow.Rule.Slice.PartMut.{put_mid}

pub measure_positive : (t : model.Tree) → 1 ≤ measure t
measure_positive model.just_0 = omega arith
measure_positive model.just_1 = omega arith
measure_positive (model.pk_k key) = omega arith
measure_positive (model.pk_h key) = omega arith
measure_positive (model.older n) = omega arith
measure_positive (model.after n) = omega arith
measure_positive (model.hash kind value) = omega arith
measure_positive (model.and_or x y z) = omega arith
measure_positive (model.two kind x y) = omega arith
measure_positive (model.thresh k xs) = omega arith
measure_positive (model.multi k keys) = omega arith
measure_positive (model.wrap wrapper x) = omega arith

measure_behind : (xs : List Tree) (i : ℕ) (d : Tree) → i < length xs → measure (shape (get_or xs i d)) + i ≤ measure_of (shapes xs)
measure_behind [] i d below = absurd (omega (arith, below))
measure_behind (x ∷ xs) zero d below = omega arith
measure_behind (x ∷ xs) (suc i) d below = omega (arith, measure_positive (shape x), measure_behind xs i d (omega (arith, below)))

-- a child and as many others as stand before it have room
pub measure_at : (xs : List Tree) (i : ℕ) (x : Tree) → i < length xs → x ≡ get_or xs i x → measure (shape x) + i ≤ measure_of (shapes xs)
measure_at xs i x below at =
    let P : Tree → Type 0 = λ y. measure (shape y) + i ≤ measure_of (shapes xs) in subst P (sym at) (measure_behind xs i x below)

-- the children are at most as many as they measure
pub few_children : (xs : List Tree) → length xs ≤ measure_of (shapes xs)
few_children [] = omega arith
few_children (x ∷ xs) = omega (arith, measure_positive (shape x), few_children xs)

pub typed_at : (xs : List Tree) (i : ℕ) (x : Tree) → i < length xs → x ≡ get_or xs i x → All (λ t. IsTyped (shape t)) xs → IsTyped (shape x)
typed_at xs i x below at all = let P : Tree → Type 0 = λ y. IsTyped (shape y) in subst P (sym at) (all i x below)

pub typed_children : (xs : List Tree) → AreTyped (shapes xs) → All (λ t. IsTyped (shape t)) xs
typed_children [] typed i d below = absurd (omega (arith, below))
typed_children (x ∷ xs) typed zero d below = typed.0
typed_children (x ∷ xs) typed (suc i) d below = typed_children xs typed.1 i d (omega (arith, below))

-- the children of a threshold that is ready are ready
pub ready_children : (t : model.Tree) (k : ℕ) (xs : List Tree) (slots : ℕ) → t ≡ model.thresh k (shapes xs) → IsReady t slots → AreReady xs slots
ready_children t k xs slots is ready =
    let thresh = subst (λ s. IsReady s slots) is ready in
    record {
      in_range = children_in_range t k xs ready.in_range is;
      typed = typed_children xs thresh.typed.0;
      few = omega (arith, few_children xs, thresh.in_range.measure);
      room = omega (arith, thresh.room);
    }

-- what is written behind so many slots leaves as many slots
pub length_behind : (free : ℕ) (slots written : List Slot) → free ≤ length slots → length written ≡ length (take (length slots - free) (drop free slots))
    → length (put_mid free (length slots - free) slots written) ≡ length slots
length_behind free slots written within same =
    length_written free slots written within (omega (arith, same, length-take (length slots - free) (drop free slots), length-drop free slots))

-- where at most as many slots are written as children stand before this one
module _ (xs : List Tree) (room : ℕ) (ready : AreReady xs room) (slots : List Slot) (long : length slots ≡ room) (i : ℕ) (x : Tree)
    (below : i < length xs) (at : x ≡ get_or xs i x) (free : ℕ) (few : free ≤ i) where
  -- it is ready for the others
  pub ready_behind : IsReady (shape x) (length (take (length slots - free) (drop free slots)))
  ready_behind = record {
    in_range = in_range_at xs i x below at ready.in_range;
    typed = typed_at xs i x below at ready.typed;
    room = omega (arith, measure_at xs i x below at, length-take (length slots - free) (drop free slots), length-drop free slots, few, ready.room, long);
  }

  -- and once it has written these, there is one for itself
  pub room_behind : (written : List Slot) → free ≤ length slots → length written ≡ length (take (length slots - free) (drop free slots))
      → free < length (put_mid free (length slots - free) slots written)
  room_behind written within same = omega (arith, length_behind free slots written within same, few_children xs, below, few, ready.room, long)
