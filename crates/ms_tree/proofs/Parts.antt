-- The children of a tree that is in range are in range.
use Rattle.std.proofs.Common.{◌≡◌, ℕ, zero, suc, ◌<◌, ◌≤◌, List, [], ◌∷◌, length, get_or, All, sym, subst, arith}
use Rattle.def_tree.specs.Tree as model
use Rattle.def_tree.specs.Range.{IsWritable, AreWritable}
use Rattle.def_tree.specs.InRange.{IsInRange, measure, measure_of, depth, depth_of}
use Rattle.def_tree.specs.Size.{nodes, nodes_of}
use Rattle.ms_tree.specs.declared.tree.Tree.{Tree}
use Rattle.ms_tree.specs.declared.tree.View.{View}
use Rattle.ms_tree.specs.declared.tree.View.TheVariants as view
use Rattle.ms_tree.specs.Shape.{shape, shapes}
use Rattle.ms_tree.specs.View.{Shows, PartsAreInRange}

-- no child is larger than all of them together
pub measure-child : (xs : List Tree) (i : ℕ) (d : Tree) → i < length xs → measure (shape (get_or xs i d)) ≤ measure_of (shapes xs)
measure-child [] i d below = absurd (omega (arith, below))
measure-child (x ∷ xs) zero d below = omega arith
measure-child (x ∷ xs) (suc i) d below = omega (arith, measure-child xs i d (omega (arith, below)))

-- nor deeper than the deepest
pub depth-child : (xs : List Tree) (i : ℕ) (d : Tree) → i < length xs → depth (shape (get_or xs i d)) ≤ depth_of (shapes xs)
depth-child [] i d below = absurd (omega (arith, below))
depth-child (x ∷ xs) zero d below = omega arith
depth-child (x ∷ xs) (suc i) d below = omega (arith, depth-child xs i d (omega (arith, below)))

pub writable-child : (xs : List Tree) (i : ℕ) (d : Tree) → i < length xs → AreWritable (shapes xs) → IsWritable (shape (get_or xs i d))
writable-child [] i d below all = absurd (omega (arith, below))
writable-child (x ∷ xs) zero d below all = all.0
writable-child (x ∷ xs) (suc i) d below all = writable-child xs i d (omega (arith, below)) all.1

-- each child of a threshold in range is in range
pub children_in_range : (t : model.Tree) (k : ℕ) (xs : List Tree) → IsInRange t → t ≡ model.thresh k (shapes xs) → All (λ x. IsInRange (shape x)) xs
children_in_range t k xs range is = λ i d below.
    let r = subst IsInRange is range in
    record {
      measure = omega (arith, r.measure, measure-child xs i d below);
      depth = omega (arith, r.depth, depth-child xs i d below);
      writable = writable-child xs i d below r.writable.2;
    }

-- what a view shows of a tree in range is in range
pub shown_in_range : (v : View) (t : model.Tree) → IsInRange t → Shows v t → PartsAreInRange v
shown_in_range (view.Leaf leaf) t range is = subst IsInRange is range
shown_in_range (view.AndOr x y z) t range is =
    let r = subst IsInRange is range in (
      record { measure = omega (arith, r.measure); depth = omega (arith, r.depth); writable = r.writable.0 },
      record { measure = omega (arith, r.measure); depth = omega (arith, r.depth); writable = r.writable.1 },
      record { measure = omega (arith, r.measure); depth = omega (arith, r.depth); writable = r.writable.2 },
    )
shown_in_range (view.Two kind x y) t range is =
    let r = subst IsInRange is range in (
      record { measure = omega (arith, r.measure); depth = omega (arith, r.depth); writable = r.writable.0 },
      record { measure = omega (arith, r.measure); depth = omega (arith, r.depth); writable = r.writable.1 },
    )
shown_in_range (view.Thresh k xs) t range is =
    let r = subst IsInRange is range in (r.writable.0, children_in_range t k xs.now range is)
shown_in_range (view.Multi k keys) t range is =
    let r = subst IsInRange is range in (r.writable.0, omega (arith, r.measure), r.writable.2)
shown_in_range (view.Wrap wrapper x) t range is =
    let r = subst IsInRange is range in
    record { measure = omega (arith, r.measure); depth = omega (arith, r.depth); writable = r.writable }

-- no child has more nodes than all of them together
nodes-child : (xs : List Tree) (i : ℕ) (d : Tree) → i < length xs → nodes (shape (get_or xs i d)) ≤ nodes_of (shapes xs)
nodes-child [] i d below = absurd (omega (arith, below))
nodes-child (x ∷ xs) zero d below = omega arith
nodes-child (x ∷ xs) (suc i) d below = omega (arith, nodes-child xs i d (omega (arith, below)))

-- the same of a child that a loop is at
pub nodes_at : (xs : List Tree) (i : ℕ) (x : Tree) → i < length xs → x ≡ get_or xs i x → nodes (shape x) ≤ nodes_of (shapes xs)
nodes_at xs i x below at =
    let P : Tree → Type 0 = λ y. nodes (shape y) ≤ nodes_of (shapes xs) in subst P (sym at) (nodes-child xs i x below)

-- of trees that are in range the one that a loop is at is
pub in_range_at : (xs : List Tree) (i : ℕ) (x : Tree) → i < length xs → x ≡ get_or xs i x → All (λ t. IsInRange (shape t)) xs → IsInRange (shape x)
in_range_at xs i x below at all = let P : Tree → Type 0 = λ y. IsInRange (shape y) in subst P (sym at) (all i x below)

-- each node counts in the measure
mutual
  pub nodes-le-measure : (t : model.Tree) → nodes t ≤ measure t
  nodes-le-measure model.just_0 = omega arith
  nodes-le-measure model.just_1 = omega arith
  nodes-le-measure (model.pk_k key) = omega arith
  nodes-le-measure (model.pk_h key) = omega arith
  nodes-le-measure (model.older n) = omega arith
  nodes-le-measure (model.after n) = omega arith
  nodes-le-measure (model.hash kind value) = omega arith
  nodes-le-measure (model.and_or x y z) = omega (arith, nodes-le-measure x, nodes-le-measure y, nodes-le-measure z)
  nodes-le-measure (model.two kind x y) = omega (arith, nodes-le-measure x, nodes-le-measure y)
  nodes-le-measure (model.thresh k xs) = omega (arith, nodes_of-le-measure_of xs)
  nodes-le-measure (model.multi k keys) = omega arith
  nodes-le-measure (model.wrap wrapper x) = omega (arith, nodes-le-measure x)

  nodes_of-le-measure_of : (xs : model.Trees) → nodes_of xs ≤ measure_of xs
  nodes_of-le-measure_of model.none = omega arith
  nodes_of-le-measure_of (model.more x xs) = omega (arith, nodes-le-measure x, nodes_of-le-measure_of xs)
