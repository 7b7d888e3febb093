-- What a view shows.
use Rattle.std.specs.Prelude.{◌≡◌, ◌<◌, length, All}
use Rattle.def_tree.specs.Tree as model
use Rattle.def_tree.specs.Range.{TEN_DIGITS, IsKey}
use Rattle.def_tree.specs.InRange.{MOST_MEASURE, IsInRange}
use Rattle.ms_tree.specs.declared.tree.View.{View}
use Rattle.ms_tree.specs.declared.tree.View.TheVariants as view
use Rattle.ms_tree.specs.Shape.{leaf_shape, shape, shapes}

-- the view is the root of this tree, and its parts
abbrev pub Shows : View → model.Tree → Type 0
Shows (view.Leaf leaf) t = t ≡ leaf_shape leaf
Shows (view.AndOr x y z) t = t ≡ model.and_or (shape x.now) (shape y.now) (shape z.now)
Shows (view.Two kind x y) t = t ≡ model.two kind (shape x.now) (shape y.now)
Shows (view.Thresh k xs) t = t ≡ model.thresh k (shapes xs.now)
Shows (view.Multi k keys) t = t ≡ model.multi k keys.now
Shows (view.Wrap wrapper x) t = t ≡ model.wrap wrapper (shape x.now)

-- the parts that a view shows are in range: leaves and trees, numbers of at most ten digits, keys
abbrev pub PartsAreInRange : View → Type 0
PartsAreInRange (view.Leaf leaf) = IsInRange (leaf_shape leaf)
PartsAreInRange (view.AndOr x y z) = IsInRange (shape x.now) × IsInRange (shape y.now) × IsInRange (shape z.now)
PartsAreInRange (view.Two kind x y) = IsInRange (shape x.now) × IsInRange (shape y.now)
PartsAreInRange (view.Thresh k xs) = (k < TEN_DIGITS) × All (λ x. IsInRange (shape x)) xs.now
PartsAreInRange (view.Multi k keys) = (k < TEN_DIGITS) × (length keys.now < MOST_MEASURE) × All IsKey keys.now
PartsAreInRange (view.Wrap wrapper x) = IsInRange (shape x.now)
