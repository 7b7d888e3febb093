-- Laws of heights.
use Rattle.std.specs.Prelude.{◌≡◌, ℕ, ◌+◌, ◌≤◌}
use Rattle.def_script.specs.Limits.{MAX_OPS_PER_SCRIPT}
use Rattle.def_tree.specs.Tree.{Tree}
use Rattle.def_types.specs.declared.Base.TheVariants.{B}
use Rattle.def_types.specs.Typed.{type_of, IsTyped}
use Rattle.def_limits.specs.Formal as formal
use Rattle.def_limits.specs.declared.Limits.{Limits}
use Rattle.def_limits.specs.Limits.{AreLimits}
use Rattle.def_height.specs.Course.{Course, rise}
use Rattle.def_height.specs.Total.{IsRise}
use Rattle.def_height.specs.Formal.{Way, FormalSat}
use Rattle.def_height.specs.Height.{IsHeight}

-- the computed rise is the greatest running total
abbrev pub RiseIsGreatest : Type 0
RiseIsGreatest = (course : Course) → IsRise course (rise course)

-- a formal satisfaction with a course is one that the limits speak of, of as many items
abbrev pub CoursesAreOfFormals : Type 0
CoursesAreOfFormals = (tree : Tree) (w : Way) → FormalSat tree w → (t : formal.Takes) × formal.FormalSat tree t × (t.items ≡ w.items)

-- and each of those has a course
abbrev pub FormalsHaveCourses : Type 0
FormalsHaveCourses = (tree : Tree) (t : formal.Takes) → formal.FormalSat tree t → (w : Way) × FormalSat tree w × (w.items ≡ t.items)

-- there is a number that is the height of the tree, where this has a correctness type
abbrev pub HeightExists : Type 0
HeightExists = (tree : Tree) → (h : ℕ) × (IsTyped tree → IsHeight tree h)

-- a tree has at most one
abbrev pub HeightIsUnique : Type 0
HeightIsUnique = (tree : Tree) (h other : ℕ) → IsHeight tree h → IsHeight tree other → h ≡ other

-- a tree of type B takes no more items than it has ops
abbrev pub ItemsAreWithinOps : Type 0
ItemsAreWithinOps = (tree : Tree) → IsTyped tree → (type_of tree).base ≡ B → (limits : Limits) → AreLimits tree limits → limits.items ≤ limits.ops

-- the height is at most the items, the ops and 24
abbrev pub HeightIsWithin : Type 0
HeightIsWithin =
    (tree : Tree) → IsTyped tree → (limits : Limits) → AreLimits tree limits → (h : ℕ) → IsHeight tree h → h ≤ limits.items + limits.ops + 24

-- so within the 201 ops of consensus the height stays far below the 1,000 elements that both stacks may hold
abbrev pub HeightIsLow : Type 0
HeightIsLow =
    (tree : Tree) → IsTyped tree → (type_of tree).base ≡ B →
    (limits : Limits) → AreLimits tree limits → limits.ops ≤ MAX_OPS_PER_SCRIPT → (h : ℕ) → IsHeight tree h → h ≤ 426
