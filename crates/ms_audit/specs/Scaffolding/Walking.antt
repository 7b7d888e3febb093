-- The walk over a tree and a stack as the code goes it: with how many items are left, the number of the next node, and
-- the steps from before.
use Rattle.std.specs.Prelude.{◌≡◌, ℕ, ◌+◌, ◌≤◌, Bool, true, false, List, [], ◌∷◌, ◌++◌, length, reverse, take, Option, Some, None, Result, Ok, Err, IfOk}
use Rattle.std.specs.Borrow.{Bor}
use Rattle.def_script.specs.Bytes.{Bytes}
use Rattle.def_machine.specs.Stacks.{Stack}
use Rattle.def_machine.specs.Machine.{Given}
use Rattle.def_tree.specs.Tree.{Tree, Trees, wrap}
use Rattle.def_tree.specs.InRange.{MOST_MEASURE, IsInRange}
use Rattle.def_tree.specs.Size.{nodes, nodes_of}
use Rattle.def_tree.specs.declared.Wrapper.{Wrapper}
use Rattle.def_satisfaction.specs.Rows.{EMPTY, ONE}
use Rattle.def_audit.specs.declared.Step.{Step}
use Rattle.ms_audit_laws.specs.Walk.{Found, Counted, Walker, Verdict, with_step, by_selector, ends, walk_child, walk, walk_all}
use Rattle.ms_audit.specs.Scaffolding.Parts.{is_dsat, verdict_of_wrap}
use Rattle.ms_audit.specs.declared.row.Row.{Row}
use Rattle.ms_audit.specs.declared.course.Course.{Course}
use Rattle.ms_audit.specs.declared.course.WalkStop.{WalkStop}
use Rattle.ms_audit.specs.declared.course.WalkStop.TheVariants as stop

-- the verdict of a row
abbrev pub verdict_of : Option Row → Verdict
verdict_of None = None
verdict_of (Some row) = Some (row.sat, row.extra)

-- the items that are left of a stack, the top first
abbrev pub below : (stack : List Bytes) → (left : ℕ) → Stack
below stack left = reverse (take left stack)

-- what was found, behind the steps from before
abbrev pub behind : List Step → Option Found → Option Found
behind steps None = None
behind steps (Some f) = Some (record { sat = f.sat; steps = steps ++ f.steps; rest = f.rest })

-- a walk answers what there is to find; only want of memory may come in its place
abbrev pub Finds : Result Bool WalkStop → List Step → Stack → Option Found → Type 0
Finds (Ok sat) steps rest found = found ≡ Some (record { sat = sat; steps = steps; rest = rest })
Finds (Err stop.NoRow) steps rest found = found ≡ None
Finds (Err stop.Memory) steps rest found = Unit {0}

-- a leaf takes so much of the stack, by this row
abbrev pub Takes : Result (Option Row) WalkStop → (node : ℕ) → Stack → Option Found → Type 0
Takes (Ok row) node rest found = found ≡ with_step node (verdict_of row) [] rest
Takes (Err stop.NoRow) node rest found = found ≡ None
Takes (Err stop.Memory) node rest found = ⊥

-- it takes what the walk does, whatever its number, from one place of the stack to another
abbrev pub TakesAs : Given → (stack : List Bytes) → Tree → (old new : ℕ) → Result (Option Row) WalkStop → Type 0
TakesAs given stack tree old new result = (node : ℕ) → Takes result node (below stack new) (walk given node tree (below stack old))

-- a node's own step is added, by this verdict
pub record Ends (verdict : Verdict) (old new : Course) (result : Result Bool WalkStop) : Type 0 where
  pub found : (rest : Stack) → Finds result new.steps.items rest (with_step old.next verdict old.steps.items rest)
  pub next : IfOk result (λ sat. new.next ≡ old.next + 1)
  pub left : new.left ≡ old.left

-- another node is the next one
pub record Passes (old new : Course) (number : ℕ) : Type 0 where
  pub next : new.next ≡ number
  pub left : new.left ≡ old.left
  pub steps : new.steps.items ≡ old.steps.items

-- what a walk over a tree needs
pub record IsReady (stack : List Bytes) (tree : Tree) (course : Course) : Type 0 where
  pub in_range : IsInRange tree
  pub room : course.next + nodes tree ≤ MOST_MEASURE
  pub left : course.left ≤ length stack

-- a walk over a tree, from one place to another
pub record Walks (given : Given) (stack : List Bytes) (tree : Tree) (old new : Course) (result : Result Bool WalkStop) : Type 0 where
  pub found :
      Finds result new.steps.items (below stack new.left)
      (behind old.steps.items (walk given old.next tree (below stack old.left)))
  pub next : IfOk result (λ sat. new.next ≡ old.next + nodes tree)
  pub left : new.left ≤ length stack

-- the top is taken, where there is one
abbrev pub Pops : Result (Bor Bytes) WalkStop → (before after : Stack) → Type 0
Pops (Ok item) before after = before ≡ item.now ∷ after
Pops (Err stop.NoRow) before after = before ≡ []
Pops (Err stop.Memory) before after = ⊥

-- a selector is taken, where there is one
abbrev pub Selects : Result Bool WalkStop → (before after : Stack) → Type 0
Selects (Ok true) before after = before ≡ ONE ∷ after
Selects (Ok false) before after = before ≡ EMPTY ∷ after
Selects (Err stop.NoRow) before after = (first other : Walker) → by_selector first other before ≡ None
Selects (Err stop.Memory) before after = ⊥

-- a wrapper below such an item, whose child takes no part where the item is empty
abbrev pub wrapped : Wrapper → (item : Option Bool) → (empty : Bool) → (node : ℕ) → Walker → Walker
wrapped w item true node child = with_step node (verdict_of_wrap w item None) []
wrapped w item false node child = walk_child node child (λ sat. ends (verdict_of_wrap w item (Some sat)))

-- the item that chooses at a wrapper is taken, where there is one
abbrev pub Chooses : Wrapper → Result (Option Bool) WalkStop → (before after : Stack) → Type 0
Chooses w (Ok item) before after =
    (given : Given) (first : ℕ) (x : Tree) → walk given first (wrap w x) before ≡ wrapped w item (is_dsat item) (first + nodes x) (walk given first x) after
Chooses w (Err stop.NoRow) before after = (given : Given) (first : ℕ) (x : Tree) → walk given first (wrap w x) before ≡ None
Chooses w (Err stop.Memory) before after = ⊥

-- what was counted, behind the steps from before
abbrev pub added : (count : ℕ) → List Step → Option Counted → Option Counted
added count steps None = None
added count steps (Some c) = Some (record { count = count + c.count; steps = steps ++ c.steps; rest = c.rest })

abbrev pub FindsCount : Result ℕ WalkStop → List Step → Stack → Option Counted → Type 0
FindsCount (Ok count) steps rest found = found ≡ Some (record { count = count; steps = steps; rest = rest })
FindsCount (Err stop.NoRow) steps rest found = found ≡ None
FindsCount (Err stop.Memory) steps rest found = Unit {0}

-- a walk over the children of a threshold, from one place to another
pub record Counts (given : Given) (stack : List Bytes) (xs : Trees) (old new : Course) (result : Result ℕ WalkStop) : Type 0 where
  pub found :
      FindsCount result new.steps.items (below stack new.left)
      (added 0 old.steps.items (walk_all given old.next xs (below stack old.left)))
  pub next : IfOk result (λ count. new.next ≡ old.next + nodes_of xs)
  pub left : new.left ≤ length stack
