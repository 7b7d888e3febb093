-- Sets of stacks, each stack with its steps: which nodes take part in it, and by which rows. The top stands first.
use Rattle.std.specs.Prelude.{◌≡◌, ℕ, ◌⊎◌, Bool, true, false, List, [], ◌∷◌, ◌++◌}
use Rattle.def_machine.specs.Stacks.{Stack}
use Rattle.def_satisfaction.specs.StackSet.{StackSet}
use Rattle.def_audit.specs.declared.Step.{Step}

abbrev pub TrailSet : Type 1
TrailSet = Stack → List Step → Type 0

-- no stack; and the stacks of a set, with no step
abbrev pub Never : TrailSet
Never stack steps = ⊥

abbrev pub Bare : StackSet → TrailSet
Bare P stack steps = P stack × (steps ≡ [])

-- a stack of the left with one of the right on top of it. That one is the first child's, whose steps come first
abbrev pub Both : TrailSet → TrailSet → TrailSet
Both P Q stack steps =
    (below above : Stack) × (first later : List Step) × P below later × Q above first × (stack ≡ above ++ below) × (steps ≡ first ++ later)

-- a stack of the left or of the right
abbrev pub Either : TrailSet → TrailSet → TrailSet
Either P Q stack steps = P stack steps ⊎ Q stack steps

-- a stack of the set, if a fact of it holds
abbrev pub Where : (Stack → Type 0) → TrailSet → TrailSet
Where Fact P stack steps = Fact stack × P stack steps

-- the steps of the children that take part, and then this one
abbrev pub Then : Step → TrailSet → TrailSet
Then own P stack steps = (before : List Step) × P stack before × (steps ≡ before ++ own ∷ [])

-- the node's own step, by a canonical row and by another one
abbrev pub Canonical : (node : ℕ) → (sat : Bool) → TrailSet → TrailSet
Canonical node sat P = Then (record { node = node; sat = sat; extra = false }) P

abbrev pub Extra : (node : ℕ) → (sat : Bool) → TrailSet → TrailSet
Extra node sat P = Then (record { node = node; sat = sat; extra = true }) P
