-- Sets of stacks, each said as a fact of a stack. The top stands first.
use Rattle.std.specs.Prelude.{◌≡◌, ◌⊎◌, [], ◌∷◌, ◌++◌}
use Rattle.def_script.specs.Bytes.{Bytes}
use Rattle.def_machine.specs.Stacks.{Stack}

abbrev pub StackSet : Type 1
StackSet = Stack → Type 0

-- no stack; the stack with no item; those with one item of this kind; the one with this item
abbrev pub Never : StackSet
Never stack = ⊥

abbrev pub Nothing : StackSet
Nothing stack = stack ≡ []

abbrev pub Element : (Bytes → Type 0) → StackSet
Element P stack = (item : Bytes) × P item × (stack ≡ item ∷ [])

abbrev pub Is : Bytes → StackSet
Is item stack = stack ≡ item ∷ []

-- a stack of the left with one of the right on top of it
abbrev pub Both : StackSet → StackSet → StackSet
Both P Q stack = (below : Stack) × (above : Stack) × P below × Q above × (stack ≡ above ++ below)

-- a stack of the left or of the right
abbrev pub Either : StackSet → StackSet → StackSet
Either P Q stack = P stack ⊎ Q stack

-- a stack of the set, if a fact holds
abbrev pub If : Type 0 → StackSet → StackSet
If fact P stack = fact × P stack
