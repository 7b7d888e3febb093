-- Runs that stop at a limit of the interpreter.
use Rattle.std.specs.Prelude.{◌≡◌, ℕ, ◌+◌, IsTrue, Bool, true, false, List, length, map}
use Rattle.def_script.specs.Bytes.{Bytes}
use Rattle.def_script.specs.Item.{Item}
use Rattle.def_script.specs.Laws.{item_of}
use Rattle.def_machine.specs.declared.ScriptFault.{ScriptFault}
use Rattle.def_machine.specs.declared.ScriptFault.TheVariants as fault
use Rattle.def_machine.specs.Stacks.{Stack}
use Rattle.def_machine.specs.Machine.{Given, State}
use Rattle.def_machine.specs.Run.{Outcome, refused, steps, run}
use Rattle.def_tree.specs.Tree.{Tree}
use Rattle.def_emit.specs.Emit.{emit, script_of}

-- an element is too long, there are too many opcodes, or the stacks are too high
abbrev pub is_limit : ScriptFault → Bool
is_limit fault.ElementSize = true
is_limit fault.OpCount = true
is_limit fault.StackSize = true
is_limit other = false

-- the run of a miniscript's Script on a stack stops at a limit
pub record StopsAtLimit (tree : Tree) (given : Given) (stack : List Bytes) : Type 0 where
  pub fault : ScriptFault
  pub place : ℕ
  pub limit : IsTrue (is_limit fault)
  pub run : run given (script_of tree) stack ≡ refused fault place

-- a miniscript's instructions
abbrev pub items_of : Tree → List Item
items_of tree = map item_of (emit tree)

-- carried out from a state, whatever comes after them, the instructions stop at a limit
pub record StopFrom (tree : Tree) (given : Given) (s : State) (place : ℕ) : Type 0 where
  pub fault : ScriptFault
  pub at : ℕ
  pub limit : IsTrue (is_limit fault)
  pub steps : (next : ℕ → State → Outcome) → steps given (items_of tree) place s next ≡ refused fault at

-- carried out from a state, they leave this main stack to what comes after them
pub record LeaveFrom (tree : Tree) (given : Given) (s : State) (place : ℕ) (left : Stack) : Type 0 where
  pub end : State
  pub main : end.main ≡ left
  pub steps :
      (next : ℕ → State → Outcome) →
      steps given (items_of tree) place s next ≡ next (place + length (items_of tree)) end
