-- A run of a Script on a stack (Bitcoin Core: `EvalScript` and `ExecuteWitnessScript` in
-- script/interpreter.cpp).
use Rattle.std.specs.Prelude.{ℕ, ◌+◌, nat_lt, nat_le, Bool, List, [], ◌∷◌, length, reverse, if◌then◌else◌, Ok, Err}
use Rattle.std.specs.List.{list_all}
use Rattle.def_script.specs.Bytes.{Bytes}
use Rattle.def_script.specs.Decode.{truth}
use Rattle.def_script.specs.Item.{Item}
use Rattle.def_script.specs.Items.{items}
use Rattle.def_machine.specs.declared.ScriptFault.{ScriptFault}
use Rattle.def_machine.specs.declared.ScriptFault.TheVariants as fault
use Rattle.def_script.specs.Limits.{MAX_SCRIPT_ELEMENT_SIZE, MAX_SCRIPT_SIZE}
use Rattle.def_machine.specs.Faults.{OrFault, ◌>>=◌}
use Rattle.def_machine.specs.Stacks.{Stack, Pairs}
use Rattle.def_machine.specs.Machine.{Given, State, step}

-- what a run gives: the number of opcodes, the greatest height of the stacks and the pairs found
-- good, in order; or the fault, and the number of the instruction at which it came, from 0
pub data Outcome : Type 0 where
  accepted : (ops : ℕ) → (peak : ℕ) → (checks : Pairs) → Outcome
  refused : (fault : ScriptFault) → (place : ℕ) → Outcome

-- what comes after a state; a fault refuses the run at the place
abbrev pub leads : OrFault State → (place : ℕ) → (State → Outcome) → Outcome
leads (Ok s) place next = next s
leads (Err e) place next = refused e place

-- the state at the start: the script and the elements given must not be too long
unfoldable pub start : Bytes → Stack → OrFault State
start script main =
    if nat_lt MAX_SCRIPT_SIZE (length script) then Err fault.ScriptSize
    else if list_all (λ x. nat_le (length x) MAX_SCRIPT_ELEMENT_SIZE) main
    then Ok (record { main = main; alt = []; branches = []; ops = 0; peak = length main; checks = [] })
    else Err fault.ElementSize

-- items carried out one after the other, from the instruction of the given number on, and what
-- comes after them
unfoldable pub steps : Given → List Item → (place : ℕ) → State → (ℕ → State → Outcome) → Outcome
steps given [] place s next = next place s
steps given (item ∷ items) place s next = leads (step given item s) place (λ t. steps given items (place + 1) t next)

-- exactly one element must be left, and it must be true
abbrev pub is_clean : Stack → OrFault Bytes
is_clean [] = Err fault.CleanStack
is_clean (x ∷ []) = if truth x then Ok x else Err fault.EvalFalse
is_clean (y ∷ x ∷ s) = Err fault.CleanStack

-- the tests at the end: no branch is open
abbrev pub balanced : List Bool → OrFault (List Bool)
balanced [] = Ok []
balanced (taken ∷ branches) = Err fault.Unbalanced

unfoldable pub finish : State → OrFault State
finish s = do
  none ← balanced s.branches
  one ← is_clean s.main
  Ok s

abbrev pub ended : ℕ → State → Outcome
ended place s = leads (finish s) place (λ t. accepted t.ops t.peak t.checks)

-- the run of a Script on a stack, whose top stands last
unfoldable pub run : Given → (script : Bytes) → (stack : List Bytes) → Outcome
run given script stack = leads (start script (reverse stack)) 0 (λ s. steps given (items script) 0 s ended)
