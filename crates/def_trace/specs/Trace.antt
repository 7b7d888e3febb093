-- The trace of a run: a line for each instruction that was reached.
use Rattle.std.specs.Prelude.{◌||◌, Bool, List, [], ◌∷◌, reverse, if◌then◌else◌, Ok, Err}
use Rattle.def_script.specs.Bytes.{Bytes}
use Rattle.def_script.specs.Item.{Item}
use Rattle.def_script.specs.Item as item
use Rattle.def_machine.specs.Faults.{OrFault}
use Rattle.def_machine.specs.Machine.{Given, State, is_live, is_branching, step}
use Rattle.def_machine.specs.Run.{start}
use Rattle.def_trace.specs.Placed.{Placed, placed}
use Rattle.def_trace.specs.Seen.{seen}
use Rattle.def_trace.specs.Changes.{Change, changes}

-- what became of an instruction: it was carried out, with these changes; it was passed over, in a branch that isn't
-- taken; it met a fault
pub data Event : Type 0 where
  stepped : (changes : List Change) → Event
  skipped : Event
  stopped : Event

pub record Line : Type 0 where
  pub placed : Placed
  pub event : Event

-- an instruction is carried out where all open branches are taken; those that open, turn and close branches always are
abbrev pub is_carried_out : Item → State → Bool
is_carried_out (item.push bytes minimal) s = is_live s
is_carried_out (item.code op) s = is_branching op || is_live s
is_carried_out (item.fault fault) s = is_live s

-- what became of an instruction, from the machine before it and from what its step gives
abbrev pub event_of : Item → State → OrFault State → Event
event_of item s (Ok t) = if is_carried_out item s then stepped (changes item (seen s) (seen t)) else skipped
event_of item s (Err fault) = stopped

abbrev pub line_of : Placed → State → OrFault State → Line
line_of p s next = record { placed = p; event = event_of p.item s next }

-- the lines behind a step; a fault ends them
abbrev pub then_lines : OrFault State → (State → List Line) → List Line
then_lines (Ok t) next = next t
then_lines (Err fault) next = []

-- a line for each instruction that is reached, from the machine before the first one on
unfoldable pub lines : Given → List Placed → State → List Line
lines given [] s = []
lines given (p ∷ ps) s = line_of p s (step given p.item s) ∷ then_lines (step given p.item s) (λ t. lines given ps t)

-- the trace of the run of a script on a stack, whose top stands last. A run that is refused before its first step has
-- no line
unfoldable pub trace : Given → (script : Bytes) → (stack : List Bytes) → List Line
trace given script stack = then_lines (start script (reverse stack)) (λ s. lines given (placed script) s)
