-- What a reader of a trace knows of the machine: both stacks, the open branches, and which signatures were found good.
use Rattle.std.specs.Prelude.{Bool, List, reverse, []}
use Rattle.def_script.specs.Bytes.{Bytes}
use Rattle.def_machine.specs.Stacks.{Stack, Pairs}
use Rattle.def_machine.specs.Machine.{State}

pub record Seen : Type 0 where
  -- both stacks, the top first
  pub main : Stack
  pub alt : Stack
  -- whether each open branch is taken, the innermost first
  pub branches : List Bool
  -- the pairs that were found good, in order
  pub checks : Pairs

-- what is seen of the machine
abbrev pub seen : State → Seen
seen s = record { main = s.main; alt = s.alt; branches = s.branches; checks = s.checks }

-- before the first line: the elements of the witness below its script, of which the last stands on top
abbrev pub at_first : (stack : List Bytes) → Seen
at_first stack = record { main = reverse stack; alt = []; branches = []; checks = [] }
