-- By which rows of the satisfaction table (BIP 379, satisfaction) a stack satisfies or dissatisfies a miniscript. A
-- stack stands here as in a witness, its top last.
use Rattle.std.specs.Prelude.{Bool, true, false, List, reverse}
use Rattle.def_script.specs.Bytes.{Bytes}
use Rattle.def_machine.specs.Machine.{Given}
use Rattle.def_tree.specs.Tree.{Tree}
use Rattle.def_audit.specs.declared.Step.{Step}
use Rattle.def_audit.specs.TrailRows.{trails}

-- these are the steps of a satisfaction, where `sat` is true, or of a dissatisfaction. They are those of the children
-- that take part, left to right, and then the node's own
abbrev pub Derives : Tree → Given → (sat : Bool) → List Step → (stack : List Bytes) → Type 0
Derives tree given true steps stack = (trails given 0 tree).sat (reverse stack) steps
Derives tree given false steps stack = (trails given 0 tree).dsat (reverse stack) steps
