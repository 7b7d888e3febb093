-- What the definitions imply.
use Rattle.std.specs.Prelude.{◌↔◌, ◌<◌, Bool, true, false, List, All}
use Rattle.def_script.specs.Bytes.{Bytes}
use Rattle.def_machine.specs.Machine.{Given}
use Rattle.def_tree.specs.Size.{nodes}
use Rattle.def_tree.specs.Tree.{Tree}
use Rattle.def_satisfaction.specs.Setting.{any}
use Rattle.def_satisfaction.specs.Satisfaction.{FullSat, FullDsat}
use Rattle.def_audit.specs.declared.Step.{Step}
use Rattle.def_audit.specs.Derives.{Derives}

-- the stacks with steps are the satisfactions, and the dissatisfactions
abbrev pub DerivesIsFull : Type 0
DerivesIsFull =
    (tree : Tree) (given : Given) (stack : List Bytes) →
    (FullSat tree given any stack ↔ ((steps : List Step) × Derives tree given true steps stack)) ×
    (FullDsat tree given any stack ↔ ((steps : List Step) × Derives tree given false steps stack))

-- their steps are those of nodes of the tree
abbrev pub StepsAreOfTree : Type 0
StepsAreOfTree =
    (tree : Tree) (given : Given) (sat : Bool) (steps : List Step) (stack : List Bytes) → Derives tree given sat steps stack →
    All (λ (step : Step). step.node < nodes tree) steps
