-- What the walk finds.
use Rattle.std.specs.Prelude.{◌≡◌, ◌↔◌, ◌⊎◌, not, IsTrue, Bool, true, List, Some}
use Rattle.std.specs.List.{list_all}
use Rattle.def_script.specs.Bytes.{Bytes}
use Rattle.def_machine.specs.Stacks.{Pairs, Checker}
use Rattle.def_machine.specs.Machine.{Given}
use Rattle.def_tree.specs.Tree.{Tree}
use Rattle.def_tree.specs.Range.{IsWritable}
use Rattle.def_assets.specs.Assets.{Assets, known}
use Rattle.def_satisfaction.specs.Setting.{only}
use Rattle.def_satisfaction.specs.Satisfaction.{given_of, Sat, FullSat, Holds}
use Rattle.def_sane.specs.declared.Rules.TheVariants.{Consensus}
use Rattle.def_sane.specs.Unfit.{IsValidUnder}
use Rattle.def_audit.specs.declared.Step.{Step}
use Rattle.def_audit.specs.Derives.{Derives}
use Rattle.def_choice.specs.NonMalleable.{IsAccepted, given_with}
use Rattle.def_promises.specs.Limited.{StopsAtLimit}
use Rattle.ms_audit_laws.specs.Walk.{trail_of}

-- the walk over a miniscript that is valid under consensus, and so over one that is under policy, finds the steps of a
-- satisfaction, and each satisfaction has those steps alone that it finds
abbrev pub WalkIsTrail : Type 0
WalkIsTrail =
    (tree : Tree) (given : Given) (steps : List Step) (stack : List Bytes) → IsValidUnder Consensus tree →
    (trail_of tree given stack ≡ Some steps) ↔ Derives tree given true steps stack

-- so a stack satisfies such a miniscript by no other rows
abbrev pub TrailIsUnique : Type 0
TrailIsUnique =
    (tree : Tree) (given : Given) (a b : List Step) (stack : List Bytes) → IsValidUnder Consensus tree →
    Derives tree given true a stack → Derives tree given true b stack → a ≡ b

-- what is accepted on the Script of such a miniscript has such steps, which the walk finds
abbrev pub AcceptedHasTrail : Type 0
AcceptedHasTrail =
    (tree : Tree) (given : Given) (stack : List Bytes) (checks : Pairs) → IsWritable tree → IsValidUnder Consensus tree →
    IsAccepted tree given stack checks → (steps : List Step) × (trail_of tree given stack ≡ Some steps)

-- and what has such steps is accepted, or stops at a limit of the interpreter
abbrev pub TrailIsAccepted : Type 0
TrailIsAccepted =
    (tree : Tree) (given : Given) (steps : List Step) (stack : List Bytes) → IsWritable tree → IsValidUnder Consensus tree →
    Derives tree given true steps stack →
    ((checks : Pairs) × IsAccepted tree given stack checks) ⊎ StopsAtLimit tree given stack

-- no step is by a row that isn't canonical
abbrev pub is_canonical : List Step → Bool
is_canonical steps = list_all (λ step. not step.extra) steps

-- steps by canonical rows alone, where the signatures of assets are good, are those of a canonical satisfaction, where
-- the assets' own signatures, the known preimages and the miniscript's own keys are enough for the stack
abbrev pub CanonicalIsSat : Type 0
CanonicalIsSat =
    (tree : Tree) (assets : Assets) (checker : Checker) (steps : List Step) (stack : List Bytes) → IsValidUnder Consensus tree → Holds checker assets →
    Derives tree (given_with assets checker) true steps stack → IsTrue (is_canonical steps) →
    FullSat tree (given_of assets) (only (known assets)) stack → Sat tree assets stack

-- a canonical satisfaction has steps by canonical rows alone, where the assets' signatures are good, whatever others are
abbrev pub SatHasCanonicalSteps : Type 0
SatHasCanonicalSteps =
    (tree : Tree) (assets : Assets) (checker : Checker) (stack : List Bytes) → Holds checker assets → Sat tree assets stack →
    (steps : List Step) × Derives tree (given_with assets checker) true steps stack × IsTrue (is_canonical steps)

-- a stack that is a canonical satisfaction, by assets with these locks whose signatures are good, has these steps
-- by canonical rows alone
abbrev pub IsCanonicalWhereSat : Tree → Given → (stack : List Bytes) → List Step → Type 0
IsCanonicalWhereSat tree given stack steps =
    (assets : Assets) → assets.locks ≡ given.locks → Holds given.checker assets → Sat tree assets stack → IsTrue (is_canonical steps)

-- and over a miniscript that is valid under consensus it has no others
abbrev pub SatIsCanonical : Type 0
SatIsCanonical =
    (tree : Tree) (given : Given) (steps : List Step) (stack : List Bytes) → IsValidUnder Consensus tree →
    Derives tree given true steps stack → IsCanonicalWhereSat tree given stack steps
