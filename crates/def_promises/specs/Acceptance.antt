-- Which stacks the interpreter accepts on a miniscript's Script.
use Rattle.std.specs.Prelude.{◌⊎◌, List}
use Rattle.def_script.specs.Bytes.{Bytes}
use Rattle.def_machine.specs.Stacks.{Pairs, Checker}
use Rattle.def_machine.specs.Machine.{Given}
use Rattle.def_tree.specs.Tree.{Tree}
use Rattle.def_tree.specs.Range.{IsWritable}
use Rattle.def_assets.specs.Assets.{Assets, AreAssets}
use Rattle.def_limits.specs.declared.Limits.{Limits}
use Rattle.def_limits.specs.Limits.{AreLimits}
use Rattle.def_sane.specs.declared.Rules.TheVariants.{Consensus}
use Rattle.def_sane.specs.Unfit.{IsValidUnder}
use Rattle.def_satisfaction.specs.Setting.{any}
use Rattle.def_satisfaction.specs.Satisfaction.{Sat, FullSat, Holds}
use Rattle.def_choice.specs.NonMalleable.{IsAccepted, given_with}
use Rattle.def_promises.specs.Limited.{StopsAtLimit}
use Rattle.def_promises.specs.Accepted.{IsAcceptedWithin}

-- a canonical satisfaction of a miniscript that is valid under consensus, and so of one that is under policy, is accepted
-- within its limits and its height, where the assets' signatures are good, whatever others are
abbrev pub CanonicalIsAccepted : Type 0
CanonicalIsAccepted =
    (tree : Tree) (limits : Limits) (assets : Assets) (checker : Checker) (stack : List Bytes) →
    IsWritable tree → IsValidUnder Consensus tree → AreLimits tree limits → AreAssets assets → Holds checker assets →
    Sat tree assets stack →
    IsAcceptedWithin tree limits (given_with assets checker) stack

-- what is accepted is a satisfaction; and a satisfaction is accepted, or stops at a limit of the interpreter
pub record Inversion (tree : Tree) : Type 0 where
  pub satisfaction :
      (given : Given) (stack : List Bytes) (checks : Pairs) →
      IsAccepted tree given stack checks → FullSat tree given any stack
  pub acceptance :
      (given : Given) (stack : List Bytes) → FullSat tree given any stack →
      ((checks : Pairs) × IsAccepted tree given stack checks) ⊎ StopsAtLimit tree given stack

-- of every miniscript that is valid under consensus
abbrev pub InversionHolds : Type 0
InversionHolds = (tree : Tree) → IsWritable tree → IsValidUnder Consensus tree → Inversion tree
