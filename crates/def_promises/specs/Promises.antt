-- What is promised of the strict choice, beside the laws of choices: that it exists wherever it can, that nobody
-- can change it, and that no lighter one can't be changed either. It is promised of every miniscript that is sane by
-- the limits of consensus, and so of each that is sane by those of policy.
use Rattle.std.specs.Prelude.{◌≡◌, ◌↔◌, ◌≤◌, List, Some, None}
use Rattle.def_script.specs.Bytes.{Bytes}
use Rattle.def_tree.specs.Tree.{Tree}
use Rattle.def_tree.specs.Range.{IsWritable}
use Rattle.def_assets.specs.Assets.{Assets, AreAssets}
use Rattle.def_sane.specs.declared.Rules.TheVariants.{Consensus}
use Rattle.def_sane.specs.Unfit.{IsSaneUnder}
use Rattle.def_script.specs.Witness.{weight}
use Rattle.def_satisfaction.specs.Satisfaction.{Sat}
use Rattle.def_choice.specs.Strict.{strict}
use Rattle.def_choice.specs.Tight.{Tight}
use Rattle.def_choice.specs.NonMalleable.{NonMalleable}
use Rattle.def_promises.specs.Accepted.{Unchangeable, FreshOnesHaveItem, HasNothingToAccept}

-- what makes a stack fresh
abbrev pub FreshHasItem : Type 0
FreshHasItem = (tree : Tree) (assets : Assets) → FreshOnesHaveItem tree assets

abbrev pub UnchangeableIsNonMalleable : Type 0
UnchangeableIsNonMalleable =
    (tree : Tree) (assets : Assets) (stack : List Bytes) →
    Unchangeable tree assets stack → NonMalleable tree assets stack

-- there is a strict choice exactly where there is a canonical satisfaction
abbrev pub StrictExists : Type 0
StrictExists =
    (tree : Tree) (assets : Assets) →
    IsWritable tree → IsSaneUnder Consensus tree → AreAssets assets →
    ((stack : List Bytes) × (strict tree assets ≡ Some stack)) ↔ ((stack : List Bytes) × Sat tree assets stack)

-- nobody can change it
abbrev pub StrictIsNonMalleable : Type 0
StrictIsNonMalleable =
    (tree : Tree) (assets : Assets) (stack : List Bytes) →
    IsWritable tree → IsSaneUnder Consensus tree → AreAssets assets →
    strict tree assets ≡ Some stack → NonMalleable tree assets stack

-- and every other stack that is accepted shows what it has
abbrev pub StrictIsUnchangeable : Type 0
StrictIsUnchangeable =
    (tree : Tree) (assets : Assets) (stack : List Bytes) →
    IsWritable tree → IsSaneUnder Consensus tree → AreAssets assets →
    strict tree assets ≡ Some stack → Unchangeable tree assets stack

-- where there is none, there is nothing to accept
abbrev pub NothingToAccept : Type 0
NothingToAccept =
    (tree : Tree) (assets : Assets) →
    IsWritable tree → IsSaneUnder Consensus tree → AreAssets assets →
    strict tree assets ≡ None → HasNothingToAccept tree assets

-- a canonical satisfaction can't be changed exactly where it is tight
abbrev pub TightIsNonMalleable : Type 0
TightIsNonMalleable =
    (tree : Tree) (assets : Assets) (stack : List Bytes) →
    IsWritable tree → IsSaneUnder Consensus tree → AreAssets assets →
    Sat tree assets stack →
    NonMalleable tree assets stack ↔ Tight tree assets stack

-- and of a tight one every other stack that is accepted shows what it has
abbrev pub TightIsUnchangeable : Type 0
TightIsUnchangeable =
    (tree : Tree) (assets : Assets) (stack : List Bytes) →
    IsWritable tree → IsSaneUnder Consensus tree → AreAssets assets →
    Sat tree assets stack → Tight tree assets stack → Unchangeable tree assets stack

-- the strict choice weighs no more than any canonical satisfaction that can't be changed
abbrev pub StrictIsLightest : Type 0
StrictIsLightest =
    (tree : Tree) (assets : Assets) (other : List Bytes) →
    IsWritable tree → IsSaneUnder Consensus tree → AreAssets assets →
    Sat tree assets other → NonMalleable tree assets other →
    (stack : List Bytes) × (strict tree assets ≡ Some stack) × (weight stack ≤ weight other)
