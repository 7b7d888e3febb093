-- What the definitions imply.
use Rattle.std.specs.Prelude.{◌≡◌, ◌↔◌, ℕ, Bool, List, length, reverse, AllPairs, Contains, Some, IsSome}
use Rattle.std.specs.Option.{option_map}
use Rattle.def_script.specs.Bytes.{Bytes}
use Rattle.def_tree.specs.Tree.{Tree}
use Rattle.def_tree.specs.Range.{IsWritable}
use Rattle.def_assets.specs.Assets.{Assets, AreAssets, unsigned}
use Rattle.def_satisfaction.specs.Satisfaction.{Sat, Dsat}
use Rattle.def_choice.specs.Sets.{sets}
use Rattle.def_choice.specs.Positions.{positions, IsBefore}
use Rattle.def_choice.specs.Lightest.{IsLightest}
use Rattle.def_choice.specs.Cheapest.{cheapest}
use Rattle.def_choice.specs.Dissatisfaction.{dissatisfaction}
use Rattle.def_choice.specs.Strict.{strict}
use Rattle.def_choice.specs.Free.{free}
use Rattle.def_choice.specs.Tight.{Unsigned, Tight}

-- the sets are all sets of k of n positions
abbrev pub SetsAreAll : Type 0
SetsAreAll =
    (n k : ℕ) (set : List Bool) →
    Contains (sets n k) set ↔ ((length set ≡ n) × (length (positions 0 set) ≡ k))

-- they stand in the order of their sorted lists of positions
abbrev pub SetsAreInOrder : Type 0
SetsAreInOrder = (n k : ℕ) → AllPairs (λ set later. IsBefore (positions 0 set) (positions 0 later)) (sets n k)

-- the cheapest choice is the lightest canonical satisfaction, and there is none exactly where there is no
-- canonical satisfaction
abbrev pub CheapestIsLightest : Type 0
CheapestIsLightest =
    (tree : Tree) (assets : Assets) → IsWritable tree → AreAssets assets →
    IsLightest (Sat tree assets) (cheapest tree assets)

-- the same of dissatisfactions
abbrev pub DissatisfactionIsLightest : Type 0
DissatisfactionIsLightest =
    (tree : Tree) (assets : Assets) → IsWritable tree →
    IsLightest (Dsat tree assets) (option_map reverse (dissatisfaction tree))

-- some satisfaction needs no signature exactly where a free one is found
abbrev pub UnsignedIsFound : Type 0
UnsignedIsFound =
    (tree : Tree) (assets : Assets) → IsWritable tree → AreAssets assets →
    Unsigned tree assets ↔ IsSome (free assets tree)

-- a tight satisfaction is canonical
abbrev pub TightIsCanonical : Type 0
TightIsCanonical = (tree : Tree) (assets : Assets) (stack : List Bytes) → Tight tree assets stack → Sat tree assets stack

-- where some satisfaction needs no signature, every tight one needs none
abbrev pub TightIsUnsigned : Type 0
TightIsUnsigned =
    (tree : Tree) (assets : Assets) (stack : List Bytes) →
    Unsigned tree assets → Tight tree assets stack → Sat tree (unsigned assets) stack

-- the strict choice is tight
abbrev pub StrictIsTight : Type 0
StrictIsTight =
    (tree : Tree) (assets : Assets) (stack : List Bytes) → IsWritable tree → AreAssets assets →
    strict tree assets ≡ Some stack → Tight tree assets stack

-- so it is canonical
abbrev pub StrictIsCanonical : Type 0
StrictIsCanonical =
    (tree : Tree) (assets : Assets) (stack : List Bytes) → IsWritable tree → AreAssets assets →
    strict tree assets ≡ Some stack → Sat tree assets stack
