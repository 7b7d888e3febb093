-- What the definitions imply.
use Rattle.std.specs.Prelude.{◌↔◌, Option, List, All}
use Rattle.def_hash.specs.declared.HashKind.{HashKind}
use Rattle.def_script.specs.Bytes.{Bytes, IsBytes}
use Rattle.def_machine.specs.Stacks.{Checker}
use Rattle.def_machine.specs.Machine.{Given}
use Rattle.def_tree.specs.Tree.{Tree}
use Rattle.def_tree.specs.Range.{IsWritable}
use Rattle.def_assets.specs.Assets.{Assets, AreAssets, known, unsigned}
use Rattle.def_satisfaction.specs.Setting.{any, only}
use Rattle.def_satisfaction.specs.Satisfaction.{Sat, Dsat, FullSat, FullDsat, Holds}

-- a canonical satisfaction is a satisfaction where the assets' signatures are good, whatever others are, also
-- where only the known preimages count
abbrev pub SatIsFullSat : Type 0
SatIsFullSat =
    (tree : Tree) (assets : Assets) (checker : Checker) (stack : List Bytes) → Holds checker assets →
    Sat tree assets stack →
    FullSat tree (record { checker = checker; locks = assets.locks }) (only (known assets)) stack

-- a canonical dissatisfaction is one whatever signatures are good
abbrev pub DsatIsFullDsat : Type 0
DsatIsFullDsat =
    (tree : Tree) (assets : Assets) (checker : Checker) (stack : List Bytes) →
    Dsat tree assets stack →
    FullDsat tree (record { checker = checker; locks = assets.locks }) (only (known assets)) stack

-- what counts where only some preimages and keys do counts where any do
abbrev pub OnlyIsAny : Type 0
OnlyIsAny =
    (tree : Tree) (given : Given) (known : HashKind → Bytes → Option Bytes) (stack : List Bytes) →
    (FullSat tree given (only known) stack → FullSat tree given any stack) ×
    (FullDsat tree given (only known) stack → FullDsat tree given any stack)

-- no canonical dissatisfaction has a signature
abbrev pub DsatNeedsNoSignature : Type 0
DsatNeedsNoSignature =
    (tree : Tree) (assets : Assets) (stack : List Bytes) →
    Dsat tree assets stack ↔ Dsat tree (unsigned assets) stack

-- the items of a canonical satisfaction consist of bytes
abbrev pub SatIsOfBytes : Type 0
SatIsOfBytes =
    (tree : Tree) (assets : Assets) (stack : List Bytes) → IsWritable tree → AreAssets assets →
    Sat tree assets stack → All IsBytes stack

-- so do those of a canonical dissatisfaction
abbrev pub DsatIsOfBytes : Type 0
DsatIsOfBytes =
    (tree : Tree) (assets : Assets) (stack : List Bytes) → IsWritable tree →
    Dsat tree assets stack → All IsBytes stack
