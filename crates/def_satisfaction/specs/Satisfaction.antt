-- Satisfactions and dissatisfactions of a miniscript (BIP 379, satisfaction). A stack stands here as in a
-- witness, its top last.
use Rattle.std.specs.Prelude.{IsTrue, true, false, List, reverse}
use Rattle.def_script.specs.Bytes.{Bytes}
use Rattle.def_machine.specs.Stacks.{Checker, member}
use Rattle.def_machine.specs.Machine.{Given}
use Rattle.def_tree.specs.Tree.{Tree}
use Rattle.def_assets.specs.Assets.{Assets, known}
use Rattle.def_satisfaction.specs.Setting.{Setting, Mode, only}
use Rattle.def_satisfaction.specs.Rows.{row}

-- the locks and signatures of assets, as a run is given them
abbrev pub given_of : Assets → Given
given_of assets = record { checker = member assets.pairs; locks = assets.locks }

-- the canonical rows, with what the assets hold
abbrev pub canonical : Assets → Setting
canonical assets = record { given = given_of assets; mode = only (known assets); all_rows = false }

-- a canonical satisfaction, and a canonical dissatisfaction
abbrev pub Sat : Tree → Assets → (stack : List Bytes) → Type 0
Sat tree assets stack = (row (canonical assets) tree).sat (reverse stack)

abbrev pub Dsat : Tree → Assets → (stack : List Bytes) → Type 0
Dsat tree assets stack = (row (canonical assets) tree).dsat (reverse stack)

-- all rows, with signatures that are good, and locks
abbrev pub full : Given → Mode → Setting
full given mode = record { given = given; mode = mode; all_rows = true }

-- any satisfaction, and any dissatisfaction
abbrev pub FullSat : Tree → Given → Mode → (stack : List Bytes) → Type 0
FullSat tree given mode stack = (row (full given mode) tree).sat (reverse stack)

abbrev pub FullDsat : Tree → Given → Mode → (stack : List Bytes) → Type 0
FullDsat tree given mode stack = (row (full given mode) tree).dsat (reverse stack)

-- every pair of the assets is good
abbrev pub Holds : (checker : Checker) → Assets → Type 0
Holds checker assets = (key sig : Bytes) → IsTrue (member assets.pairs key sig) → IsTrue (checker key sig)
