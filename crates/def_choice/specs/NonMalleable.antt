-- Which satisfactions nobody can change (BIP 379, malleability).
use Rattle.std.specs.Prelude.{◌≡◌, ◌≢◌, ◌⊎◌, ℕ, IsTrue, List, All}
use Rattle.def_script.specs.Bytes.{Bytes, IsBytes}
use Rattle.def_machine.specs.Stacks.{Pairs, Checker, member}
use Rattle.def_machine.specs.Machine.{Given}
use Rattle.def_machine.specs.Run.{run, accepted}
use Rattle.def_tree.specs.Tree.{Tree}
use Rattle.def_emit.specs.Emit.{script_of}
use Rattle.def_assets.specs.Assets.{Assets, known}
use Rattle.def_satisfaction.specs.Setting.{any, only}
use Rattle.def_satisfaction.specs.Satisfaction.{FullSat, Holds}

-- the run of the miniscript's Script on the stack is accepted, and finds these pairs good
pub record IsAccepted (tree : Tree) (given : Given) (stack : List Bytes) (checks : Pairs) : Type 0 where
  pub ops : ℕ
  pub peak : ℕ
  pub run : run given (script_of tree) stack ≡ accepted ops peak checks

-- these checks have a pair of key and signature that those have not
abbrev pub HasNewPair : (these those : Pairs) → Type 0
HasNewPair these those = (key : Bytes) × (sig : Bytes) × IsTrue (member these key sig) × ¬ IsTrue (member those key sig)

-- the locks of the assets, with signatures that are good
abbrev pub given_with : Assets → (checker : Checker) → Given
given_with assets checker = record { checker = checker; locks = assets.locks }

-- the stack has a preimage that isn't the known one, or a key with the hash of a miniscript's key: it is a
-- satisfaction, but not where only the known preimages and the miniscript's own keys count
abbrev pub Fresh : Tree → Assets → (checker : Checker) → (stack : List Bytes) → Type 0
Fresh tree assets checker stack =
    FullSat tree (given_with assets checker) any stack ×
    ¬ FullSat tree (given_with assets checker) (only (known assets)) stack

-- the keys and the signatures of a table consist of bytes
abbrev pub IsTableOfBytes : Pairs → Type 0
IsTableOfBytes table = All (λ pair. IsBytes pair.0 × IsBytes pair.1) table

-- under every table of bytes that holds the pairs of the assets, the stack is accepted; and every other stack of
-- bytes that is accepted passes a check that this one doesn't, or is fresh
abbrev pub NonMalleable : Tree → Assets → (stack : List Bytes) → Type 0
NonMalleable tree assets stack =
    (table : Pairs) → IsTableOfBytes table → Holds (member table) assets →
    (checks : Pairs) × IsAccepted tree (given_with assets (member table)) stack checks ×
    ((other : List Bytes) (others : Pairs) → All IsBytes other →
    IsAccepted tree (given_with assets (member table)) other others → other ≢ stack →
    HasNewPair others checks ⊎ Fresh tree assets (member table) other)
