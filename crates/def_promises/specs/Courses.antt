-- How high the stacks get while a canonical satisfaction is run.
use Rattle.std.specs.Prelude.{◌≡◌, ℕ, ⊤, IsTrue, List, All, length, Some}
use Rattle.def_script.specs.Bytes.{Bytes}
use Rattle.def_machine.specs.Stacks.{Pairs, Checker, member}
use Rattle.def_machine.specs.Machine.{Given}
use Rattle.def_machine.specs.Run.{run, accepted}
use Rattle.def_machine.specs.Locks.{older_holds, after_holds}
use Rattle.def_machine.specs.MultiSig.{is_good}
use Rattle.def_tree.specs.Tree.{Tree, Trees, Key, just_0, just_1, pk_k, pk_h, older, after, hash, and_or, two, thresh, multi, wrap, none, more}
use Rattle.def_tree.specs.Range.{IsWritable}
use Rattle.def_emit.specs.Emit.{script_of}
use Rattle.def_assets.specs.Assets.{Assets, AreAssets, known}
use Rattle.def_sane.specs.declared.Rules.TheVariants.{Consensus}
use Rattle.def_sane.specs.Unfit.{IsValidUnder}
use Rattle.def_height.specs.Formal.{Way, FormalSat}
use Rattle.def_height.specs.Height.{IsHeight, peak}
use Rattle.def_satisfaction.specs.Rows.{ZEROS, IsPreimageOf, IsNoPreimageOf}
use Rattle.def_satisfaction.specs.Satisfaction.{given_of, Sat, Holds}
use Rattle.def_choice.specs.NonMalleable.{given_with}

-- the run is accepted, and both stacks hold at most exactly as many elements as on a formal satisfaction with as many items
pub record HasCourse (tree : Tree) (given : Given) (stack : List Bytes) : Type 0 where
  pub way : Way
  pub formal : FormalSat tree way
  pub items : length stack ≡ way.items
  pub ops : ℕ
  pub checks : Pairs
  pub run : run given (script_of tree) stack ≡ accepted ops (peak way) checks

-- a canonical satisfaction of a miniscript that is valid under consensus has such a course, where the assets' signatures
-- are good, whatever others are
abbrev pub CanonicalHasCourse : Type 0
CanonicalHasCourse =
    (tree : Tree) (assets : Assets) (checker : Checker) (stack : List Bytes) →
    IsWritable tree → IsValidUnder Consensus tree → AreAssets assets → Holds checker assets →
    Sat tree assets stack → HasCourse tree (given_with assets checker) stack

-- the assets hold a signature of this key
abbrev pub Signs : Assets → Key → Type 0
Signs assets key = (sig : Bytes) × IsTrue (is_good (member assets.pairs) key sig)

-- the assets have all that a miniscript can take: a signature of each key, and the preimage of each hash, whose value isn't
-- that of 32 zero bytes; and they meet each timelock
abbrev mutual
  pub HasAll : Assets → Tree → Type 0
  HasAll assets just_0 = ⊤
  HasAll assets just_1 = ⊤
  HasAll assets (pk_k key) = Signs assets key
  HasAll assets (pk_h key) = Signs assets key
  HasAll assets (older n) = IsTrue (older_holds n assets.locks)
  HasAll assets (after n) = IsTrue (after_holds n assets.locks)
  HasAll assets (hash kind value) =
      (preimage : Bytes) × (known assets kind value ≡ Some preimage) × IsPreimageOf kind value preimage × IsNoPreimageOf kind value ZEROS
  HasAll assets (and_or x y z) = HasAll assets x × HasAll assets y × HasAll assets z
  HasAll assets (two kind x y) = HasAll assets x × HasAll assets y
  HasAll assets (thresh k xs) = HaveAll assets xs
  HasAll assets (multi k keys) = All (Signs assets) keys
  HasAll assets (wrap wrapper x) = HasAll assets x

  pub HaveAll : Assets → Trees → Type 0
  HaveAll assets none = ⊤
  HaveAll assets (more x xs) = HasAll assets x × HaveAll assets xs

-- some canonical satisfaction takes these items, and its run is accepted with this peak
pub record IsRun (tree : Tree) (assets : Assets) (count top : ℕ) : Type 0 where
  pub stack : List Bytes
  pub sat : Sat tree assets stack
  pub items : length stack ≡ count
  pub ops : ℕ
  pub checks : Pairs
  pub run : run (given_of assets) (script_of tree) stack ≡ accepted ops top checks

-- with assets that have all that it can take, each formal satisfaction of a valid miniscript is run, with exactly its peak
abbrev pub EachFormalIsRun : Type 0
EachFormalIsRun =
    (tree : Tree) (assets : Assets) (way : Way) → IsWritable tree → IsValidUnder Consensus tree → AreAssets assets → HasAll assets tree →
    FormalSat tree way → IsRun tree assets way.items (peak way)

-- so the height is reached, and is no bound alone
abbrev pub HeightIsReached : Type 0
HeightIsReached =
    (tree : Tree) (assets : Assets) (height : ℕ) → IsWritable tree → IsValidUnder Consensus tree → AreAssets assets → HasAll assets tree →
    (way : Way) → FormalSat tree way → IsHeight tree height → (items : ℕ) × IsRun tree assets items height
