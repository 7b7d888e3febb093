-- That the limits of a miniscript are reached, and are no bounds alone.
use Rattle.std.specs.Prelude.{◌≡◌, ℕ, ◌+◌, IsTrue, List, length}
use Rattle.def_script.specs.Bytes.{Bytes}
use Rattle.def_script.specs.Instruction.{opcode_count}
use Rattle.def_script.specs.Signature.{MAX_SIGNATURE_SIZE}
use Rattle.def_script.specs.Witness.{weight}
use Rattle.def_machine.specs.Stacks.{Pairs, member}
use Rattle.def_machine.specs.MultiSig.{is_good}
use Rattle.def_machine.specs.Run.{run, accepted}
use Rattle.def_tree.specs.Tree.{Tree}
use Rattle.def_tree.specs.Range.{IsWritable}
use Rattle.def_emit.specs.Emit.{emit, script_of}
use Rattle.def_assets.specs.Assets.{Assets, AreAssets}
use Rattle.def_limits.specs.declared.Limits.{Limits}
use Rattle.def_limits.specs.Formal.{Takes, FormalSat}
use Rattle.def_limits.specs.Limits.{AreLimits}
use Rattle.def_sane.specs.declared.Rules.TheVariants.{Consensus}
use Rattle.def_sane.specs.Unfit.{IsValidUnder}
use Rattle.def_satisfaction.specs.Satisfaction.{given_of, Sat}
use Rattle.def_promises.specs.Courses.{HasAll}

-- each signature that the assets hold with a key has as many bytes as one can have
abbrev pub HasLongest : Assets → Type 0
HasLongest assets = (key sig : Bytes) → IsTrue (is_good (member assets.pairs) key sig) → length sig ≡ MAX_SIGNATURE_SIZE

-- some canonical satisfaction has exactly so many items and this weight, and its run is accepted and counts the opcodes of the
-- Script and so many keys
pub record IsTaken (tree : Tree) (assets : Assets) (takes : Takes) : Type 0 where
  pub stack : List Bytes
  pub sat : Sat tree assets stack
  pub items : length stack ≡ takes.items
  pub light : weight stack ≡ takes.weight
  pub peak : ℕ
  pub checks : Pairs
  pub run : run (given_of assets) (script_of tree) stack ≡ accepted (opcode_count (emit tree) + takes.keys) peak checks

-- with assets that have all that it can take, and signatures of the greatest length, each formal satisfaction of a valid
-- miniscript is taken, exactly
abbrev pub EachFormalIsTaken : Type 0
EachFormalIsTaken =
    (tree : Tree) (assets : Assets) (takes : Takes) →
    IsWritable tree → IsValidUnder Consensus tree → AreAssets assets → HasAll assets tree → HasLongest assets →
    FormalSat tree takes → IsTaken tree assets takes

-- what canonical satisfactions take, of which one has as many items as the limits, one as much weight, and one is run with as many ops
pub record AreReached (tree : Tree) (assets : Assets) (limits : Limits) : Type 0 where
  pub longest : Takes
  pub longest_taken : IsTaken tree assets longest
  pub items : longest.items ≡ limits.items
  pub heaviest : Takes
  pub heaviest_taken : IsTaken tree assets heaviest
  pub weight : heaviest.weight ≡ limits.weight
  pub busiest : Takes
  pub busiest_taken : IsTaken tree assets busiest
  pub ops : opcode_count (emit tree) + busiest.keys ≡ limits.ops

-- so each limit is reached, where there is a formal satisfaction at all
abbrev pub LimitsAreReached : Type 0
LimitsAreReached =
    (tree : Tree) (assets : Assets) (limits : Limits) →
    IsWritable tree → IsValidUnder Consensus tree → AreAssets assets → HasAll assets tree → HasLongest assets →
    AreLimits tree limits → (takes : Takes) → FormalSat tree takes → AreReached tree assets limits
