-- What a call of `msat` for `plan TEXT` shows.
use Rattle.std.specs.Prelude.{◌≡◌, ℕ, ◌≤◌, ◌++◌, List, length, flat_map, codes, decimal, None, Some, Ok}
use Rattle.std.specs.Io.KnownBytes.{Appends}
use Rattle.hex.specs.Hex.{encode_lower}
use Rattle.def_script.specs.Bytes.{Bytes}
use Rattle.def_tree.specs.Tree.{Tree}
use Rattle.def_text.specs.Refusal.{TextReads}
use Rattle.def_sane.specs.Unfit.{IsSane}
use Rattle.def_plan.specs.Plan.{Plan, plan_of, NoneIsExact, Suffices, WeighsAtMost, IsLeast, AsksListed, AsksNoneInVain, AsksInOrder, LengthsDecide}
use Rattle.def_plan.specs.PlanFile.{PlanFile, plan_file_of}
use Rattle.def_answer.specs.declared.status.Status.TheVariants as status
use Rattle.def_answer.specs.Lines.{line, MOST_FILE}
use Rattle.def_answer.specs.Words.{plan, IsForm}
use Rattle.ms_io.specs.Sides.{Side}
use Rattle.msat_cli.specs.Calls.{Call, EndsAs}

-- the words ask for the plan of a text, which is read as this tree, a sane one; and the source tells a plan file, which
-- is read as this one
pub record AsksPlan (call : Call) (tree : Tree) (file : PlanFile) : Type 0 where
  pub text : Bytes
  pub form : IsForm call.words (plan text)
  pub offsets : List ℕ
  pub reads : TextReads text tree offsets
  pub sane : IsSane tree
  pub bytes : Bytes
  pub told : call.source.old ≡ Some bytes
  pub short : length bytes ≤ MOST_FILE
  pub given : plan_file_of bytes ≡ Ok file

-- what the sink got: the keys of the plan by the file's estimates in the order of the nodes and, in a `multi`, of its
-- positions, and the greatest weight. Signatures of these keys are enough, of whatever lengths, and whoever else signs; where
-- none of theirs is longer than estimated they need no more weight; where none is shorter nothing lighter is to be had that
-- nobody can change; only listed keys are asked, each once, and none in vain
pub record PrintsPlan (sink : Side) (tree : Tree) (file : PlanFile) : Type 0 where
  pub found : Plan
  pub planned : plan_of tree file.assets file.table ≡ Some found
  pub suffices : Suffices tree file.assets found
  pub weight : WeighsAtMost tree file.assets file.table found
  pub least : IsLeast tree file.assets file.table found
  pub listed : AsksListed file.table found
  pub none_in_vain : AsksNoneInVain tree file.assets found
  pub in_order : AsksInOrder tree found
  pub written : Appends sink.old sink.new (
      flat_map (λ key. line (codes "ask " ++ encode_lower key)) found.keys
      ++ line (codes "weight at most " ++ decimal found.weight))

-- faults and want of memory aside, the call is done exactly where there is a plan, and ends with the other status exactly
-- where there is none: where no canonical satisfaction exists even when all listed keys sign
pub record FindsPlan (call : Call) (tree : Tree) (file : PlanFile) : Type 0 where
  pub where_some : (found : Plan) → plan_of tree file.assets file.table ≡ Some found → EndsAs status.Done call
  pub where_none : plan_of tree file.assets file.table ≡ None → EndsAs status.NoSatisfaction call
  pub exact : NoneIsExact tree file.assets file.table (plan_of tree file.assets file.table)
  pub lengths : LengthsDecide tree file.assets file.table (plan_of tree file.assets file.table)
  pub done : call.status ≡ status.Done → PrintsPlan call.sink tree file
  pub none : call.status ≡ status.NoSatisfaction → plan_of tree file.assets file.table ≡ None

abbrev pub ShowsPlan : Call → Type 0
ShowsPlan call = (tree : Tree) (file : PlanFile) → AsksPlan call tree file → FindsPlan call tree file
