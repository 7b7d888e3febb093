-- What the definitions imply.
use Rattle.std.specs.Prelude.{◌≡◌, Some}
use Rattle.def_tree.specs.Tree.{Tree}
use Rattle.def_tree.specs.Range.{IsWritable}
use Rattle.def_assets.specs.Assets.{Assets, AreAssets}
use Rattle.def_sane.specs.Unfit.{IsSane}
use Rattle.def_plan.specs.Lengths.{Lengths, AreLengths, IsEstimate, estimated}
use Rattle.def_plan.specs.Plan.{Plan, plan_of, NoneIsExact, Suffices, WeighsAtMost, IsLeast, AsksListed, AsksNoneInVain, AsksInOrder, LengthsDecide}

-- of every sane miniscript, all assets and every table
pub record IsInput (tree : Tree) (assets : Assets) (table : Lengths) : Type 0 where
  pub writable : IsWritable tree
  pub sane : IsSane tree
  pub held : AreAssets assets
  pub lengths : AreLengths table

-- signatures of zeros have the estimated lengths, and are signatures
abbrev pub EstimateExists : Type 0
EstimateExists =
    (assets : Assets) (table : Lengths) → AreAssets assets → AreLengths table →
    IsEstimate assets table (estimated assets table) × AreAssets (estimated assets table)

abbrev pub NoneHolds : Type 0
NoneHolds =
    (tree : Tree) (assets : Assets) (table : Lengths) → IsInput tree assets table →
    NoneIsExact tree assets table (plan_of tree assets table)

abbrev pub LengthsDecideAll : Type 0
LengthsDecideAll =
    (tree : Tree) (assets : Assets) (table : Lengths) → IsInput tree assets table →
    LengthsDecide tree assets table (plan_of tree assets table)

-- the same of a plan that is found
abbrev pub OfEachPlan : (Tree → Assets → Lengths → Plan → Type 0) → Type 0
OfEachPlan Holds =
    (tree : Tree) (assets : Assets) (table : Lengths) (plan : Plan) → IsInput tree assets table →
    plan_of tree assets table ≡ Some plan → Holds tree assets table plan

abbrev pub SufficesAlways : Type 0
SufficesAlways = OfEachPlan (λ tree assets table plan. Suffices tree assets plan)

abbrev pub WeighsAtMostAlways : Type 0
WeighsAtMostAlways = OfEachPlan WeighsAtMost

abbrev pub LeastAlways : Type 0
LeastAlways = OfEachPlan IsLeast

abbrev pub ListedAlways : Type 0
ListedAlways = OfEachPlan (λ tree assets table plan. AsksListed table plan)

abbrev pub NoneInVainEver : Type 0
NoneInVainEver = OfEachPlan (λ tree assets table plan. AsksNoneInVain tree assets plan)

abbrev pub InOrderAlways : Type 0
InOrderAlways = OfEachPlan (λ tree assets table plan. AsksInOrder tree plan)
