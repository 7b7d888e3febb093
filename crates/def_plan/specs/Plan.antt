-- A plan: which keys to ask for a signature, and what the satisfaction weighs at most.
use Rattle.std.specs.Prelude.{◌≡◌, ◌≢◌, ◌↔◌, ℕ, ◌≤◌, List, [], ◌∷◌, ⊤, Option, Some, None, Contains, IsSome, ◌⊎◌}
use Rattle.std.specs.Option.{option_map}
use Rattle.def_script.specs.Bytes.{Bytes}
use Rattle.def_tree.specs.Tree.{Tree, Key}
use Rattle.def_assets.specs.Assets.{Assets, AreAssets}
use Rattle.def_sane.specs.Keys.{keys, AreDistinct}
use Rattle.def_script.specs.Witness.{weight}
use Rattle.def_satisfaction.specs.Satisfaction.{Sat}
use Rattle.def_choice.specs.Strict.{strict}
use Rattle.def_choice.specs.NonMalleable.{NonMalleable}
use Rattle.def_plan.specs.Lengths.{Lengths, length_of, IsLike, FitsAbove, IsEstimate, estimated, Sign, SignAll, SignBelow}
use Rattle.def_plan.specs.Taken.{taken}

pub record Plan : Type 0 where
  -- the keys to ask, in the order of the nodes and, in a `multi`, of its positions
  pub keys : List Key
  -- of the satisfaction, without the script
  pub weight : ℕ

-- the strict choice with these signatures, as a plan
abbrev pub plan_with : Tree → Assets → Option Plan
plan_with tree assets = option_map (λ stack. record { keys = taken assets tree; weight = weight stack }) (strict tree assets)

-- the plan by estimates: the strict choice with signatures of the estimated lengths
abbrev pub plan_of : Tree → Assets → Lengths → Option Plan
plan_of tree assets table = plan_with tree (estimated assets table)

-- ---- what a plan is good for

-- there is none exactly where no canonical satisfaction exists even when all listed keys sign
abbrev pub NoneIsExact : Tree → Assets → Lengths → (found : Option Plan) → Type 0
NoneIsExact tree assets table found =
    (other : Assets) → AreAssets other → IsLike assets other → Sign (λ key. IsSome (length_of table key)) other →
    (found ≡ None) ↔ ((stack : List Bytes) → ¬ Sat tree other stack)

-- signatures of the plan's keys are enough, of whatever lengths, and whoever else signs
abbrev pub Suffices : Tree → Assets → Plan → Type 0
Suffices tree assets plan =
    (other : Assets) → AreAssets other → IsLike assets other → SignAll (Contains plan.keys) other → IsSome (strict tree other)

-- where of each of the plan's keys a signature is no longer than estimated, the strict choice weighs at most the plan's
-- weight, whoever else signs, and however long those signatures are
abbrev pub WeighsAtMost : Tree → Assets → Lengths → Plan → Type 0
WeighsAtMost tree assets table plan =
    (other : Assets) → AreAssets other → IsLike assets other → SignBelow (Contains plan.keys) table other →
    (stack : List Bytes) × (strict tree other ≡ Some stack) × (weight stack ≤ plan.weight)

-- whatever listed keys sign, where no signature is shorter than estimated no satisfaction that nobody can change
-- weighs less
abbrev pub IsLeast : Tree → Assets → Lengths → Plan → Type 0
IsLeast tree assets table plan =
    (other : Assets) (stack : List Bytes) → AreAssets other → FitsAbove assets table other →
    Sat tree other stack → NonMalleable tree other stack → plan.weight ≤ weight stack

-- only listed keys are asked
abbrev pub AsksListed : Lengths → Plan → Type 0
AsksListed table plan = (key : Key) → Contains plan.keys key → IsSome (length_of table key)

-- and none in vain: without its signature those of the other keys satisfy nothing
abbrev pub AsksNoneInVain : Tree → Assets → Plan → Type 0
AsksNoneInVain tree assets plan =
    (key : Key) (other : Assets) (stack : List Bytes) → Contains plan.keys key → AreAssets other → IsLike assets other →
    Sign (λ k. Contains plan.keys k × (k ≢ key)) other → ¬ Sat tree other stack

-- some of a list's elements, in their order
abbrev pub IsPartOf : (some all : List Key) → Type 0
IsPartOf [] all = ⊤
IsPartOf (key ∷ some) [] = ⊥
IsPartOf (key ∷ some) (first ∷ all) = ((key ≡ first) × IsPartOf some all) ⊎ IsPartOf (key ∷ some) all

-- they are asked in the order of the nodes and, in a `multi`, of its positions, each once
pub record AsksInOrder (tree : Tree) (plan : Plan) : Type 0 where
  pub order : IsPartOf plan.keys (keys tree)
  pub once : AreDistinct plan.keys

-- whatever signatures have the estimated lengths, the plan is the strict choice with them: only the lengths decide
abbrev pub LengthsDecide : Tree → Assets → Lengths → (found : Option Plan) → Type 0
LengthsDecide tree assets table found =
    (other : Assets) → AreAssets other → IsEstimate assets table other → found ≡ plan_with tree other
