-- Where the keys of expressions start from at a branch: what the steps before the first `*` of each lead to.
use Rattle.std.specs.Prelude.{◌≡◌, ⊤, ℕ, List, [], ◌∷◌, ◌++◌, map, Option, Some, None, Result, Ok, OnOk}
use Rattle.std.specs.Option.{option_map}
use Rattle.def_tree.specs.Tree.{Key as TheKey}
use Rattle.def_curve.specs.Encoding.{compressed}
use Rattle.def_derive.specs.Child.{descendant}
use Rattle.def_descriptor.specs.Expression.{Named, Expression}
use Rattle.def_descriptor.specs.Gives.{key_at, with_key}
use Rattle.ms_point.specs.Standing.{IsAffine}
use Rattle.ms_derive.specs.Nodes.{node_at}
use Rattle.ms_outputs.specs.declared.starts.Left.{Left}
use Rattle.ms_outputs.specs.declared.starts.Left.TheVariants.{Number, Index}
use Rattle.ms_outputs.specs.declared.starts.Reached.{Reached}
use Rattle.ms_outputs.specs.declared.starts.Reached.TheVariants.{Key, Node, Nothing}
use Rattle.ms_outputs.specs.declared.starts.Start.{Start}

-- the number of a step that is left, at an index
abbrev pub left_number : (i : ℕ) → Left → ℕ
left_number i (Number n) = n
left_number i Index = i

-- the key that the steps that are left lead to at an index: none where one of them has none
abbrev pub start_key : (i : ℕ) → Reached → Option TheKey
start_key i (Key key) = Some key
start_key i (Node node left) = option_map (λ last. compressed last.point) (descendant (map (left_number i) left.items) (node_at node))
start_key i Nothing = None

-- the keys at an index, or the place of the first expression without one
abbrev pub start_keys : (i : ℕ) → List Start → Result (List TheKey) ℕ
start_keys i [] = Ok []
start_keys i (start ∷ rest) = with_key start.at (start_key i start.reached) (start_keys i rest)

-- the coordinates of a node are below p
abbrev pub IsSafe : Reached → Type 0
IsSafe (Key key) = ⊤
IsSafe (Node node left) = IsAffine node.point
IsSafe Nothing = ⊤

abbrev pub StartsSafe : Start → Type 0
StartsSafe start = IsSafe start.reached

-- what the steps of a key lead to at a branch: so its key at each index is that of the definition
pub record IsReached (branch : ℕ) (named : Named) (reached : Reached) : Type 0 where
  pub key : (i : ℕ) → start_key i reached ≡ key_at branch i named
  pub safe : IsSafe reached

-- where the keys of expressions start from, one after the other
abbrev pub AreStarts : (branch : ℕ) → List Expression → List Start → Type 0
AreStarts branch [] [] = ⊤
AreStarts branch [] (start ∷ rest) = ⊥
AreStarts branch (expression ∷ more) [] = ⊥
AreStarts branch (expression ∷ more) (start ∷ rest) =
    (start.at ≡ expression.at) × IsReached branch expression.named start.reached × AreStarts branch more rest

-- they stand behind those before
abbrev pub AddsStarts : {A E : Type 0} → (branch : ℕ) → List Expression → (before after : List Start) → Result A E → Type 0
AddsStarts branch expressions before after result =
    OnOk result ((starts : List Start) × AreStarts branch expressions starts × (after ≡ before ++ starts))
