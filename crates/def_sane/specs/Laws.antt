-- Laws of limits, and of valid and sane miniscripts.
use Rattle.std.specs.Prelude.{◌≡◌, ◌↔◌, ℕ, ◌<◌, ◌≤◌, None, ⊤, IsTrue, MatchOption}
use Rattle.def_tree.specs.Tree.{Tree}
use Rattle.def_types.specs.declared.Base.TheVariants.{B}
use Rattle.def_types.specs.Typed.{type_of, IsTyped, properties_of, IsMalleabilityTyped}
use Rattle.def_limits.specs.declared.Limits.{Limits}
use Rattle.def_sane.specs.declared.Rules.{Rules}
use Rattle.def_sane.specs.declared.Rules.TheVariants.{Policy, Consensus}
use Rattle.def_limits.specs.Limits.{AreLimits}
use Rattle.def_sane.specs.TheLimits.{the_limits}
use Rattle.def_sane.specs.Locks.{Mixes, mix}
use Rattle.def_sane.specs.Keys.{keys, AreDistinct, repeated_key}
use Rattle.def_sane.specs.Repeats.{Repeats}
use Rattle.def_script.specs.Limits.{MAX_OPS_PER_SCRIPT}
use Rattle.def_sane.specs.Unfit.{size_limit, MOST_ITEMS, first_unfit_valid_by, first_unfit_by, first_unfit_valid_under, first_unfit_under, IsValidUnder, IsSaneUnder}

-- the limits of a tree are limits of it
abbrev pub TheyAreLimits : Type 0
TheyAreLimits = (tree : Tree) → AreLimits tree (the_limits tree)

-- a tree has no others
abbrev pub TheyAreTheOnly : Type 0
TheyAreTheOnly = (tree : Tree) (limits : Limits) → AreLimits tree limits → limits ≡ the_limits tree

-- `mix` is the first node that mixes, and there is none exactly where it is none
abbrev pub MixIsFirst : Type 0
MixIsFirst =
    (tree : Tree) →
    MatchOption (mix tree)
    ((node : ℕ) → ¬ Mixes tree node)
    (λ first. Mixes tree first × ((node : ℕ) → node < first → ¬ Mixes tree node))

-- `repeated_key` is the first node that repeats a key, and there is none exactly where it is none
abbrev pub RepeatedIsFirst : Type 0
RepeatedIsFirst =
    (tree : Tree) →
    MatchOption (repeated_key tree)
    ((node : ℕ) → ¬ Repeats tree node)
    (λ first. Repeats tree first × ((node : ℕ) → node < first → ¬ Repeats tree node))

-- no key is repeated exactly where all keys of the tree are distinct
abbrev pub NoneIsRepeated : Type 0
NoneIsRepeated = (tree : Tree) → (repeated_key tree ≡ None) ↔ AreDistinct (keys tree)

-- so few items may be under these rules
abbrev pub AreFewItems : Rules → (items : ℕ) → Type 0
AreFewItems Policy items = items ≤ MOST_ITEMS
AreFewItems Consensus items = ⊤

-- the reasons against a tree are those by its limits, of which it has no others
abbrev pub ReasonsAreByLimits : Type 0
ReasonsAreByLimits =
    (rules : Rules) (tree : Tree) (limits : Limits) → AreLimits tree limits →
    (first_unfit_valid_under rules tree ≡ first_unfit_valid_by rules tree limits) ×
    (first_unfit_under rules tree ≡ first_unfit_by rules tree limits)

-- valid is a tree of type B within these limits
abbrev pub IsValidWithin : Rules → Tree → Limits → Type 0
IsValidWithin rules tree limits =
    IsTyped tree × ((type_of tree).base ≡ B) × (limits.size ≤ size_limit rules) ×
    (limits.ops ≤ MAX_OPS_PER_SCRIPT) × AreFewItems rules limits.items

-- that is what it means to be valid
abbrev pub ValidMeans : Type 0
ValidMeans =
    (rules : Rules) (tree : Tree) (limits : Limits) →
    AreLimits tree limits → IsValidUnder rules tree ↔ IsValidWithin rules tree limits

-- a sane tree is valid, not malleable and signed, and has no mixed locks and no repeated key
abbrev pub SaneMeans : Type 0
SaneMeans =
    (rules : Rules) (tree : Tree) →
    IsSaneUnder rules tree ↔
    (IsValidUnder rules tree × IsMalleabilityTyped tree × IsTrue (properties_of tree).s × (mix tree ≡ None) × AreDistinct (keys tree))

-- what is valid, or sane, under any rules is so under those of consensus
abbrev pub ValidUnderConsensus : Type 0
ValidUnderConsensus = (rules : Rules) (tree : Tree) → IsValidUnder rules tree → IsValidUnder Consensus tree

abbrev pub SaneUnderConsensus : Type 0
SaneUnderConsensus = (rules : Rules) (tree : Tree) → IsSaneUnder rules tree → IsSaneUnder Consensus tree
