-- Valid and sane miniscripts (BIP 379, with the limits of P2WSH), and the reasons against them in the
-- order in which they are tested. Where no rules are named, those of policy are meant.
use Rattle.std.specs.Prelude.{◌≡◌, ℕ, nat_lt, Bool, false, List, [], ◌∷◌, Option, Some, None, Result, Ok, Err, if◌then◌else◌}
use Rattle.def_script.specs.Limits.{MAX_SCRIPT_SIZE, MAX_OPS_PER_SCRIPT}
use Rattle.def_tree.specs.Tree.{Tree}
use Rattle.def_types.specs.declared.CorrectnessType.{CorrectnessType}
use Rattle.def_types.specs.declared.MalleabilityProperties.{MalleabilityProperties}
use Rattle.def_types.specs.declared.rule.RuleAt.{RuleAt}
use Rattle.def_types.specs.Correctness.{is_b, correctness_of}
use Rattle.def_types.specs.Malleable.{malleability_of}
use Rattle.def_limits.specs.declared.Limits.{Limits}
use Rattle.def_sane.specs.declared.Rules.{Rules}
use Rattle.def_sane.specs.declared.Rules.TheVariants.{Policy, Consensus}
use Rattle.def_sane.specs.declared.Unfit.{Unfit}
use Rattle.def_sane.specs.declared.Unfit.TheVariants as unfit
use Rattle.def_sane.specs.declared.Valid.{Valid}
use Rattle.def_sane.specs.declared.Sane.{Sane}
use Rattle.def_limits.specs.Limits.{AreLimits}
use Rattle.def_sane.specs.TheLimits.{the_limits}
use Rattle.def_sane.specs.Locks.{mix}
use Rattle.def_sane.specs.Keys.{repeated_key}

-- the most bytes of a Script that is relayed (Bitcoin Core, MAX_STANDARD_P2WSH_SCRIPT_SIZE)
abbrev pub MOST_SIZE : ℕ
MOST_SIZE = 3600

-- and of one by either rules: what runs may have more than what is relayed
abbrev pub size_limit : Rules → ℕ
size_limit Policy = MOST_SIZE
size_limit Consensus = MAX_SCRIPT_SIZE

-- the most stack items that are relayed (MAX_STANDARD_P2WSH_STACK_ITEMS); consensus has no such limit
abbrev pub MOST_ITEMS : ℕ
MOST_ITEMS = 100

abbrev pub are_too_many : Rules → (items : ℕ) → Bool
are_too_many Policy items = nat_lt MOST_ITEMS items
are_too_many Consensus items = false

-- 1: a correctness requirement fails; the first
abbrev pub broken_rule : Result CorrectnessType RuleAt → Option Unfit
broken_rule (Ok ty) = None
broken_rule (Err at) = Some (unfit.Rule at)

-- 2: the top isn't of type B
abbrev pub wrong_top : Result CorrectnessType RuleAt → Option Unfit
wrong_top (Ok ty) = if is_b ty.base then None else Some unfit.TopNotB
wrong_top (Err at) = None

-- 3, 4, 5: the size, the opcodes or the items are over their limit
abbrev pub too_large : Rules → Limits → Option Unfit
too_large rules limits = if nat_lt (size_limit rules) limits.size then Some (unfit.Size limits.size) else None

abbrev pub too_many_ops : Limits → Option Unfit
too_many_ops limits = if nat_lt MAX_OPS_PER_SCRIPT limits.ops then Some (unfit.Ops limits.ops) else None

abbrev pub too_many_items : Rules → Limits → Option Unfit
too_many_items rules limits = if are_too_many rules limits.items then Some (unfit.Items limits.items) else None

-- 6: a malleability requirement fails; the first
abbrev pub malleable : Result MalleabilityProperties RuleAt → Option Unfit
malleable (Ok malleability_of) = None
malleable (Err at) = Some (unfit.Malleable at)

-- 7: the top hasn't the property s
abbrev pub no_signature : Result MalleabilityProperties RuleAt → Option Unfit
no_signature (Ok malleability_of) = if malleability_of.s then None else Some unfit.NoSignature
no_signature (Err at) = None

-- 8: a node mixes timelocks; the first
abbrev pub mixed_locks : Option ℕ → Option Unfit
mixed_locks None = None
mixed_locks (Some node) = Some (unfit.MixedLocks node)

-- 9: a node repeats a key; the first
abbrev pub repeated : Option ℕ → Option Unfit
repeated None = None
repeated (Some node) = Some (unfit.RepeatedKey node)

-- the first reason of a list
abbrev pub first_reason : List (Option Unfit) → Option Unfit
first_reason [] = None
first_reason (None ∷ rest) = first_reason rest
first_reason (Some reason ∷ rest) = Some reason

-- the first reason of 1 to 5 against a tree with these limits
abbrev pub first_unfit_valid_by : Rules → Tree → Limits → Option Unfit
first_unfit_valid_by rules tree limits =
    first_reason (
    broken_rule (correctness_of tree) ∷ wrong_top (correctness_of tree) ∷
    too_large rules limits ∷ too_many_ops limits ∷ too_many_items rules limits ∷ [])

-- the first reason of 1 to 9
abbrev pub first_unfit_by : Rules → Tree → Limits → Option Unfit
first_unfit_by rules tree limits =
    first_reason (
    first_unfit_valid_by rules tree limits ∷ malleable (malleability_of tree) ∷ no_signature (malleability_of tree) ∷
    mixed_locks (mix tree) ∷ repeated (repeated_key tree) ∷ [])

-- the first reason of 1 to 5, and of 1 to 9, by the limits of the tree
abbrev pub first_unfit_valid_under : Rules → Tree → Option Unfit
first_unfit_valid_under rules tree = first_unfit_valid_by rules tree (the_limits tree)

abbrev pub first_unfit_under : Rules → Tree → Option Unfit
first_unfit_under rules tree = first_unfit_by rules tree (the_limits tree)

abbrev pub first_unfit_valid : Tree → Option Unfit
first_unfit_valid tree = first_unfit_valid_under Policy tree

abbrev pub first_unfit : Tree → Option Unfit
first_unfit tree = first_unfit_under Policy tree

-- none of 1 to 5 applies
abbrev pub IsValidUnder : Rules → Tree → Type 0
IsValidUnder rules tree = first_unfit_valid_under rules tree ≡ None

abbrev pub IsValid : Tree → Type 0
IsValid tree = IsValidUnder Policy tree

-- none of 1 to 9 applies
abbrev pub IsSaneUnder : Rules → Tree → Type 0
IsSaneUnder rules tree = first_unfit_under rules tree ≡ None

abbrev pub IsSane : Tree → Type 0
IsSane tree = IsSaneUnder Policy tree

-- what is known of a valid tree, and of a sane one
abbrev pub IsKnownValidUnder : Rules → Tree → Valid → Type 0
IsKnownValidUnder rules tree valid = IsValidUnder rules tree × (correctness_of tree ≡ Ok valid.ty) × AreLimits tree valid.limits

abbrev pub IsKnownValid : Tree → Valid → Type 0
IsKnownValid tree valid = IsKnownValidUnder Policy tree valid

abbrev pub IsKnownSaneUnder : Rules → Tree → Sane → Type 0
IsKnownSaneUnder rules tree sane =
    IsSaneUnder rules tree × (correctness_of tree ≡ Ok sane.ty) × (malleability_of tree ≡ Ok sane.malleability_of) × AreLimits tree sane.limits

abbrev pub IsKnownSane : Tree → Sane → Type 0
IsKnownSane tree sane = IsKnownSaneUnder Policy tree sane
