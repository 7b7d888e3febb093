-- Miniscripts that consensus allows and policy doesn't, and reasons against others under both.
use Rattle.std.specs.Prelude.{◌≡◌, ℕ, zero, suc, ◌+◌, Some}
use Rattle.def_tree.specs.Tree.{Tree, multi}
use Rattle.def_types.specs.Samples.{pk, n, or_i}
use Rattle.def_sane.specs.declared.Rules.{Rules}
use Rattle.def_sane.specs.declared.Rules.TheVariants.{Policy, Consensus}
use Rattle.def_sane.specs.declared.Unfit.{Unfit}
use Rattle.def_sane.specs.declared.Unfit.TheVariants as unfit
use Rattle.def_sane.specs.Unfit.{IsSaneUnder, first_unfit_valid_under}
use Rattle.def_limits.specs.Examples.{HasLimits}
use Rattle.def_sane.specs.Refusals.{numbered_key, numbered_keys, key_chain}

-- this is the first reason against the tree's being valid under these rules
abbrev pub IsUnfitUnder : Rules → Tree → Unfit → Type 0
IsUnfitUnder rules tree reason = first_unfit_valid_under rules tree ≡ Some reason

-- 100 `v:pk` and one `pk`, joined to the right by `and_v`: more items than policy allows
abbrev pub keys_101 : Tree
keys_101 = key_chain 100 1 (pk (numbered_key 101))

abbrev pub ManyKeys : Type 0
ManyKeys = HasLimits keys_101 3535 101 101 7474 × IsUnfitUnder Policy keys_101 (unfit.Items 101) × IsSaneUnder Consensus keys_101

-- 201 of them are as many ops as there may be, and 202 are too many
abbrev pub keys_201 : Tree
keys_201 = key_chain 200 1 (pk (numbered_key 201))

abbrev pub keys_202 : Tree
keys_202 = key_chain 201 1 (pk (numbered_key 202))

abbrev pub MostKeys : Type 0
MostKeys =
    HasLimits keys_201 7035 201 201 14874 × IsUnfitUnder Policy keys_201 (unfit.Size 7035) × IsSaneUnder Consensus keys_201 ×
    IsUnfitUnder Consensus keys_202 (unfit.Ops 202)

-- `multi(1,..)` of 20 keys, and so many further ones, joined to the right by `or_i`, numbered from i on
abbrev pub multi_choice : (further i : ℕ) → Tree
multi_choice zero i = multi 1 (numbered_keys 20 i)
multi_choice (suc m) i = or_i (multi 1 (numbered_keys 20 i)) (multi_choice m (i + 20))

-- 14 of them behind 11 `v:pk`: the largest Script that consensus allows; with a further `n` it is too large
abbrev pub largest : Tree
largest = key_chain 11 1 (multi_choice 13 12)

abbrev pub larger : Tree
larger = key_chain 11 1 (n (multi_choice 13 12))

abbrev pub Largest : Type 0
Largest =
    HasLimits largest 10000 84 26 903 × IsUnfitUnder Policy largest (unfit.Size 10000) × IsSaneUnder Consensus largest ×
    IsUnfitUnder Consensus larger (unfit.Size 10001)
