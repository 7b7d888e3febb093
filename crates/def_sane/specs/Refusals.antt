-- Miniscripts that are sane, and reasons against others.
use Rattle.std.specs.Prelude.{◌≡◌, ℕ, zero, suc, ◌+◌, ◌/◌, ◌%◌, List, [], ◌∷◌, Some, None, replicate}
use Rattle.def_tree.specs.Tree.{Tree, Key, just_0, just_1, older, multi}
use Rattle.def_types.specs.declared.rule.Rule.TheVariants as rule
use Rattle.def_types.specs.Samples.{KEY_A, KEY_B, hash_value, pk, pkh, sha256, a, s, v, n, and_v, and_b, or_b, or_i}
use Rattle.def_sane.specs.declared.Unfit.{Unfit}
use Rattle.def_sane.specs.declared.Unfit.TheVariants as unfit
use Rattle.def_sane.specs.Unfit.{IsSane, IsValid, first_unfit}
use Rattle.def_limits.specs.Examples.{HasLimits, key_chain_of_three, two_of_three, hashes_or_keys, key_or_hashes, keys_and_lock, hash_or_key}

-- this is the first reason against the tree
abbrev pub IsRefused : Tree → Unfit → Type 0
IsRefused tree reason = first_unfit tree ≡ Some reason

-- expressions whose limits are given
abbrev pub SaneOnes : Type 0
SaneOnes =
    IsSane (pk KEY_B) × IsSane key_chain_of_three × IsSane two_of_three × IsSane hashes_or_keys ×
    IsSane key_or_hashes × IsSane keys_and_lock × IsSane just_0

-- `1`
abbrev pub OneNeedsNoSignature : Type 0
OneNeedsNoSignature = IsValid just_1 × IsRefused just_1 unfit.NoSignature

-- `v:pk(A)`
abbrev pub VerifyOnTop : Type 0
VerifyOnTop = IsRefused (v (pk KEY_A)) unfit.TopNotB

-- `older(0)`
abbrev pub NoLock : Type 0
NoLock = IsRefused (older 0) (unfit.Rule (record { node = 0; rule = rule.OlderRange }))

-- `or_b(sha256(h),s:pk(A))`
abbrev pub MalleableOr : Type 0
MalleableOr = IsRefused (or_b (sha256 (hash_value 0x11)) (s (pk KEY_A))) (unfit.Malleable (record { node = 4; rule = rule.OrBE }))

-- `thresh(1,sha256(h),s:pk(A))` is valid
abbrev pub MalleableThreshold : Type 0
MalleableThreshold =
    IsValid hash_or_key × IsRefused hash_or_key (unfit.Malleable (record { node = 4; rule = rule.ThreshE }))

-- `and_v(v:pk(A),and_b(older(10),a:older(4194314)))`: a height and a time in the `and_b`
abbrev pub HeightAndTime : Type 0
HeightAndTime = IsRefused (and_v (v (pk KEY_A)) (and_b (older 10) (a (older 4194314)))) (unfit.MixedLocks 6)

-- `and_v(v:pk(A),or_i(and_v(v:pk(B),older(10)),older(4194314)))`: a height or a time
abbrev pub height_or_time : Tree
height_or_time = and_v (v (pk KEY_A)) (or_i (and_v (v (pk KEY_B)) (older 10)) (older 4194314))

abbrev pub HeightOrTimeIsSane : Type 0
HeightOrTimeIsSane = IsSane height_or_time × HasLimits height_or_time 80 7 3 150

-- `and_v(v:pk(A),pkh(A))`
abbrev pub SameKey : Type 0
SameKey = IsRefused (and_v (v (pk KEY_A)) (pkh KEY_A)) (unfit.RepeatedKey 3)

-- a key of its own for each number
abbrev pub numbered_key : ℕ → Key
numbered_key i = 0x02 ∷ i / 256 ∷ i % 256 ∷ replicate 30 0

-- n of them, from the number i on
abbrev pub numbered_keys : (n i : ℕ) → List Key
numbered_keys zero i = []
numbered_keys (suc n) i = numbered_key i ∷ numbered_keys n (i + 1)

-- `n` so many times
abbrev pub times_n : ℕ → Tree → Tree
times_n zero x = x
times_n (suc k) x = n (times_n k x)

-- 255 letters `n`, and `0`
abbrev pub ManyWrappers : Type 0
ManyWrappers = IsRefused (times_n 255 just_0) (unfit.Ops 255)

-- `and_v(v:pk(..),..)` of so many keys, numbered from i on, joined to the right before x
abbrev pub key_chain : (n i : ℕ) → Tree → Tree
key_chain zero i x = x
key_chain (suc n) i x = and_v (v (pk (numbered_key i))) (key_chain n (i + 1) x)

-- 99 `v:pk` and one `pk` are as many items as there may be; 100 and one are too many
abbrev pub MostItems : Type 0
MostItems =
    let most = key_chain 99 0 (pk (numbered_key 99)) in
    IsSane most × HasLimits most 3500 100 100 7400

abbrev pub TooManyItems : Type 0
TooManyItems = IsRefused (key_chain 100 0 (pk (numbered_key 100))) (unfit.Items 101)

-- letters `n`, and `or_i(multi(1,..),multi(1,..))` of 20 keys each: the keys of one `multi` count
abbrev pub many_ops : ℕ → Tree
many_ops k = times_n k (or_i (multi 1 (numbered_keys 20 0)) (multi 1 (numbered_keys 20 20)))

abbrev pub MostOps : Type 0
MostOps = first_unfit (many_ops 176) ≡ None

abbrev pub TooManyOps : Type 0
TooManyOps = IsRefused (many_ops 177) (unfit.Ops 202)

-- `and_v(v:multi(1,..),..)` of 20 keys each, so many times, numbered from i on, before x
abbrev pub multi_chain : (n i : ℕ) → Tree → Tree
multi_chain zero i x = x
multi_chain (suc n) i x = and_v (v (multi 1 (numbered_keys 20 i))) (multi_chain n (i + 20) x)

abbrev pub large : (lock : ℕ) → Tree
large lock = multi_chain 5 0 (key_chain 5 100 (older lock))

abbrev pub MostSize : Type 0
MostSize = IsSane (large 32768) × HasLimits (large 32768) 3600 111 15 745

abbrev pub TooLarge : Type 0
TooLarge = IsRefused (large 8388608) (unfit.Size 3601)
