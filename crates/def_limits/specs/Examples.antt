-- Limits of some miniscripts.
use Rattle.std.specs.Prelude.{ℕ, [], ◌∷◌}
use Rattle.def_tree.specs.Tree.{Tree, just_0, just_1, older, thresh, multi}
use Rattle.def_types.specs.Samples.{KEY_A, KEY_B, KEY_C, hash_value, pk, pkh, sha256, a, s, v, j, l, n, and_v, or_d, or_i, trees}
use Rattle.def_limits.specs.Limits.{AreLimits}

-- the tree has these limits
abbrev pub HasLimits : Tree → (size ops items weight : ℕ) → Type 0
HasLimits tree size ops items weight =
    AreLimits tree (record { size = size; ops = ops; items = items; weight = weight })

-- `pk(B)`
abbrev pub KeyLimits : Type 0
KeyLimits = HasLimits (pk KEY_B) 35 1 1 74

-- `and_v(v:and_v(v:pk(A),pk(B)),pk(C))`
abbrev pub key_chain_of_three : Tree
key_chain_of_three = and_v (v (and_v (v (pk KEY_A)) (pk KEY_B))) (pk KEY_C)

abbrev pub ChainLimits : Type 0
ChainLimits = HasLimits key_chain_of_three 105 3 3 222

-- `multi(2,A,B,C)`
abbrev pub two_of_three : Tree
two_of_three = multi 2 (KEY_A ∷ KEY_B ∷ KEY_C ∷ [])

abbrev pub KeysLimits : Type 0
KeysLimits = HasLimits two_of_three 105 4 3 149

-- `or_d(pk(A),and_v(v:pkh(B),older(144)))`
abbrev pub KeyHashLimits : Type 0
KeyHashLimits = HasLimits (or_d (pk KEY_A) (and_v (v (pkh KEY_B)) (older 144))) 67 9 3 109

-- `and_v(v:pk(A),older(65536))`
abbrev pub LockLimits : Type 0
LockLimits = HasLimits (and_v (v (pk KEY_A)) (older 65536)) 40 2 1 74

-- `and_v(v:sha256(h1),and_v(v:sha256(h2),x))`
abbrev pub hashes : Tree → Tree
hashes x = and_v (v (sha256 (hash_value 0x11))) (and_v (v (sha256 (hash_value 0x22))) x)

-- `thresh(2,j:and_v(v:sha256(h1),and_v(v:sha256(h2),and_v(v:sha256(h3),1))),s:pk(A),s:pk(B))`
abbrev pub hashes_or_keys : Tree
hashes_or_keys = thresh 2 (trees (j (hashes (and_v (v (sha256 (hash_value 0x33))) just_1)) ∷ s (pk KEY_A) ∷ s (pk KEY_B) ∷ []))

abbrev pub ThresholdLimits : Type 0
ThresholdLimits = HasLimits hashes_or_keys 198 23 5 174

-- `and_v(v:pk(B),or_i(pk(A),and_v(v:sha256(h1),and_v(v:sha256(h2),sha256(h3)))))`
abbrev pub key_or_hashes : Tree
key_or_hashes = and_v (v (pk KEY_B)) (or_i (pk KEY_A) (hashes (sha256 (hash_value 0x33))))

abbrev pub EitherLimits : Type 0
EitherLimits = HasLimits key_or_hashes 190 17 5 174

-- `thresh(3,pk(A),s:pk(B),s:pk(C),sln:older(32))`
abbrev pub keys_and_lock : Tree
keys_and_lock = thresh 3 (trees (pk KEY_A ∷ s (pk KEY_B) ∷ s (pk KEY_C) ∷ s (l (n (older 32))) ∷ []))

abbrev pub LockedThresholdLimits : Type 0
LockedThresholdLimits = HasLimits keys_and_lock 121 15 4 224

-- `thresh(1,sha256(h),s:pk(A))`
abbrev pub hash_or_key : Tree
hash_or_key = thresh 1 (trees (sha256 (hash_value 0x11) ∷ s (pk KEY_A) ∷ []))

abbrev pub HashThresholdLimits : Type 0
HashThresholdLimits = HasLimits hash_or_key 78 8 2 107

-- `thresh(2,pk(A),s:pk(B),s:pk(C),aj:and_v(v:sha256(h),1))`
abbrev pub FourChildrenLimits : Type 0
FourChildrenLimits =
    HasLimits (thresh 2 (trees (pk KEY_A ∷ s (pk KEY_B) ∷ s (pk KEY_C) ∷ a (j (and_v (v (sha256 (hash_value 0x11))) just_1)) ∷ []))) 158 19 4 150

-- `or_i(pk(A),and_v(v:sha256(h1),sha256(h2)))`: the key weighs more, and the hashes are more items
abbrev pub EachByItself : Type 0
EachByItself =
    HasLimits (or_i (pk KEY_A) (and_v (v (sha256 (hash_value 0x11))) (sha256 (hash_value 0x22)))) 116 12 3 76

-- `0`, which has no formal satisfaction
abbrev pub ZeroLimits : Type 0
ZeroLimits = HasLimits just_0 1 0 0 0
