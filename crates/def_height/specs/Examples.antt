-- Heights of some miniscripts.
use Rattle.def_tree.specs.Tree.{Tree, just_0, older}
use Rattle.def_types.specs.Samples.{KEY_A, KEY_B, hash_value, pk, pkh, sha256, v, and_v, or_d, or_i}
use Rattle.def_sane.specs.Allowed.{keys_101, keys_201, largest}
use Rattle.def_limits.specs.Examples.{key_chain_of_three, two_of_three, hashes_or_keys, key_or_hashes, keys_and_lock, hash_or_key}
use Rattle.def_height.specs.Height.{IsHeight}

-- `pk(B)`: the signature and the key
abbrev pub KeyHeight : Type 0
KeyHeight = IsHeight (pk KEY_B) 2

-- `and_v(v:and_v(v:pk(A),pk(B)),pk(C))`: three signatures and the first key
abbrev pub ChainHeight : Type 0
ChainHeight = IsHeight key_chain_of_three 4

-- `multi(2,A,B,C)`: the dummy item, two signatures, two numbers and three keys
abbrev pub KeysHeight : Type 0
KeysHeight = IsHeight two_of_three 8

-- `or_d(pk(A),and_v(v:pkh(B),older(144)))`
abbrev pub key_or_key_hash : Tree
key_or_key_hash = or_d (pk KEY_A) (and_v (v (pkh KEY_B)) (older 144))

abbrev pub KeyHashHeight : Type 0
KeyHashHeight = IsHeight key_or_key_hash 4

-- `and_v(v:pk(A),older(65536))`
abbrev pub key_and_lock : Tree
key_and_lock = and_v (v (pk KEY_A)) (older 65536)

abbrev pub LockHeight : Type 0
LockHeight = IsHeight key_and_lock 2

-- `thresh(2,j:and_v(v:sha256(h1),and_v(v:sha256(h2),and_v(v:sha256(h3),1))),s:pk(A),s:pk(B))`
abbrev pub ThresholdHeight : Type 0
ThresholdHeight = IsHeight hashes_or_keys 7

-- `and_v(v:pk(B),or_i(pk(A),and_v(v:sha256(h1),and_v(v:sha256(h2),sha256(h3)))))`
abbrev pub EitherHeight : Type 0
EitherHeight = IsHeight key_or_hashes 6

-- `thresh(3,pk(A),s:pk(B),s:pk(C),sln:older(32))`
abbrev pub LockedThresholdHeight : Type 0
LockedThresholdHeight = IsHeight keys_and_lock 5

-- `thresh(1,sha256(h),s:pk(A))`
abbrev pub HashThresholdHeight : Type 0
HashThresholdHeight = IsHeight hash_or_key 4

-- `or_i(pk(A),and_v(v:sha256(h1),sha256(h2)))`: the hashes take one item more
abbrev pub key_or_two_hashes : Tree
key_or_two_hashes = or_i (pk KEY_A) (and_v (v (sha256 (hash_value 0x11))) (sha256 (hash_value 0x22)))

abbrev pub TwoHashesHeight : Type 0
TwoHashesHeight = IsHeight key_or_two_hashes 4

-- more items than policy allows, as many ops as there may be, and the largest Script that consensus allows
abbrev pub ManyKeysHeight : Type 0
ManyKeysHeight = IsHeight keys_101 102

abbrev pub MostOpsHeight : Type 0
MostOpsHeight = IsHeight keys_201 202

abbrev pub LargestHeight : Type 0
LargestHeight = IsHeight largest 27

-- `0`, which has no formal satisfaction
abbrev pub ZeroHeight : Type 0
ZeroHeight = IsHeight just_0 0
