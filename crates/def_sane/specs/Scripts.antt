-- Scripts of some miniscripts, by BIP 379's translation table.
use Rattle.std.specs.Prelude.{◌≡◌, ℕ, ◌∷◌, ◌++◌}
use Rattle.def_hash.specs.Hex.{from_hex}
use Rattle.def_script.specs.Bytes.{Bytes}
use Rattle.def_tree.specs.Tree.{Key, just_0, just_1, older, after}
use Rattle.def_types.specs.Samples.{KEY_A, KEY_B, KEY_C, hash_value, pk, pkh, and_v, or_b, or_d, s, v}
use Rattle.def_emit.specs.Emit.{script_of}
use Rattle.def_limits.specs.Examples.{key_chain_of_three, two_of_three, hashes_or_keys, keys_and_lock}

-- the push of a key
abbrev pub push_key : Key → Bytes
push_key key = 0x21 ∷ key

-- the Script of `v:sha256(h)` where h is 32 bytes b
abbrev pub verified_hash : (b : ℕ) → Bytes
verified_hash b = from_hex "82012088a820" ++ hash_value b ++ from_hex "88"

-- `0` and `1`
abbrev pub NumberScripts : Type 0
NumberScripts = (script_of just_0 ≡ from_hex "00") × (script_of just_1 ≡ from_hex "51")

-- `pk(B)`
abbrev pub KeyScript : Type 0
KeyScript = script_of (pk KEY_B) ≡ push_key KEY_B ++ from_hex "ac"

-- `and_v(v:and_v(v:pk(A),pk(B)),pk(C))`
abbrev pub ChainScript : Type 0
ChainScript = script_of key_chain_of_three ≡ push_key KEY_A ++ from_hex "ad" ++ push_key KEY_B ++ from_hex "ad" ++ push_key KEY_C ++ from_hex "ac"

-- `multi(2,A,B,C)`
abbrev pub KeysScript : Type 0
KeysScript = script_of two_of_three ≡ from_hex "52" ++ push_key KEY_A ++ push_key KEY_B ++ push_key KEY_C ++ from_hex "53ae"

-- `or_d(pk(A),and_v(v:pkh(B),older(144)))`
abbrev pub KeyHashScript : Type 0
KeyHashScript = script_of (or_d (pk KEY_A) (and_v (v (pkh KEY_B)) (older 144)))
    ≡ push_key KEY_A ++ from_hex "ac736476a914751e76e8199196d454941c45d1b3a323f1433bd688ad029000b268"

-- `and_v(v:pk(A),older(65536))` and `and_v(v:pk(A),after(500000000))`
abbrev pub LockScripts : Type 0
LockScripts =
    (script_of (and_v (v (pk KEY_A)) (older 65536)) ≡ push_key KEY_A ++ from_hex "ad03000001b2")
    × (script_of (and_v (v (pk KEY_A)) (after 500000000)) ≡ push_key KEY_A ++ from_hex "ad040065cd1db1")

-- `or_b(pk(A),s:pk(B))`
abbrev pub EitherKeyScript : Type 0
EitherKeyScript = script_of (or_b (pk KEY_A) (s (pk KEY_B))) ≡ push_key KEY_A ++ from_hex "ac7c" ++ push_key KEY_B ++ from_hex "ac9b"

-- `thresh(2,j:and_v(v:sha256(h1),and_v(v:sha256(h2),and_v(v:sha256(h3),1))),s:pk(A),s:pk(B))`
abbrev pub ThresholdScript : Type 0
ThresholdScript = script_of hashes_or_keys
    ≡ from_hex "829263" ++ verified_hash 0x11 ++ verified_hash 0x22 ++ verified_hash 0x33 ++ from_hex "51687c" ++ push_key KEY_A ++ from_hex "ac937c" ++ push_key KEY_B ++ from_hex "ac935287"

-- `thresh(3,pk(A),s:pk(B),s:pk(C),sln:older(32))`
abbrev pub LockedThresholdScript : Type 0
LockedThresholdScript = script_of keys_and_lock
    ≡ push_key KEY_A ++ from_hex "ac7c" ++ push_key KEY_B ++ from_hex "ac937c" ++ push_key KEY_C ++ from_hex "ac937c6300670120b29268935387"
