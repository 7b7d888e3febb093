-- Miniscripts, assets and stacks for the examples.
use Rattle.std.specs.Prelude.{ℕ, List, [], ◌∷◌, replicate}
use Rattle.def_hash.specs.Hex.{from_hex}
use Rattle.def_script.specs.Bytes.{Bytes}
use Rattle.def_machine.specs.declared.Locks.{Locks}
use Rattle.def_machine.specs.Stacks.{Pairs}
use Rattle.def_machine.specs.Samples.{key_a, key_b, key_c, sig_a, sig_b, sig_c}
use Rattle.def_tree.specs.Tree.{Tree, just_1, older, after, thresh, multi}
use Rattle.def_types.specs.Samples.{pk, pkh, sha256, s, v, j, l, n, and_v, or_b, or_d, or_i, trees}
use Rattle.def_assets.specs.Assets.{Assets}

-- the pairs of the keys with their signatures
abbrev pub pair_a : Bytes × Bytes
pair_a = (key_a, sig_a)

abbrev pub pair_b : Bytes × Bytes
pair_b = (key_b, sig_b)

abbrev pub pair_c : Bytes × Bytes
pair_c = (key_c, sig_c)

-- the key A with the signature of 70 bytes: a shorter one than its other
abbrev pub pair_short_a : Bytes × Bytes
pair_short_a = (key_a, sig_c)

-- preimages, and their SHA-256
abbrev pub preimage_0 : Bytes
preimage_0 = replicate 32 0x00

abbrev pub preimage_1 : Bytes
preimage_1 = replicate 32 0x11

abbrev pub preimage_2 : Bytes
preimage_2 = replicate 32 0x22

abbrev pub preimage_3 : Bytes
preimage_3 = replicate 32 0x33

abbrev pub hash_0 : Bytes
hash_0 = from_hex "66687aadf862bd776c8fc18b8e9f8e20089714856ee233b3902a591d0d5f2925"

abbrev pub hash_1 : Bytes
hash_1 = from_hex "02d449a31fbb267c8f352e9968a79e3e5fc95c1bbeaa502fd6454ebde5a4bedc"

abbrev pub hash_2 : Bytes
hash_2 = from_hex "9f72ea0cf49536e3c66c787f705186df9a4378083753ae9536d65b3ad7fcddc4"

abbrev pub hash_3 : Bytes
hash_3 = from_hex "deb0e38ced1e41de6f92e70e80c418d2d356afaaa99e26f5939dbc7d3ef4772a"

-- version 2, no locktime, and a sequence number that leaves it be
abbrev pub no_locks : Locks
no_locks = record { version = 2; sequence = 0xfffffffe; locktime = 0 }

-- assets of these signatures, with a sequence number or a locktime, or with preimages
abbrev pub with_sequence : ℕ → Pairs → Assets
with_sequence sequence pairs = record { locks = record no_locks { sequence = sequence }; pairs = pairs; preimages = [] }

abbrev pub with_locktime : ℕ → Pairs → Assets
with_locktime locktime pairs = record { locks = record no_locks { locktime = locktime }; pairs = pairs; preimages = [] }

abbrev pub with_preimages : List Bytes → Pairs → Assets
with_preimages preimages pairs = record { locks = no_locks; pairs = pairs; preimages = preimages }

-- `multi(2,A,B,C)` with all three signatures
abbrev pub two_of_three : Tree
two_of_three = multi 2 (key_a ∷ key_b ∷ key_c ∷ [])

abbrev pub three_signatures : Assets
three_signatures = with_preimages [] (pair_c ∷ pair_b ∷ pair_a ∷ [])

-- `or_d(pk(A),and_v(v:pkh(B),older(144)))`
abbrev pub key_or_late_key : Tree
key_or_late_key = or_d (pk key_a) (and_v (v (pkh key_b)) (older 144))

-- `and_v(v:pk(A),older(65536))`: the operand is 0 under the mask
abbrev pub key_and_void_lock : Tree
key_and_void_lock = and_v (v (pk key_a)) (older 65536)

-- `and_v(v:pk(A),after(500000000))`
abbrev pub key_and_time : Tree
key_and_time = and_v (v (pk key_a)) (after 500000000)

-- `and_v(v:pk(A),after(499999999))`
abbrev pub key_and_height : Tree
key_and_height = and_v (v (pk key_a)) (after 499999999)

-- `and_v(v:sha256(h1),and_v(v:sha256(h2),x))`
abbrev pub after_two_hashes : Tree → Tree
after_two_hashes x = and_v (v (sha256 hash_1)) (and_v (v (sha256 hash_2)) x)

-- `thresh(2,j:and_v(v:sha256(h1),and_v(v:sha256(h2),and_v(v:sha256(h3),1))),s:pk(A),s:pk(B))`
abbrev pub hashes_or_keys : Tree
hashes_or_keys =
    thresh 2 (trees (j (after_two_hashes (and_v (v (sha256 hash_3)) just_1)) ∷ s (pk key_a) ∷ s (pk key_b) ∷ []))

-- `and_v(v:pk(B),or_i(pk(A),and_v(v:sha256(h1),and_v(v:sha256(h2),sha256(h3)))))`
abbrev pub key_and_key_or_hashes : Tree
key_and_key_or_hashes = and_v (v (pk key_b)) (or_i (pk key_a) (after_two_hashes (sha256 hash_3)))

abbrev pub keys_and_preimages : Assets
keys_and_preimages = with_preimages (preimage_1 ∷ preimage_2 ∷ preimage_3 ∷ []) (pair_a ∷ pair_b ∷ [])

-- `thresh(3,pk(A),s:pk(B),s:pk(C),sln:older(32))`
abbrev pub keys_or_lock : Tree
keys_or_lock = thresh 3 (trees (pk key_a ∷ s (pk key_b) ∷ s (pk key_c) ∷ s (l (n (older 32))) ∷ []))

-- `thresh(1,sha256(Z),s:pk(A))`, where 32 zero bytes hash to Z
abbrev pub zeros_or_key : Tree
zeros_or_key = thresh 1 (trees (sha256 hash_0 ∷ s (pk key_a) ∷ []))

-- `or_b(pk(A),s:pk(B))`
abbrev pub key_or_key : Tree
key_or_key = or_b (pk key_a) (s (pk key_b))
