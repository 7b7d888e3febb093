-- The Script of every fragment and wrapper, by BIP 379's translation table.
use Rattle.std.specs.Prelude.{◌≡◌, [], ◌∷◌, ◌++◌, replicate, flat_map}
use Rattle.def_hash.specs.Hex.{from_hex}
use Rattle.def_hash.specs.declared.HashKind.TheVariants.{Sha256, Hash256, Ripemd160, Hash160}
use Rattle.def_script.specs.Bytes.{Bytes}
use Rattle.def_tree.specs.declared.Two.TheVariants as kind
use Rattle.def_tree.specs.declared.Wrapper.TheVariants as wrapper
use Rattle.def_tree.specs.Tree.{Tree, Key, just_0, just_1, pk_k, pk_h, older, after, hash, and_or, two, thresh, multi, wrap, none, more}
use Rattle.def_emit.specs.Emit.{script_of}

-- the public key of the private key 1, of which the HASH160 is published
abbrev pub KEY : Key
KEY = from_hex "0279be667ef9dcbbac55a06295ce870b07029bfcdb2dce28d959f2815b16f81798"

-- the push of a key
abbrev pub push_key : Key → Bytes
push_key key = 0x21 ∷ key

-- `v:x`
abbrev pub v : Tree → Tree
v x = wrap wrapper.V x

-- `0` and `1`
abbrev pub Numbers : Type 0
Numbers =
    (script_of just_0 ≡ from_hex "00") ×
    (script_of just_1 ≡ from_hex "51")

-- `pk_k(K)` and `pk_h(K)`
abbrev pub Keys : Type 0
Keys =
    (script_of (pk_k KEY) ≡ push_key KEY) ×
    (script_of (pk_h KEY) ≡ from_hex "76a914751e76e8199196d454941c45d1b3a323f1433bd688")

-- `older` of 16, 17, 128 and 65536, and `after` of 1 and 500000000: the shortest pushes of numbers
abbrev pub Locks : Type 0
Locks =
    (script_of (older 16) ≡ from_hex "60b2") ×
    (script_of (older 17) ≡ from_hex "0111b2") ×
    (script_of (older 128) ≡ from_hex "028000b2") ×
    (script_of (older 65536) ≡ from_hex "03000001b2") ×
    (script_of (after 1) ≡ from_hex "51b1") ×
    (script_of (after 500000000) ≡ from_hex "040065cd1db1")

-- each hash
abbrev pub Hashes : Type 0
Hashes =
    (script_of (hash Sha256 (replicate 32 7)) ≡ from_hex "82012088a820" ++ replicate 32 7 ++ from_hex "87") ×
    (script_of (hash Hash256 (replicate 32 7)) ≡ from_hex "82012088aa20" ++ replicate 32 7 ++ from_hex "87") ×
    (script_of (hash Ripemd160 (replicate 20 7)) ≡ from_hex "82012088a614" ++ replicate 20 7 ++ from_hex "87") ×
    (script_of (hash Hash160 (replicate 20 7)) ≡ from_hex "82012088a914" ++ replicate 20 7 ++ from_hex "87")

-- `andor(0,1,older(2))`, where Z stands before Y, and each fragment of `0` and `older(2)`
abbrev pub Branches : Type 0
Branches =
    (script_of (and_or just_0 just_1 (older 2)) ≡ from_hex "006452b2675168") ×
    (script_of (two kind.AndV just_0 (older 2)) ≡ from_hex "0052b2") ×
    (script_of (two kind.AndB just_0 (older 2)) ≡ from_hex "0052b29a") ×
    (script_of (two kind.OrB just_0 (older 2)) ≡ from_hex "0052b29b") ×
    (script_of (two kind.OrC just_0 (older 2)) ≡ from_hex "006452b268") ×
    (script_of (two kind.OrD just_0 (older 2)) ≡ from_hex "00736452b268") ×
    (script_of (two kind.OrI just_0 (older 2)) ≡ from_hex "63006752b268")

-- `thresh(1,0)`, `thresh(2,0,1,older(3))`, `multi(1,K,K)` and `multi(2,..)` of 17 keys
abbrev pub Lists : Type 0
Lists =
    (script_of (thresh 1 (more just_0 none)) ≡ from_hex "005187") ×
    (script_of (thresh 2 (more just_0 (more just_1 (more (older 3) none)))) ≡ from_hex "00519353b2935287") ×
    (script_of (multi 1 (KEY ∷ KEY ∷ [])) ≡ from_hex "51" ++ push_key KEY ++ push_key KEY ++ from_hex "52ae") ×
    (script_of (multi 2 (replicate 17 KEY)) ≡ from_hex "52" ++ flat_map push_key (replicate 17 KEY) ++ from_hex "0111ae")

-- each wrapper of `0`
abbrev pub Wrappers : Type 0
Wrappers =
    (script_of (wrap wrapper.A just_0) ≡ from_hex "6b006c") ×
    (script_of (wrap wrapper.S just_0) ≡ from_hex "7c00") ×
    (script_of (wrap wrapper.C just_0) ≡ from_hex "00ac") ×
    (script_of (wrap wrapper.D just_0) ≡ from_hex "76630068") ×
    (script_of (wrap wrapper.V just_0) ≡ from_hex "0069") ×
    (script_of (wrap wrapper.J just_0) ≡ from_hex "8292630068") ×
    (script_of (wrap wrapper.N just_0) ≡ from_hex "0092")

-- VERIFY behind CHECKSIG, EQUAL of a hash and of a `thresh`, CHECKMULTISIG, and the CHECKSIG at the end of an `and_v`
abbrev pub Fused : Type 0
Fused =
    (script_of (v (wrap wrapper.C (pk_k KEY))) ≡ push_key KEY ++ from_hex "ad") ×
    (script_of (v (hash Hash160 (replicate 20 7))) ≡ from_hex "82012088a914" ++ replicate 20 7 ++ from_hex "88") ×
    (script_of (v (thresh 1 (more just_0 none))) ≡ from_hex "005188") ×
    (script_of (v (multi 1 (KEY ∷ []))) ≡ from_hex "51" ++ push_key KEY ++ from_hex "51af") ×
    (script_of (v (two kind.AndV just_0 (wrap wrapper.C (pk_k KEY)))) ≡ from_hex "00" ++ push_key KEY ++ from_hex "ad")

-- VERIFY behind CSV, ENDIF, 0NOTEQUAL, BOOLAND, and a VERIFY form
abbrev pub NotFused : Type 0
NotFused =
    (script_of (v (older 2)) ≡ from_hex "52b269") ×
    (script_of (v (two kind.OrD just_0 just_1)) ≡ from_hex "007364516869") ×
    (script_of (v (wrap wrapper.N just_0)) ≡ from_hex "009269") ×
    (script_of (v (two kind.AndB just_0 just_1)) ≡ from_hex "00519a69") ×
    (script_of (v (v (wrap wrapper.C (pk_k KEY)))) ≡ push_key KEY ++ from_hex "ad69")
