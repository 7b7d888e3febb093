-- The ways of some miniscripts.
use Rattle.std.specs.Prelude.{◌≡◌, ℕ, List, [], ◌∷◌, ◌++◌, codes, replicate, Some, None}
use Rattle.hex.specs.Hex.{encode_lower}
use Rattle.def_script.specs.Bytes.{Bytes}
use Rattle.def_hash.specs.declared.HashKind.TheVariants.{Sha256, Hash160}
use Rattle.def_tree.specs.Tree.{Tree, Key, just_0, older, after, hash, and_or, multi}
use Rattle.def_types.specs.Samples.{pk, pkh, v, n, and_v, or_c, or_d, or_i}
use Rattle.def_ways.specs.declared.Delay.TheVariants.{Blocks, Units}
use Rattle.def_ways.specs.declared.Moment.TheVariants.{Height, Time}
use Rattle.def_ways.specs.Secret.{Secret, key, preimage}
use Rattle.def_ways.specs.Offer.{Offer}
use Rattle.def_ways.specs.Enough.{policy_of}
use Rattle.def_ways.specs.Tried.{with_locks, ways}
use Rattle.def_ways.specs.Bound.{settings}
use Rattle.def_ways.specs.StandIn.{Preimages, Weighs}
use Rattle.def_ways.specs.Print.{way_line}

abbrev pub a : Key
a = 0x02 ∷ replicate 32 0x01

abbrev pub b : Key
b = 0x03 ∷ replicate 32 0x02

abbrev pub c : Key
c = 0x02 ∷ replicate 32 0x03

abbrev pub d : Key
d = 0x03 ∷ replicate 32 0x04

abbrev pub hash_value : Bytes
hash_value = replicate 32 0xab

abbrev pub free : List Secret → Offer
free some = with_locks None None some

abbrev pub after_blocks : ℕ → List Secret → Offer
after_blocks n some = with_locks (Some (Blocks n)) None some

-- `or_d(pk(A),and_v(v:pkh(B),older(144)))`
abbrev pub key_or_later_key : Tree
key_or_later_key = or_d (pk a) (and_v (v (pkh b)) (older 144))

abbrev pub KeyOrLaterKey : Type 0
KeyOrLaterKey = ways key_or_later_key ≡ free (key a ∷ []) ∷ after_blocks 144 (key b ∷ []) ∷ []

-- `multi(2,A,B,C)`
abbrev pub TwoOfThree : Type 0
TwoOfThree =
    ways (multi 2 (a ∷ b ∷ c ∷ [])) ≡ free (key a ∷ key b ∷ []) ∷ free (key a ∷ key c ∷ []) ∷ free (key b ∷ key c ∷ []) ∷ []

-- `and_v(v:pk(A),and_v(v:older(10),or_d(pk(B),older(20))))`: of two locks that hold together the larger one counts, and at
-- the larger one the key isn't needed
abbrev pub LocksOfOneKind : Type 0
LocksOfOneKind =
    ways (and_v (v (pk a)) (and_v (v (older 10)) (or_d (pk b) (older 20)))) ≡
    after_blocks 10 (key a ∷ key b ∷ []) ∷ after_blocks 20 (key a ∷ []) ∷ []

-- `or_i(and_v(v:pk(A),older(65536)),and_v(v:pk(B),older(65541)))`: a lock of no blocks is a lock
abbrev pub LockOfNoBlocks : Type 0
LockOfNoBlocks =
    ways (or_i (and_v (v (pk a)) (older 65536)) (and_v (v (pk b)) (older 65541))) ≡
    after_blocks 0 (key a ∷ []) ∷ after_blocks 5 (key b ∷ []) ∷ []

-- `andor(pk(A),or_i(and_v(v:pk(B),older(144)),and_v(v:pk(C),older(4194305))),and_v(v:pk(D),older(1)))`: a unit of 512
-- seconds is less than a block, and 144 blocks are more than one
abbrev pub LocksOfBothUnits : Type 0
LocksOfBothUnits =
    ways (and_or (pk a) (or_i (and_v (v (pk b)) (older 144)) (and_v (v (pk c)) (older 4194305))) (and_v (v (pk d)) (older 1))) ≡
    with_locks (Some (Units 1)) None (key a ∷ key c ∷ []) ∷ after_blocks 1 (key d ∷ []) ∷ after_blocks 144 (key a ∷ key b ∷ []) ∷ []

-- `or_i(and_v(v:pk(A),and_v(v:older(4194306),after(500000000))),or_d(multi(2,B,C),and_v(v:pkh(D),after(800000))))`
abbrev pub RelativeAndAbsolute : Type 0
RelativeAndAbsolute =
    ways (or_i (and_v (v (pk a)) (and_v (v (older 4194306)) (after 500000000)))
    (or_d (multi 2 (b ∷ c ∷ [])) (and_v (v (pkh d)) (after 800000)))) ≡
    free (key b ∷ key c ∷ []) ∷ with_locks None (Some (Height 800000)) (key d ∷ [])
    ∷ with_locks (Some (Units 2)) (Some (Time 500000000)) (key a ∷ []) ∷ []

-- `and_v(or_c(pk(A),v:sha256(H)),andor(pk(B),sha256(H),and_v(v:pk(C),older(7))))`: the hash value stands twice, and is
-- revealed once
abbrev pub hash_value_twice : Tree
hash_value_twice =
    and_v (or_c (pk a) (v (hash Sha256 hash_value))) (and_or (pk b) (hash Sha256 hash_value) (and_v (v (pk c)) (older 7)))

abbrev pub HashValueTwice : Type 0
HashValueTwice =
    ways hash_value_twice ≡
    free (preimage Sha256 hash_value ∷ key b ∷ []) ∷ after_blocks 7 (preimage Sha256 hash_value ∷ key c ∷ [])
    ∷ after_blocks 7 (key a ∷ key c ∷ []) ∷ []

-- `or_i(and_v(v:sha256(H),0),or_i(pk(A),and_v(v:pk(B),sha256(H))))`: the hash value stands first in a part that is never true,
-- so its place is before those of both keys
abbrev pub hash_value_first : Tree
hash_value_first =
    or_i (and_v (v (hash Sha256 hash_value)) just_0) (or_i (pk a) (and_v (v (pk b)) (hash Sha256 hash_value)))

abbrev pub HashValueFirst : Type 0
HashValueFirst = ways hash_value_first ≡ free (preimage Sha256 hash_value ∷ key b ∷ []) ∷ free (key a ∷ []) ∷ []

-- `0` has none
abbrev pub NoWay : Type 0
NoWay = ways just_0 ≡ []

-- two relative locks and no absolute one, and a lock beside a hash value that stands twice
abbrev pub Settings : Type 0
Settings =
    (settings (policy_of (and_v (v (pk a)) (and_v (v (older 10)) (or_d (pk b) (older 20))))) ≡ 3) ×
    (settings (policy_of hash_value_twice) ≡ 6)

-- without a hash value a text is its own stand-in, whatever preimages are chosen
abbrev pub WeightOfKey : Type 0
WeightOfKey = (p : Preimages) → Weighs key_or_later_key p (free (key a ∷ [])) 73

abbrev pub WeightOfLaterKey : Type 0
WeightOfLaterKey = (p : Preimages) → Weighs key_or_later_key p (after_blocks 144 (key b ∷ [])) 108

-- the lines of both
abbrev pub text_of_key_or_later_key : Bytes
text_of_key_or_later_key =
    codes "or_d(pk(" ++ encode_lower a ++ codes "),and_v(v:pkh(" ++ encode_lower b ++ codes "),older(144)))"

abbrev pub LineOfKey : Type 0
LineOfKey =
    way_line text_of_key_or_later_key (free (key a ∷ [])) 73 ≡ codes "way weight 73 version 1 sequence 0 locktime 0 key 8"

abbrev pub LineOfLaterKey : Type 0
LineOfLaterKey =
    way_line text_of_key_or_later_key (after_blocks 144 (key b ∷ [])) 108 ≡
    codes "way weight 108 version 2 sequence 144 locktime 0 blocks 144 key 88"

-- keys stand before hash values, also where the text has them the other way round: `and_v(v:hash160(H),pk(A))`
abbrev pub short_hash_value : Bytes
short_hash_value = replicate 20 0xcd

abbrev pub LineOfHash : Type 0
LineOfHash =
    way_line (codes "and_v(v:hash160(" ++ encode_lower short_hash_value ++ codes "),pk(" ++ encode_lower a ++ codes "))")
    (free (preimage Hash160 short_hash_value ∷ key a ∷ [])) 106 ≡
    codes "way weight 106 version 1 sequence 0 locktime 0 key 61 hash 16"
