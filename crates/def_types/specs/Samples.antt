-- Trees by their text, for examples, and some keys.
use Rattle.std.specs.Prelude.{ℕ, List, [], ◌∷◌, replicate}
use Rattle.def_hash.specs.declared.HashKind.TheVariants.{Sha256}
use Rattle.def_tree.specs.declared.Two.TheVariants as two_kind
use Rattle.def_tree.specs.declared.Wrapper.TheVariants as wrapper
use Rattle.def_tree.specs.Tree.{Tree, Trees, Key, just_0, pk_k, pk_h, hash, two, wrap, none, more}

abbrev pub KEY_A : Key
KEY_A = 0x02 ∷ replicate 32 0x01

-- the public key of the private key 1
abbrev pub KEY_B : Key
KEY_B =
    0x02 ∷
    0x79 ∷ 0xbe ∷ 0x66 ∷ 0x7e ∷ 0xf9 ∷ 0xdc ∷ 0xbb ∷ 0xac ∷
    0x55 ∷ 0xa0 ∷ 0x62 ∷ 0x95 ∷ 0xce ∷ 0x87 ∷ 0x0b ∷ 0x07 ∷
    0x02 ∷ 0x9b ∷ 0xfc ∷ 0xdb ∷ 0x2d ∷ 0xce ∷ 0x28 ∷ 0xd9 ∷
    0x59 ∷ 0xf2 ∷ 0x81 ∷ 0x5b ∷ 0x16 ∷ 0xf8 ∷ 0x17 ∷ 0x98 ∷ []

abbrev pub KEY_C : Key
KEY_C = 0x03 ∷ replicate 32 0x03

-- a hash value of 32 bytes b
abbrev pub hash_value : (b : ℕ) → List ℕ
hash_value b = replicate 32 b

-- `pk(key)`, `pkh(key)`, `sha256(value)`
abbrev pub pk : Key → Tree
pk key = wrap wrapper.C (pk_k key)

abbrev pub pkh : Key → Tree
pkh key = wrap wrapper.C (pk_h key)

abbrev pub sha256 : List ℕ → Tree
sha256 value = hash Sha256 value

-- `a:x` and so on
abbrev pub a : Tree → Tree
a x = wrap wrapper.A x

abbrev pub s : Tree → Tree
s x = wrap wrapper.S x

abbrev pub d : Tree → Tree
d x = wrap wrapper.D x

abbrev pub v : Tree → Tree
v x = wrap wrapper.V x

abbrev pub j : Tree → Tree
j x = wrap wrapper.J x

abbrev pub n : Tree → Tree
n x = wrap wrapper.N x

-- `l:x` is `or_i(0,x)`
abbrev pub l : Tree → Tree
l x = two two_kind.OrI just_0 x

abbrev pub and_v : Tree → Tree → Tree
and_v x y = two two_kind.AndV x y

abbrev pub and_b : Tree → Tree → Tree
and_b x y = two two_kind.AndB x y

abbrev pub or_b : Tree → Tree → Tree
or_b x z = two two_kind.OrB x z

abbrev pub or_c : Tree → Tree → Tree
or_c x z = two two_kind.OrC x z

abbrev pub or_d : Tree → Tree → Tree
or_d x z = two two_kind.OrD x z

abbrev pub or_i : Tree → Tree → Tree
or_i x z = two two_kind.OrI x z

-- the children of a `thresh`
abbrev pub trees : List Tree → Trees
trees [] = none
trees (x ∷ xs) = more x (trees xs)
