-- Both types of some expressions.
use Rattle.std.specs.Prelude.{◌≡◌, Bool, true, false, Ok}
use Rattle.def_tree.specs.Tree.{Tree, just_0, just_1, older}
use Rattle.def_types.specs.declared.Base.{Base}
use Rattle.def_types.specs.declared.Base.TheVariants.{B}
use Rattle.def_types.specs.Correctness.{correctness_of}
use Rattle.def_types.specs.Malleable.{malleability_of}
use Rattle.def_types.specs.Samples.{KEY_A, KEY_B, KEY_C, pk, s, d, v, and_v, or_i}

-- the tree has this base type, these of the properties z, o, n, d and u, and these of s, f and e
abbrev pub HasType : Tree → Base → (z o n d u s f e : Bool) → Type 0
HasType tree base z o n d u s f e =
    (correctness_of tree ≡ Ok (record { base = base; z = z; o = o; n = n; d = d; u = u })) ×
    (malleability_of tree ≡ Ok (record { s = s; f = f; e = e }))

-- `pk(B)` is Bonduse
abbrev pub KeyType : Type 0
KeyType = HasType (pk KEY_B) B false true true true true true false true

-- `and_v(v:and_v(v:pk(A),pk(B)),pk(C))` is Bnusf
abbrev pub ChainType : Type 0
ChainType =
    HasType (and_v (v (and_v (v (pk KEY_A)) (pk KEY_B))) (pk KEY_C))
    B false false true false true true true false

-- `0` is Bzduse
abbrev pub ZeroType : Type 0
ZeroType = HasType just_0 B true false false true true true false true

-- `1` is Bzuf
abbrev pub OneType : Type 0
OneType = HasType just_1 B true false false false true false true false

-- `and_v(v:pk(A),or_i(and_v(v:pk(B),older(10)),older(4194314)))` is Bnsf
abbrev pub LocksType : Type 0
LocksType =
    HasType (and_v (v (pk KEY_A)) (or_i (and_v (v (pk KEY_B)) (older 10)) (older 4194314)))
    B false false true false false true true false
