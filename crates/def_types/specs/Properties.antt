-- The malleability properties of every fragment and wrapper, by the table of BIP 379.
use Rattle.std.specs.Prelude.{◌≡◌, Bool, true, false, [], ◌∷◌, Ok}
use Rattle.def_tree.specs.Tree.{Tree, just_0, just_1, pk_k, pk_h, older, after, and_or, thresh, multi}
use Rattle.def_types.specs.Malleable.{malleability_of}
use Rattle.def_types.specs.Samples.{KEY_A, KEY_B, hash_value, pk, sha256, a, s, d, v, j, n, and_v, and_b, or_b, or_c, or_d, or_i, trees}

-- the tree has these of s, f and e
abbrev pub HasProperties : Tree → (s f e : Bool) → Type 0
HasProperties tree s f e = malleability_of tree ≡ Ok (record { s = s; f = f; e = e })

-- `0`, `1`, keys, locks and hashes
abbrev pub LeafProperties : Type 0
LeafProperties =
    HasProperties just_0 true false true ×
    HasProperties just_1 false true false ×
    HasProperties (pk_k KEY_A) true false true ×
    HasProperties (pk_h KEY_A) true false true ×
    HasProperties (multi 1 (KEY_A ∷ KEY_B ∷ [])) true false true ×
    HasProperties (older 1) false true false ×
    HasProperties (after 1) false true false ×
    HasProperties (sha256 (hash_value 0x11)) false false false

-- `andor`
abbrev pub AndOrProperties : Type 0
AndOrProperties =
    HasProperties (and_or (pk KEY_A) (older 1) (pk KEY_B)) true false true ×
    HasProperties (and_or (pk KEY_A) (pk KEY_B) (older 1)) false true false ×
    HasProperties (and_or (n (d (v (older 1)))) (pk KEY_A) (pk KEY_B)) true false false

-- `and_v` and `and_b`
abbrev pub AndProperties : Type 0
AndProperties =
    HasProperties (and_v (v (pk KEY_A)) (older 1)) true true false ×
    HasProperties (and_v (v (older 1)) (pk KEY_A)) true false false ×
    HasProperties (and_b (pk KEY_A) (s (pk KEY_B))) true false true ×
    HasProperties (and_b (pk KEY_A) (a (older 1))) true false false ×
    HasProperties (and_b (older 1) (a (older 2))) false true false ×
    HasProperties (and_b (and_v (v (pk KEY_A)) just_1) (a (sha256 (hash_value 0x11)))) true true false

-- `or_b`, `or_c`, `or_d` and `or_i`
abbrev pub OrProperties : Type 0
OrProperties =
    HasProperties (or_b (pk KEY_A) (s (pk KEY_B))) true false true ×
    HasProperties (or_b (pk KEY_A) (a (n (d (v (older 1)))))) false false true ×
    HasProperties (or_c (pk KEY_A) (v (pk KEY_B))) true true false ×
    HasProperties (or_c (pk KEY_A) (v (older 1))) false true false ×
    HasProperties (or_d (pk KEY_A) (pk KEY_B)) true false true ×
    HasProperties (or_d (pk KEY_A) (older 1)) false true false ×
    HasProperties (or_i (pk KEY_A) (pk KEY_B)) true false false ×
    HasProperties (or_i (pk KEY_A) (older 1)) false false true ×
    HasProperties (or_i (and_v (v (pk KEY_A)) just_1) (and_v (v (pk KEY_B)) just_1)) true true false

-- `thresh`, of which 0, 1 and 1 children aren't s
abbrev pub ThresholdProperties : Type 0
ThresholdProperties =
    HasProperties (thresh 1 (trees (pk KEY_A ∷ s (pk KEY_B) ∷ []))) true false true ×
    HasProperties (thresh 1 (trees (pk KEY_A ∷ a (n (d (v (older 1)))) ∷ []))) false false false ×
    HasProperties (thresh 2 (trees (pk KEY_A ∷ a (n (d (v (older 1)))) ∷ []))) true false false

-- the wrappers
abbrev pub WrapperProperties : Type 0
WrapperProperties =
    HasProperties (a (pk KEY_A)) true false true ×
    HasProperties (s (pk KEY_A)) true false true ×
    HasProperties (pk KEY_A) true false true ×
    HasProperties (d (v (pk KEY_A))) true false true ×
    HasProperties (d (v (older 1))) false false true ×
    HasProperties (v (pk KEY_A)) true true false ×
    HasProperties (v (sha256 (hash_value 0x11))) false true false ×
    HasProperties (j (pk KEY_A)) true false false ×
    HasProperties (j (and_v (v (pk KEY_A)) just_1)) true false true ×
    HasProperties (n (pk KEY_A)) true false true
