-- Examples of nesting, and of Scripts that several miniscripts have.
use Rattle.std.specs.Prelude.{◌≡◌, [], ◌∷◌, Some, None}
use Rattle.def_hash.specs.Hex.{from_hex}
use Rattle.def_tree.specs.declared.Wrapper.TheVariants as wrapper
use Rattle.def_tree.specs.Tree.{Tree, just_1, pk_k, older, thresh, wrap}
use Rattle.def_types.specs.Samples.{KEY_A, KEY_B, KEY_C, pk, a, s, n, v, and_v, and_b, or_d, or_i, trees}
use Rattle.def_types.specs.Typed.{type_of}
use Rattle.def_emit.specs.Emit.{script_of}
use Rattle.def_decode.specs.Nested.{RightNested}
use Rattle.def_decode.specs.Decoded.{first_with}

-- `c:x`
abbrev pub c : Tree → Tree
c x = wrap wrapper.C x

-- `and_v(v:pk(A),x)`
abbrev pub behind_a : Tree → Tree
behind_a x = and_v (v (pk KEY_A)) x

-- `and_v(v:pk(A),and_v(v:pk(B),pk(C)))`, and `and_v` as the second child of an `or_d`, in an `or_i` and under `a`
abbrev pub NestedOnes : Type 0
NestedOnes =
    RightNested (behind_a (and_v (v (pk KEY_B)) (pk KEY_C))) ×
    RightNested (or_d (pk KEY_B) (behind_a (older 144))) ×
    RightNested (or_i (behind_a just_1) (pk KEY_B)) ×
    RightNested (thresh 1 (trees (pk KEY_B ∷ a (behind_a just_1) ∷ [])))

-- `c`, `n` and `v` on an `and_v`, and `and_v` as the first child of an `and_b` and an `and_v`
abbrev pub OtherOnes : Type 0
OtherOnes =
    (RightNested (c (behind_a (pk_k KEY_B))) → ⊥) ×
    (RightNested (n (behind_a just_1)) → ⊥) ×
    (RightNested (v (behind_a just_1)) → ⊥) ×
    (RightNested (and_b (behind_a just_1) (s (pk KEY_B))) → ⊥) ×
    (RightNested (and_v (v (behind_a (pk KEY_B))) (pk KEY_C)) → ⊥)

-- the `and_v` moved outwards
abbrev pub MovedScripts : Type 0
MovedScripts =
    (script_of (c (behind_a (pk_k KEY_B))) ≡ script_of (behind_a (pk KEY_B))) ×
    (script_of (n (behind_a just_1)) ≡ script_of (behind_a (n just_1))) ×
    (script_of (v (behind_a (pk KEY_B))) ≡ script_of (behind_a (v (pk KEY_B)))) ×
    (script_of (and_b (behind_a just_1) (s (pk KEY_B))) ≡ script_of (behind_a (and_b just_1 (s (pk KEY_B))))) ×
    (script_of (and_v (v (behind_a (pk KEY_B))) (pk KEY_C)) ≡ script_of (behind_a (and_v (v (pk KEY_B)) (pk KEY_C))))

abbrev pub MovedTypes : Type 0
MovedTypes =
    (type_of (c (behind_a (pk_k KEY_B))) ≡ type_of (behind_a (pk KEY_B))) ×
    (type_of (n (behind_a just_1)) ≡ type_of (behind_a (n just_1))) ×
    (type_of (v (behind_a (pk KEY_B))) ≡ type_of (behind_a (v (pk KEY_B)))) ×
    (type_of (and_b (behind_a just_1) (s (pk KEY_B))) ≡ type_of (behind_a (and_b just_1 (s (pk KEY_B))))) ×
    (type_of (and_v (v (behind_a (pk KEY_B))) (pk KEY_C)) ≡ type_of (behind_a (and_v (v (pk KEY_B)) (pk KEY_C))))

-- a key by its published HASH160, behind another key, and without it
abbrev pub FirstOfTwo : Type 0
FirstOfTwo = first_with (KEY_A ∷ KEY_B ∷ []) (from_hex "751e76e8199196d454941c45d1b3a323f1433bd6") ≡ Some KEY_B

abbrev pub NotListed : Type 0
NotListed = first_with (KEY_A ∷ []) (from_hex "751e76e8199196d454941c45d1b3a323f1433bd6") ≡ None
