-- The first node that mixes timelocks, and the first that repeats a key. The nodes are counted by hand.
use Rattle.std.specs.Prelude.{◌≡◌, [], ◌∷◌, Some, None}
use Rattle.def_tree.specs.Tree.{just_1, older, after, and_or, thresh, multi}
use Rattle.def_types.specs.Samples.{KEY_A, KEY_B, KEY_C, pk, pkh, a, v, and_v, and_b, or_b, or_c, or_d, or_i, trees}
use Rattle.def_sane.specs.Locks.{mix}
use Rattle.def_sane.specs.Keys.{repeated_key}

-- each fragment that can mix, with its number: `and_v`, `and_b`, `andor` and `thresh` of 2, and what is united below one
abbrev pub MixedOnes : Type 0
MixedOnes =
    (mix (and_v (v (older 10)) (older 4194314)) ≡ Some 3) ×
    (mix (and_b (after 499999999) (a (after 500000000))) ≡ Some 3) ×
    (mix (and_or (older 10) (older 4194314) just_1) ≡ Some 3) ×
    (mix (thresh 2 (trees (older 10 ∷ a just_1 ∷ a (older 4194314) ∷ []))) ≡ Some 5) ×
    (mix (and_v (v (or_i (older 10) (after 1))) (older 4194314)) ≡ Some 5) ×
    (mix (and_v (v (and_v (v (after 1)) (after 500000000))) (and_v (v (older 10)) (older 4194314))) ≡ Some 3)

-- those that can't: `andor` by its Z, the four with `or`, `thresh` of 1; and locks of two sorts, or of one kind
abbrev pub UnmixedOnes : Type 0
UnmixedOnes =
    (mix (and_or (older 10) just_1 (older 4194314)) ≡ None) ×
    (mix (and_or just_1 (older 10) (older 4194314)) ≡ None) ×
    (mix (or_b (older 10) (a (older 4194314))) ≡ None) ×
    (mix (or_c (older 10) (v (older 4194314))) ≡ None) ×
    (mix (or_d (older 10) (older 4194314)) ≡ None) ×
    (mix (or_i (older 10) (older 4194314)) ≡ None) ×
    (mix (thresh 1 (trees (older 10 ∷ a (older 4194314) ∷ []))) ≡ None) ×
    (mix (v (or_i (older 10) (older 4194314))) ≡ None) ×
    (mix (and_v (v (older 10)) (after 500000000)) ≡ None) ×
    (mix (and_v (v (older 10)) (older 65535)) ≡ None)

-- a key in an earlier node, in whatever fragment, or earlier in the same one; in Y and in Z of `andor`; and none
abbrev pub RepeatedOnes : Type 0
RepeatedOnes =
    (repeated_key (and_v (v (pk KEY_A)) (pkh KEY_A)) ≡ Some 3) ×
    (repeated_key (or_d (pkh KEY_A) (multi 1 (KEY_B ∷ KEY_A ∷ []))) ≡ Some 2) ×
    (repeated_key (or_d (multi 1 (KEY_B ∷ KEY_A ∷ [])) (pk KEY_A)) ≡ Some 1) ×
    (repeated_key (multi 1 (KEY_A ∷ KEY_A ∷ [])) ≡ Some 0) ×
    (repeated_key (and_or (pk KEY_A) (pk KEY_A) (pk KEY_A)) ≡ Some 2) ×
    (repeated_key (and_or (pk KEY_A) (pk KEY_B) (pk KEY_B)) ≡ Some 4) ×
    (repeated_key (and_or (pk KEY_A) (pk KEY_B) (multi 1 (KEY_C ∷ []))) ≡ None)
