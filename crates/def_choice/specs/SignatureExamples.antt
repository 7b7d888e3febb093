-- Choices where a key has several signatures: the shortest is taken, and of several shortest the first. Stacks stand
-- bottom first.
use Rattle.std.specs.Prelude.{[], ◌∷◌, replicate}
use Rattle.def_script.specs.Bytes.{Bytes}
use Rattle.def_machine.specs.Samples.{key_a, key_b, key_c, sig_a, sig_b, sig_c}
use Rattle.def_tree.specs.Tree.{Tree, thresh}
use Rattle.def_types.specs.Samples.{pk, pkh, s, trees}
use Rattle.def_assets.specs.Assets.{Assets}
use Rattle.def_satisfaction.specs.Rows.{EMPTY}
use Rattle.def_satisfaction.specs.Samples.{pair_a, pair_b, pair_c, pair_short_a, with_preimages, two_of_three}
use Rattle.def_choice.specs.Examples.{BothChoose}
use Rattle.def_choice.specs.TieExamples.{TakesFirst}

-- `pk(A)` and `pkh(A)`: the shorter of two, of 71 and 70 bytes, wherever it stands
abbrev pub ShorterOfTwo : Type 0
ShorterOfTwo =
    BothChoose (pk key_a) (with_preimages [] (pair_a ∷ pair_short_a ∷ [])) (sig_c ∷ [])
    × BothChoose (pk key_a) (with_preimages [] (pair_short_a ∷ pair_a ∷ [])) (sig_c ∷ [])
    × BothChoose (pkh key_a) (with_preimages [] (pair_a ∷ pair_short_a ∷ [])) (sig_c ∷ key_a ∷ [])

-- another signature of A with 71 bytes, and one with 73
abbrev pub other_sig_a : Bytes
other_sig_a = replicate 71 0xa1

abbrev pub pair_other_a : Bytes × Bytes
pair_other_a = (key_a, other_sig_a)

abbrev pub pair_long_a : Bytes × Bytes
pair_long_a = (key_a, replicate 73 0xa2)

-- `pk(A)`: the first of two equally short ones
abbrev pub FirstOfTwo : Type 0
FirstOfTwo =
    TakesFirst (pk key_a) (with_preimages [] (pair_a ∷ pair_other_a ∷ [])) (sig_a ∷ []) (other_sig_a ∷ [])
    × TakesFirst (pk key_a) (with_preimages [] (pair_other_a ∷ pair_a ∷ [])) (other_sig_a ∷ []) (sig_a ∷ [])

-- one signature of B and of C, and three of A: a long one, and two that are equally short
abbrev pub several_of_a : Assets
several_of_a = with_preimages [] (pair_long_a ∷ pair_b ∷ pair_a ∷ pair_other_a ∷ pair_c ∷ [])

-- `multi(2,A,B,C)`: with the long one of A alone those of B and C would be lighter
abbrev pub SeveralOfMulti : Type 0
SeveralOfMulti =
    TakesFirst two_of_three several_of_a (EMPTY ∷ sig_a ∷ sig_c ∷ []) (EMPTY ∷ other_sig_a ∷ sig_c ∷ [])
    × BothChoose two_of_three (with_preimages [] (pair_long_a ∷ pair_b ∷ pair_c ∷ [])) (EMPTY ∷ sig_b ∷ sig_c ∷ [])

-- `thresh(2,pk(A),s:pk(B),s:pk(C))`: the same
abbrev pub two_of_three_children : Tree
two_of_three_children = thresh 2 (trees (pk key_a ∷ s (pk key_b) ∷ s (pk key_c) ∷ []))

abbrev pub SeveralOfThreshold : Type 0
SeveralOfThreshold =
    TakesFirst two_of_three_children several_of_a
    (sig_c ∷ EMPTY ∷ sig_a ∷ []) (sig_c ∷ EMPTY ∷ other_sig_a ∷ [])
    × BothChoose two_of_three_children (with_preimages [] (pair_long_a ∷ pair_b ∷ pair_c ∷ []))
    (sig_c ∷ sig_b ∷ EMPTY ∷ [])
