-- Choices among satisfactions of equal weight: the option that stands first in the satisfaction table is taken, and of
-- sets the one whose sorted list comes first. Stacks stand bottom first.
use Rattle.std.specs.Prelude.{◌≡◌, List, [], ◌∷◌, reverse, replicate, Some}
use Rattle.std.specs.Option.{option_map}
use Rattle.def_script.specs.Bytes.{Bytes}
use Rattle.def_machine.specs.Samples.{key_a, key_b, key_c, sig_a, sig_b, sig_c}
use Rattle.def_tree.specs.Tree.{Tree, just_1, older, and_or, thresh, multi}
use Rattle.def_types.specs.Samples.{pk, s, v, and_v, and_b, or_c, or_d, or_i, trees}
use Rattle.def_assets.specs.Assets.{Assets}
use Rattle.def_script.specs.Witness.{weight}
use Rattle.def_satisfaction.specs.Rows.{EMPTY, ONE}
use Rattle.def_satisfaction.specs.Satisfaction.{Sat, Dsat}
use Rattle.def_satisfaction.specs.Samples.{pair_a, pair_b, pair_c, with_sequence, with_preimages, two_of_three, key_or_key}
use Rattle.def_satisfaction.specs.Examples.{Satisfies}
use Rattle.def_choice.specs.Dissatisfaction.{dissatisfaction}
use Rattle.def_choice.specs.Examples.{BothChoose}

-- both stacks are canonical satisfactions of one weight, and both choices are the first
pub record TakesFirst (tree : Tree) (assets : Assets) (first second : List Bytes) : Type 0 where
  pub first_satisfies : Sat tree assets first
  pub second_satisfies : Sat tree assets second
  pub tie : weight first ≡ weight second
  pub chosen : BothChoose tree assets first

-- the signatures of A, B and C have 71, 72 and 70 bytes; this one of B's has 71 too
abbrev pub short_sig_b : Bytes
short_sig_b = replicate 71 0xbb

abbrev pub pair_short_b : Bytes × Bytes
pair_short_b = (key_b, short_sig_b)

-- `andor(pk(A),older(144),pk(C))`
abbrev pub TieOfAndOr : Type 0
TieOfAndOr = TakesFirst (and_or (pk key_a) (older 144) (pk key_c)) (with_sequence 144 (pair_a ∷ pair_c ∷ [])) (sig_a ∷ []) (sig_c ∷ EMPTY ∷ [])

-- `or_b(pk(A),s:pk(B))`
abbrev pub TieOfOrB : Type 0
TieOfOrB = TakesFirst key_or_key (with_preimages [] (pair_a ∷ pair_short_b ∷ [])) (EMPTY ∷ sig_a ∷ []) (short_sig_b ∷ EMPTY ∷ [])

-- `and_v(or_c(pk(A),v:pk(C)),1)`
abbrev pub TieOfOrC : Type 0
TieOfOrC =
    TakesFirst (and_v (or_c (pk key_a) (v (pk key_c))) just_1) (with_preimages [] (pair_a ∷ pair_c ∷ []))
    (sig_a ∷ []) (sig_c ∷ EMPTY ∷ [])

-- `or_d(pk(A),pk(C))`
abbrev pub TieOfOrD : Type 0
TieOfOrD = TakesFirst (or_d (pk key_a) (pk key_c)) (with_preimages [] (pair_a ∷ pair_c ∷ [])) (sig_a ∷ []) (sig_c ∷ EMPTY ∷ [])

-- `or_i(pk(A),pk(B))`
abbrev pub TieOfOrI : Type 0
TieOfOrI = TakesFirst (or_i (pk key_a) (pk key_b)) (with_preimages [] (pair_a ∷ pair_b ∷ [])) (sig_a ∷ ONE ∷ []) (sig_b ∷ EMPTY ∷ [])

-- `thresh(2,pk(A),s:pk(B),s:pk(C))`: the first and the third key, or the second and the third
abbrev pub TieOfThreshold : Type 0
TieOfThreshold =
    TakesFirst (thresh 2 (trees (pk key_a ∷ s (pk key_b) ∷ s (pk key_c) ∷ [])))
    (with_preimages [] (pair_a ∷ pair_short_b ∷ pair_c ∷ []))
    (sig_c ∷ EMPTY ∷ sig_a ∷ []) (sig_c ∷ short_sig_b ∷ EMPTY ∷ [])

-- `multi(2,A,B,C)`: the same
abbrev pub TieOfMulti : Type 0
TieOfMulti =
    TakesFirst two_of_three (with_preimages [] (pair_a ∷ pair_short_b ∷ pair_c ∷ []))
    (EMPTY ∷ sig_a ∷ sig_c ∷ []) (EMPTY ∷ short_sig_b ∷ sig_c ∷ [])

-- `or_i(pk(A),and_b(pk(B),s:pk(C)))` is dissatisfied by its first part, which pushes 1, rather than by its second, which
-- has an item more and pushes 0
abbrev pub key_or_keys : Tree
key_or_keys = or_i (pk key_a) (and_b (pk key_b) (s (pk key_c)))

pub record TieOfDissatisfactions (assets : Assets) : Type 0 where
  pub first : Dsat key_or_keys assets (EMPTY ∷ ONE ∷ [])
  pub second : Dsat key_or_keys assets (EMPTY ∷ EMPTY ∷ EMPTY ∷ [])
  pub tie : weight (EMPTY ∷ ONE ∷ []) ≡ weight (EMPTY ∷ EMPTY ∷ EMPTY ∷ [])
  pub chosen : option_map reverse (dissatisfaction key_or_keys) ≡ Some (EMPTY ∷ ONE ∷ [])

-- `multi(2,A,B,A)`: the key A signs twice with one signature, which is lighter than B's
abbrev pub key_twice : Tree
key_twice = multi 2 (key_a ∷ key_b ∷ key_a ∷ [])

pub record KeySignsTwice : Type 0 where
  pub chosen : BothChoose key_twice (with_preimages [] (pair_a ∷ pair_b ∷ [])) (EMPTY ∷ sig_a ∷ sig_a ∷ [])
  pub satisfies : Satisfies key_twice (with_preimages [] (pair_a ∷ pair_b ∷ [])) (EMPTY ∷ sig_a ∷ sig_a ∷ []) 145 4 8
