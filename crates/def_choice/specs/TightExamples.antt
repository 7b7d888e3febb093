-- Satisfactions that need no signature, tight ones and others, and a table with more signatures than the assets. Stacks
-- stand bottom first.
use Rattle.std.specs.Prelude.{[], ◌∷◌}
use Rattle.def_machine.specs.Stacks.{Pairs, member}
use Rattle.def_machine.specs.Samples.{key_a, key_b, sig_a, sig_b}
use Rattle.def_tree.specs.Tree.{Tree, older, thresh}
use Rattle.def_types.specs.Samples.{pk, sha256, a, or_d, or_i, trees}
use Rattle.def_assets.specs.Assets.{Assets}
use Rattle.def_satisfaction.specs.Rows.{EMPTY, ONE, ZEROS}
use Rattle.def_satisfaction.specs.Satisfaction.{Sat, Holds}
use Rattle.def_satisfaction.specs.Samples.{pair_a, pair_b, preimage_1, hash_1, with_sequence, with_preimages}
use Rattle.def_choice.specs.Examples.{BothChoose}
use Rattle.def_choice.specs.NonMalleable.{IsAccepted, HasNewPair, Fresh, IsTableOfBytes, given_with}
use Rattle.def_choice.specs.Tight.{Unsigned, Tight}

-- the signature of A, with a preimage and without
abbrev pub with_preimage : Assets
with_preimage = with_preimages (preimage_1 ∷ []) (pair_a ∷ [])

abbrev pub without_preimage : Assets
without_preimage = with_preimages [] (pair_a ∷ [])

-- `or_i(pk(A),sha256(h1))`
abbrev pub key_or_hash : Tree
key_or_hash = or_i (pk key_a) (sha256 hash_1)

-- it needs no signature where the preimage is known, and otherwise it does
abbrev pub HashNeedsNone : Type 0
HashNeedsNone = Unsigned key_or_hash with_preimage × ¬ Unsigned key_or_hash without_preimage

-- neither does `or_d(pk(A),older(144))` after 144 blocks; but it does after 143
abbrev pub LockNeedsNone : Type 0
LockNeedsNone =
    Unsigned (or_d (pk key_a) (older 144)) (with_sequence 144 (pair_a ∷ [])) ×
    ¬ Unsigned (or_d (pk key_a) (older 144)) (with_sequence 143 (pair_a ∷ []))

-- where the preimage is known, the satisfaction by it is tight, and the one by the signature isn't; where it isn't, the
-- latter is
pub record TightBranches : Type 0 where
  pub preimage : Tight key_or_hash with_preimage (preimage_1 ∷ EMPTY ∷ [])
  pub canonical : Sat key_or_hash with_preimage (sig_a ∷ ONE ∷ [])
  pub signature : ¬ Tight key_or_hash with_preimage (sig_a ∷ ONE ∷ [])
  pub alone : Tight key_or_hash without_preimage (sig_a ∷ ONE ∷ [])

-- the same of the children of `thresh(1,pk(A),a:sha256(h1))`
abbrev pub one_of_two : Tree
one_of_two = thresh 1 (trees (pk key_a ∷ a (sha256 hash_1) ∷ []))

pub record TightChildren : Type 0 where
  pub preimage : Tight one_of_two with_preimage (preimage_1 ∷ EMPTY ∷ [])
  pub canonical : Sat one_of_two with_preimage (ZEROS ∷ sig_a ∷ [])
  pub signature : ¬ Tight one_of_two with_preimage (ZEROS ∷ sig_a ∷ [])
  pub alone : Tight one_of_two without_preimage (ZEROS ∷ sig_a ∷ [])

-- `or_d(pk(A),pk(B))` with A's signature alone, and a table that has B's too: under it another stack is accepted, by a
-- check that the chosen one's run doesn't pass, and it isn't fresh
abbrev pub either_key : Tree
either_key = or_d (pk key_a) (pk key_b)

abbrev pub larger : Pairs
larger = pair_a ∷ pair_b ∷ []

pub record OtherSigns : Type 0 where
  pub bytes : IsTableOfBytes larger
  pub holds : Holds (member larger) without_preimage
  pub chosen : BothChoose either_key without_preimage (sig_a ∷ [])
  pub accepted : IsAccepted either_key (given_with without_preimage (member larger)) (sig_a ∷ []) (pair_a ∷ [])
  pub other : IsAccepted either_key (given_with without_preimage (member larger)) (sig_b ∷ EMPTY ∷ []) (pair_b ∷ [])
  pub new : HasNewPair (pair_b ∷ []) (pair_a ∷ [])
  pub known : ¬ Fresh either_key without_preimage (member larger) (sig_b ∷ EMPTY ∷ [])
  pub not_held : ¬ Sat either_key without_preimage (sig_b ∷ EMPTY ∷ [])
