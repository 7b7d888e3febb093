-- Canonical satisfactions of some miniscripts, bottom first, with their weights and their runs.
use Rattle.std.specs.Prelude.{◌≡◌, ℕ, List, [], ◌∷◌, ◌++◌}
use Rattle.def_script.specs.Bytes.{Bytes}
use Rattle.def_script.specs.Witness.{witness_text, weight}
use Rattle.def_machine.specs.Stacks.{Pairs}
use Rattle.def_machine.specs.Samples.{key_a, key_b, sig_a, sig_b, sig_c}
use Rattle.def_machine.specs.Run.{run, accepted}
use Rattle.def_tree.specs.Tree.{Tree}
use Rattle.def_emit.specs.Emit.{script_of}
use Rattle.def_types.specs.Samples.{pk}
use Rattle.def_assets.specs.Assets.{Assets, AreAssets}
use Rattle.def_satisfaction.specs.Setting.{any}
use Rattle.def_satisfaction.specs.Rows.{EMPTY, ONE}
use Rattle.def_satisfaction.specs.Satisfaction.{given_of, Sat, FullSat}
use Rattle.def_satisfaction.specs.Samples.{pair_a, pair_b, pair_c, pair_short_a, preimage_0, preimage_1, preimage_2, preimage_3, with_sequence, with_locktime, with_preimages, two_of_three, three_signatures, key_or_late_key, key_and_void_lock, key_and_time, hashes_or_keys, key_and_key_or_hashes, keys_and_preimages, keys_or_lock, zeros_or_key, key_or_key}

-- the stack is a canonical satisfaction of this weight, and its run takes so many opcodes and elements
pub record Satisfies (tree : Tree) (assets : Assets) (stack : List Bytes) (total ops peak : ℕ) : Type 0 where
  pub sat : Sat tree assets stack
  pub weight : weight stack ≡ total
  pub checks : Pairs
  pub run : run (given_of assets) (script_of tree) stack ≡ accepted ops peak checks

-- two signatures of three
abbrev pub signatures_of_a_and_c : List Bytes
signatures_of_a_and_c = EMPTY ∷ sig_a ∷ sig_c ∷ []

abbrev pub TwoOfThree : Type 0
TwoOfThree = Satisfies two_of_three three_signatures signatures_of_a_and_c 144 4 8

-- its witness: four items, of 0, 71, 70 and 105 bytes
abbrev pub TwoOfThreeWitness : Type 0
TwoOfThreeWitness =
    witness_text signatures_of_a_and_c (script_of two_of_three) ≡
    (0x04 ∷ 0x00 ∷ []) ++ (0x47 ∷ sig_a) ++ (0x46 ∷ sig_c) ++ (0x69 ∷ script_of two_of_three)

-- the other key, after 144 blocks
abbrev pub LateKey : Type 0
LateKey = Satisfies key_or_late_key (with_sequence 144 (pair_b ∷ [])) (sig_b ∷ key_b ∷ EMPTY ∷ []) 108 9 4

-- a lock of no blocks
abbrev pub VoidLock : Type 0
VoidLock = Satisfies key_and_void_lock (with_sequence 0 (pair_a ∷ [])) (sig_a ∷ []) 72 2 2

-- a lock by time
abbrev pub TimeLock : Type 0
TimeLock = Satisfies key_and_time (with_locktime 500000000 (pair_a ∷ [])) (sig_a ∷ []) 72 2 2

-- a threshold by three preimages and a signature, and by two signatures
abbrev pub ByPreimages : Type 0
ByPreimages =
    Satisfies hashes_or_keys keys_and_preimages (EMPTY ∷ sig_a ∷ preimage_3 ∷ preimage_2 ∷ preimage_1 ∷ []) 172 23 7

abbrev pub BySignatures : Type 0
BySignatures = Satisfies hashes_or_keys keys_and_preimages (sig_b ∷ sig_a ∷ EMPTY ∷ []) 146 23 4

-- the right branch of an `or_i`, and the left one
abbrev pub RightBranch : Type 0
RightBranch =
    Satisfies key_and_key_or_hashes keys_and_preimages (preimage_3 ∷ preimage_2 ∷ preimage_1 ∷ EMPTY ∷ sig_b ∷ []) 173 17 6

abbrev pub LeftBranch : Type 0
LeftBranch = Satisfies key_and_key_or_hashes keys_and_preimages (sig_a ∷ ONE ∷ sig_b ∷ []) 147 17 4

-- a threshold with the lock met, and with the lock unmet
abbrev pub LockMet : Type 0
LockMet =
    Satisfies keys_or_lock (with_sequence 32 (pair_a ∷ pair_c ∷ [])) (EMPTY ∷ sig_c ∷ EMPTY ∷ sig_a ∷ []) 145 15 5

abbrev pub LockUnmet : Type 0
LockUnmet =
    Satisfies keys_or_lock (with_sequence 31 (pair_a ∷ pair_b ∷ pair_c ∷ [])) (ONE ∷ sig_c ∷ sig_b ∷ sig_a ∷ []) 218 15 5

-- 32 zero bytes as a preimage
abbrev pub ZerosAsPreimage : Type 0
ZerosAsPreimage =
    Satisfies zeros_or_key (with_preimages (preimage_0 ∷ []) (pair_a ∷ [])) (EMPTY ∷ preimage_0 ∷ []) 34 8 4

-- they don't dissatisfy that hash, so without the preimage there is no satisfaction
abbrev pub ZerosAreNoMiss : Type 0
ZerosAreNoMiss = (stack : List Bytes) → ¬ Sat zeros_or_key (with_preimages [] (pair_a ∷ [])) stack

-- a key may have several signatures, but no pair stands twice
abbrev pub two_of_one_key : Assets
two_of_one_key = with_preimages [] (pair_a ∷ pair_short_a ∷ [])

abbrev pub SeveralSignatures : Type 0
SeveralSignatures = AreAssets two_of_one_key × ¬ AreAssets (with_preimages [] (pair_a ∷ pair_a ∷ []))

-- each of them satisfies `pk(A)`, the longer one too
abbrev pub EitherSignature : Type 0
EitherSignature =
    Satisfies (pk key_a) two_of_one_key (sig_a ∷ []) 72 1 2 × Satisfies (pk key_a) two_of_one_key (sig_c ∷ []) 71 1 2

-- both signatures for `or_b`: a satisfaction that isn't canonical
abbrev pub both_signatures : Assets
both_signatures = with_preimages [] (pair_a ∷ pair_b ∷ [])

abbrev pub BothOfOrB : Type 0
BothOfOrB =
    FullSat key_or_key (given_of both_signatures) any (sig_b ∷ sig_a ∷ []) ×
    ¬ Sat key_or_key both_signatures (sig_b ∷ sig_a ∷ [])
