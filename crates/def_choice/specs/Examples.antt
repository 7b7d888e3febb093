-- Cheapest and strict satisfactions of some miniscripts, bottom first.
use Rattle.std.specs.Prelude.{◌≡◌, List, [], ◌∷◌, Some, None}
use Rattle.def_script.specs.Bytes.{Bytes}
use Rattle.def_machine.specs.Samples.{key_b, sig_a, sig_b, sig_c}
use Rattle.def_tree.specs.Tree.{Tree}
use Rattle.def_assets.specs.Assets.{Assets}
use Rattle.def_satisfaction.specs.Rows.{EMPTY, ONE}
use Rattle.def_satisfaction.specs.Samples.{pair_a, pair_b, pair_c, preimage_0, preimage_1, preimage_2, preimage_3, no_locks, with_sequence, with_locktime, with_preimages, two_of_three, three_signatures, key_or_late_key, key_and_void_lock, key_and_time, key_and_height, hashes_or_keys, key_and_key_or_hashes, keys_and_preimages, keys_or_lock, zeros_or_key}
use Rattle.def_choice.specs.Cheapest.{cheapest}
use Rattle.def_choice.specs.Strict.{strict}

-- both choices are this stack
abbrev pub BothChoose : Tree → Assets → (stack : List Bytes) → Type 0
BothChoose tree assets stack = (cheapest tree assets ≡ Some stack) × (strict tree assets ≡ Some stack)

-- neither choice finds a satisfaction
abbrev pub NeitherFinds : Tree → Assets → Type 0
NeitherFinds tree assets = (cheapest tree assets ≡ None) × (strict tree assets ≡ None)

-- the two lightest of three signatures, in the order of their keys
abbrev pub LightestTwo : Type 0
LightestTwo = BothChoose two_of_three three_signatures (EMPTY ∷ sig_a ∷ sig_c ∷ [])

-- the other key after 144 blocks; not after 143, nor where the sequence number counts time, nor in version 1
abbrev pub LateKey : Type 0
LateKey = BothChoose key_or_late_key (with_sequence 144 (pair_b ∷ [])) (sig_b ∷ key_b ∷ EMPTY ∷ [])

abbrev pub TooEarly : Type 0
TooEarly = NeitherFinds key_or_late_key (with_sequence 143 (pair_b ∷ []))

abbrev pub TimeForBlocks : Type 0
TimeForBlocks = NeitherFinds key_or_late_key (with_sequence 4194448 (pair_b ∷ []))

abbrev pub version_1 : Assets
version_1 = record { locks = record no_locks { version = 1; sequence = 144 }; pairs = pair_b ∷ []; preimages = [] }

abbrev pub OldVersion : Type 0
OldVersion = NeitherFinds key_or_late_key version_1

-- a lock whose operand is 0 under the mask
abbrev pub VoidLock : Type 0
VoidLock = BothChoose key_and_void_lock (with_sequence 0 (pair_a ∷ [])) (sig_a ∷ [])

-- a lock by time, met and unmet; the final sequence number; a lock by height at a time
abbrev pub TimeLock : Type 0
TimeLock = BothChoose key_and_time (with_locktime 500000000 (pair_a ∷ [])) (sig_a ∷ [])

abbrev pub HeightForTime : Type 0
HeightForTime = NeitherFinds key_and_time (with_locktime 499999999 (pair_a ∷ []))

abbrev pub final : Assets
final = record { locks = record no_locks { sequence = 4294967295; locktime = 500000000 }; pairs = pair_a ∷ []; preimages = [] }

abbrev pub FinalSequence : Type 0
FinalSequence = NeitherFinds key_and_time final

abbrev pub TimeForHeight : Type 0
TimeForHeight = NeitherFinds key_and_height (with_locktime 500000000 (pair_a ∷ []))

-- of a threshold, two signatures are lightest; but the preimages need no signature, so they come first
abbrev pub CheapestOfThreshold : Type 0
CheapestOfThreshold = cheapest hashes_or_keys keys_and_preimages ≡ Some (sig_b ∷ sig_a ∷ EMPTY ∷ [])

abbrev pub StrictOfThreshold : Type 0
StrictOfThreshold =
    strict hashes_or_keys keys_and_preimages ≡ Some (EMPTY ∷ sig_a ∷ preimage_3 ∷ preimage_2 ∷ preimage_1 ∷ [])

-- the same at the branches of an `or_i`
abbrev pub CheapestBranch : Type 0
CheapestBranch = cheapest key_and_key_or_hashes keys_and_preimages ≡ Some (sig_a ∷ ONE ∷ sig_b ∷ [])

abbrev pub StrictBranch : Type 0
StrictBranch =
    strict key_and_key_or_hashes keys_and_preimages ≡ Some (preimage_3 ∷ preimage_2 ∷ preimage_1 ∷ EMPTY ∷ sig_b ∷ [])

-- a threshold with its lock met; unmet, with too few signatures, and with enough
abbrev pub LockMet : Type 0
LockMet = BothChoose keys_or_lock (with_sequence 32 (pair_a ∷ pair_c ∷ [])) (EMPTY ∷ sig_c ∷ EMPTY ∷ sig_a ∷ [])

abbrev pub LockUnmet : Type 0
LockUnmet = NeitherFinds keys_or_lock (with_sequence 31 (pair_a ∷ pair_c ∷ []))

abbrev pub LockLeft : Type 0
LockLeft =
    BothChoose keys_or_lock (with_sequence 31 (pair_a ∷ pair_b ∷ pair_c ∷ [])) (ONE ∷ sig_c ∷ sig_b ∷ sig_a ∷ [])

-- 32 zero bytes that hash to the value can't dissatisfy it; as a preimage they are enough
abbrev pub ZerosCannotMiss : Type 0
ZerosCannotMiss = cheapest zeros_or_key (with_preimages [] (pair_a ∷ [])) ≡ None

abbrev pub ZerosAsPreimage : Type 0
ZerosAsPreimage = cheapest zeros_or_key (with_preimages (preimage_0 ∷ []) (pair_a ∷ [])) ≡ Some (EMPTY ∷ preimage_0 ∷ [])
