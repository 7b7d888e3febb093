-- Plans of some miniscripts.
use Rattle.std.specs.Prelude.{◌≡◌, ℕ, List, [], ◌∷◌, Some, None}
use Rattle.def_machine.specs.Samples.{key_a, key_b, key_c}
use Rattle.def_tree.specs.Tree.{Tree, Key}
use Rattle.def_assets.specs.Assets.{Assets}
use Rattle.def_satisfaction.specs.Samples.{preimage_1, preimage_2, preimage_3, with_sequence, with_preimages, two_of_three, keys_or_lock, key_and_key_or_hashes, hashes_or_keys}
use Rattle.def_plan.specs.Lengths.{Lengths}
use Rattle.def_plan.specs.Plan.{plan_of}

-- the plan of a miniscript asks these keys, and has this weight
abbrev pub Asks : Tree → Assets → Lengths → (keys : List Key) → (weight : ℕ) → Type 0
Asks tree assets table keys weight = plan_of tree assets table ≡ Some (record { keys = keys; weight = weight })

-- no signature and no preimage
abbrev pub nothing : Assets
nothing = with_preimages [] []

-- A by 71 bytes, B by 72, and C by 70
abbrev pub all_three : Lengths
all_three = (key_a, 71) ∷ (key_b, 72) ∷ (key_c, 70) ∷ []

-- `multi(2,A,B,C)`: of three signatures the two shortest, in the order of the keys, and not of the table
abbrev pub ShortestTwo : Type 0
ShortestTwo =
    Asks two_of_three nothing all_three (key_a ∷ key_c ∷ []) 144 ×
    Asks two_of_three nothing ((key_c, 70) ∷ (key_b, 72) ∷ (key_a, 71) ∷ []) (key_a ∷ key_c ∷ []) 144

-- of signatures of one length those of the first keys
abbrev pub FirstTwo : Type 0
FirstTwo =
    Asks two_of_three nothing ((key_a, 72) ∷ (key_b, 72) ∷ (key_c, 72) ∷ []) (key_a ∷ key_b ∷ []) 147

-- one signature isn't enough
abbrev pub TooFew : Type 0
TooFew = plan_of two_of_three nothing ((key_b, 72) ∷ []) ≡ None

-- `thresh(3,pk(A),s:pk(B),s:pk(C),sln:older(32))` where the lock is met, and where it isn't
abbrev pub LockCounts : Type 0
LockCounts =
    Asks keys_or_lock (with_sequence 32 []) ((key_a, 71) ∷ (key_c, 70) ∷ []) (key_a ∷ key_c ∷ []) 145 ×
    (plan_of keys_or_lock (with_sequence 31 []) ((key_a, 71) ∷ (key_c, 70) ∷ []) ≡ None)

-- preimages that are known take the place of a signature: no key is asked in vain
abbrev pub all_preimages : Assets
all_preimages = with_preimages (preimage_1 ∷ preimage_2 ∷ preimage_3 ∷ []) []

abbrev pub PreimagesFirst : Type 0
PreimagesFirst =
    Asks key_and_key_or_hashes all_preimages ((key_a, 71) ∷ (key_b, 72) ∷ []) (key_b ∷ []) 173 ×
    Asks key_and_key_or_hashes nothing ((key_a, 71) ∷ (key_b, 72) ∷ []) (key_b ∷ key_a ∷ []) 147 ×
    Asks hashes_or_keys all_preimages ((key_a, 71) ∷ (key_b, 72) ∷ []) (key_a ∷ []) 172
