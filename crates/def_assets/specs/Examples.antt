-- Examples of assets: which signature and which preimage are found.
use Rattle.std.specs.Prelude.{◌≡◌, List, [], ◌∷◌, replicate, Some, None}
use Rattle.def_hash.specs.Hex.{from_hex}
use Rattle.def_hash.specs.declared.HashKind.{HashKind}
use Rattle.def_hash.specs.declared.HashKind.TheVariants.{Sha256, Hash256}
use Rattle.def_hash.specs.Hash.{digest_of}
use Rattle.def_script.specs.Bytes.{Bytes}
use Rattle.def_machine.specs.Samples.{plain_locks, key_a, key_b, sig_a, sig_b, sig_c}
use Rattle.def_machine.specs.Stacks.{Pairs}
use Rattle.def_assets.specs.Assets.{Assets, sig_of, known, unsigned}

abbrev pub holding : Pairs → (preimages : List Bytes) → Assets
holding pairs preimages = record { locks = plain_locks; pairs = pairs; preimages = preimages }

-- of the signatures of one key the shortest is found, wherever it stands, and of several shortest the first
abbrev pub ShortestSignature : Type 0
ShortestSignature =
    (sig_of (holding ((key_b, sig_b) ∷ (key_a, sig_a) ∷ (key_a, sig_c) ∷ []) []) key_a ≡ Some sig_c)
    × (sig_of (holding ((key_a, sig_c) ∷ (key_a, sig_a) ∷ []) []) key_a ≡ Some sig_c)

abbrev pub FirstOfShortest : Type 0
FirstOfShortest =
    sig_of (holding ((key_a, 1 ∷ 2 ∷ []) ∷ (key_a, 3 ∷ []) ∷ (key_b, []) ∷ (key_a, 4 ∷ []) ∷ []) []) key_a ≡ Some (3 ∷ [])

-- none of a key that isn't there, and none without signatures
abbrev pub NoSignature : Type 0
NoSignature =
    (sig_of (holding ((key_b, sig_b) ∷ []) []) key_a ≡ None)
    × (sig_of (unsigned (holding ((key_a, sig_a) ∷ []) [])) key_a ≡ None)

-- SHA-256 of 32 zero bytes
abbrev pub hash_of_zeros : Bytes
hash_of_zeros = from_hex "66687aadf862bd776c8fc18b8e9f8e20089714856ee233b3902a591d0d5f2925"

-- the preimage that hashes to the value, wherever it stands
abbrev pub KnownPreimage : Type 0
KnownPreimage =
    known (holding [] (replicate 32 0x11 ∷ replicate 32 0x00 ∷ [])) Sha256 hash_of_zeros ≡ Some (replicate 32 0x00)

-- none where no preimage hashes to it by the function that is asked for
abbrev pub UnknownPreimage : Type 0
UnknownPreimage =
    (known (holding [] (replicate 32 0x11 ∷ [])) Sha256 hash_of_zeros ≡ None)
    × (known (holding [] (replicate 32 0x00 ∷ [])) Hash256 hash_of_zeros ≡ None)

-- of two preimages with one hash value the first is the known one. No two that differ have been found, so this is said
-- of any two
abbrev pub FirstOfTwo : Type 0
FirstOfTwo =
    (kind : HashKind) (value former latter : Bytes) → digest_of kind former ≡ value → digest_of kind latter ≡ value →
    known (holding [] (former ∷ latter ∷ [])) kind value ≡ Some former
