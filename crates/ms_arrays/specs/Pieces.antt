-- Byte strings that lie one after the other in an array.
use Rattle.std.specs.Prelude.{ℕ, zero, suc, ◌/◌, List, [], ◌∷◌, length, take, drop}
use Rattle.def_script.specs.Bytes.{Bytes}
use Rattle.def_machine.specs.Stacks.{Pairs}

-- how many bytes a key has, and how many a preimage
abbrev pub KEY_SIZE : ℕ
KEY_SIZE = 33

abbrev pub PREIMAGE_SIZE : ℕ
PREIMAGE_SIZE = 32

-- keys of 33 bytes, each with a signature of the length at its place
abbrev pub pairs_at : (lengths : List ℕ) → (keys signatures : Bytes) → Pairs
pairs_at [] keys signatures = []
pairs_at (size ∷ sizes) keys signatures =
    (take KEY_SIZE keys, take size signatures) ∷ pairs_at sizes (drop KEY_SIZE keys) (drop size signatures)

-- keys of 33 bytes, each with the number at its place
abbrev pub entries_at : (numbers : List ℕ) → (keys : Bytes) → List (Bytes × ℕ)
entries_at [] keys = []
entries_at (number ∷ numbers) keys = (take KEY_SIZE keys, number) ∷ entries_at numbers (drop KEY_SIZE keys)

-- items of these lengths
abbrev pub items_at : (lengths : List ℕ) → Bytes → List Bytes
items_at [] bytes = []
items_at (size ∷ sizes) bytes = take size bytes ∷ items_at sizes (drop size bytes)

-- so many preimages of 32 bytes
abbrev pub preimages_at : (count : ℕ) → Bytes → List Bytes
preimages_at zero bytes = []
preimages_at (suc count) bytes = take PREIMAGE_SIZE bytes ∷ preimages_at count (drop PREIMAGE_SIZE bytes)

-- all that are there whole
abbrev pub preimages_in : Bytes → List Bytes
preimages_in bytes = preimages_at (length bytes / PREIMAGE_SIZE) bytes
