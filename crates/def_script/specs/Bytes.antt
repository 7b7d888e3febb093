-- Byte strings.
use Rattle.std.specs.Prelude.{ℕ, ◌<◌, List, slice_index}

-- a byte string, as a list of numbers
abbrev pub Bytes : Type 0
Bytes = List ℕ

-- each number of the list is a byte (`slice_index` is 0 past the end)
abbrev pub IsBytes : Bytes → Type 0
IsBytes bytes = (i : ℕ) → slice_index bytes i < 256
