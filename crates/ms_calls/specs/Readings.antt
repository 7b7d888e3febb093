-- What reading a Script back tells, by keys that lie one after the other.
use Rattle.std.specs.Prelude.{◌≡◌, ℕ, zero, suc, ◌==◌, ◌*◌, ◌/◌, ◌&&◌, Bool, List, [], ◌∷◌, length, take, drop}
use Rattle.std.specs.List.{list_all}
use Rattle.def_script.specs.Bytes.{Bytes}
use Rattle.def_script.specs.Key.{is_key}
use Rattle.def_tree.specs.Tree.{Key, Tree}
use Rattle.def_text.specs.Print.{printed}
use Rattle.def_decode.specs.Decoded.{IsReading, IsDecoded}
use Rattle.ms_arrays.specs.Pieces.{KEY_SIZE}
use Rattle.ms_calls.specs.Buffers.{written_over}

-- so many keys of 33 bytes
abbrev pub keys_at : (count : ℕ) → Bytes → List Key
keys_at zero bytes = []
keys_at (suc count) bytes = take KEY_SIZE bytes ∷ keys_at count (drop KEY_SIZE bytes)

-- all that are there whole
abbrev pub keys_in : Bytes → List Key
keys_in bytes = keys_at (length bytes / KEY_SIZE) bytes

-- nothing else is there, and each has the form of a key
abbrev pub are_keys : Bytes → Bool
are_keys bytes = (length bytes == KEY_SIZE * (length bytes / KEY_SIZE)) && list_all is_key (keys_in bytes)

-- what stands in a buffer, and how many bytes are told, after the printed form of a tree to which the Script is decoded is written
abbrev pub TellsDecoded : List Key → (script : Bytes) → (before after : Bytes) → (needed : ℕ) → Type 0
TellsDecoded keys script before after needed =
    (tree : Tree) × IsDecoded keys script tree × (after ≡ written_over before (printed tree)) × (needed ≡ length (printed tree))

-- no miniscript has the Script
abbrev pub HasNoReading : List Key → (script : Bytes) → Type 0
HasNoReading keys script = (tree : Tree) → ¬ IsReading keys script tree
