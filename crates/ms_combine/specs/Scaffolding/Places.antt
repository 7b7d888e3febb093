-- Pairs at places. No public clause cites it, so it need not be believed.
use Rattle.std.specs.Prelude.{ℕ, ◌-◌, [], length, take, drop, Option, Some, None}
use Rattle.def_script.specs.Bytes.{Bytes}
use Rattle.def_psbt.specs.Map.{Pair}
use Rattle.def_psbt.specs.Part.{Part}
use Rattle.ms_psbt.specs.Pairs.{first_pair}

abbrev pub key_of : Part Pair → Bytes
key_of (Some part) = part.0.key
key_of None = []

-- the bytes of the part at the front
abbrev pub part_text : (bytes : Bytes) → Part Pair → Bytes
part_text bytes (Some part) = take (length bytes - length part.1) bytes
part_text bytes None = []

-- the place behind the part, where the bytes end at this one
abbrev pub part_end : (end : ℕ) → Part Pair → Option ℕ
part_end end (Some part) = Some (end - length part.1)
part_end end None = None

-- the key at a place, the bytes of the pair there, and the place behind it
abbrev pub key_at : (bytes : Bytes) → (place : ℕ) → Bytes
key_at bytes place = key_of (first_pair (drop place bytes))

abbrev pub pair_text_at : (bytes : Bytes) → (place : ℕ) → Bytes
pair_text_at bytes place = part_text (drop place bytes) (first_pair (drop place bytes))

abbrev pub next_at : (bytes : Bytes) → (place : ℕ) → Option ℕ
next_at bytes place = part_end (length bytes) (first_pair (drop place bytes))
