-- A walk over the pairs of a map, from a place on. No public clause cites it, so it need not be believed.
use Rattle.std.specs.Prelude.{ℕ, zero, suc, min, List, [], ◌∷◌, length, Option, Some, None}
use Rattle.def_script.specs.Bytes.{Bytes}
use Rattle.ms_combine.specs.declared.keys.Marked.{Marked}
use Rattle.ms_combine.specs.Scaffolding.Places.{key_at, next_at}
use Rattle.ms_combine.specs.Scaffolding.Order.{mark_of}

abbrev pub onward : (at : ℕ) → Option ℕ → (next : ℕ → List ℕ) → List ℕ
onward at None next = []
onward at (Some place) next = at ∷ next place

-- the places of the pairs to the end of their map; no more of them have room than this
unfoldable pub places_from : (bytes : Bytes) → (room at : ℕ) → List ℕ
places_from bytes zero at = []
places_from bytes (suc room) at = onward at (next_at bytes at) (places_from bytes room)

abbrev pub behind : (end at : ℕ) → Option ℕ → (next : ℕ → ℕ) → ℕ
behind end at None next = min (suc at) end
behind end at (Some place) next = next place

-- the place behind the byte that ends the map; none lies behind the last byte
unfoldable pub behind_from : (bytes : Bytes) → (room at : ℕ) → ℕ
behind_from bytes zero at = min (suc at) (length bytes)
behind_from bytes (suc room) at = behind (length bytes) at (next_at bytes at) (behind_from bytes room)

abbrev pub marked_at : (bytes : Bytes) → (place : ℕ) → Marked
marked_at bytes place = record { mark = mark_of (key_at bytes place); place = place }
