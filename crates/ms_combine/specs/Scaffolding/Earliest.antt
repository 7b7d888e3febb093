-- Which places of an order are the first with their key. No public clause cites it, so it need not be believed.
use Rattle.std.specs.Prelude.{ℕ, ◌&&◌, not, nat_lt, Bool, List, length, filter}
use Rattle.std.specs.List.{flat_map, list_any}
use Rattle.std.specs.Str.{bytes_eq}
use Rattle.def_script.specs.Bytes.{Bytes}
use Rattle.ms_combine.specs.declared.keys.Marked.{Marked}
use Rattle.ms_combine.specs.Scaffolding.Places.{key_at, pair_text_at}
use Rattle.ms_combine.specs.Scaffolding.Walk.{places_from}

-- another place comes before this one and has its key
abbrev pub is_earlier : (bytes : Bytes) → (place : ℕ) → Marked → Bool
is_earlier bytes place other = nat_lt other.place place && bytes_eq (key_at bytes place) (key_at bytes other.place)

abbrev pub is_earliest : (bytes : Bytes) → List Marked → (place : ℕ) → Bool
is_earliest bytes order place = not (list_any (is_earlier bytes place) order)

-- the bytes of the pairs at those places that are the first with their key
abbrev pub earliest_text : (bytes : Bytes) → List Marked → (places : List ℕ) → Bytes
earliest_text bytes order places = flat_map (pair_text_at bytes) (filter (is_earliest bytes order) places)

-- the places of all pairs of the maps that begin at places
abbrev pub all_places : (bytes : Bytes) → (places : List ℕ) → List ℕ
all_places bytes places = flat_map (places_from bytes (length bytes)) places
