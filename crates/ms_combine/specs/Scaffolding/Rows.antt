-- The maps of several PSBTs, of each a row, at their places. No public clause cites it, so it need not be believed.
use Rattle.std.specs.Prelude.{◌≡◌, ℕ, ◌+◌, ◌≤◌, ⊤, false, List, [], ◌∷◌, ◌++◌, length, drop}
use Rattle.std.specs.List.{flat_map, AllByRecursion}
use Rattle.def_script.specs.Bytes.{Bytes}
use Rattle.def_psbt.specs.Map.{Map, Psbt, map_text}
use Rattle.def_psbt.specs.Listed.{stands}
use Rattle.def_combine.specs.Joined.{joined_maps}
use Rattle.ms_psbt.specs.Scaffolding.Pairs.{IsSpelled}

-- the maps of a PSBT in their order
abbrev pub maps_of : Psbt → List Map
maps_of psbt = psbt.global ∷ (psbt.inputs ++ psbt.outputs)

-- rows put together, map by map
abbrev pub rows_joined : (row : List Map) → (rows : List (List Map)) → List Map
rows_joined row [] = row
rows_joined row (other ∷ rows) = rows_joined (joined_maps row other) rows

-- a text stands at a place
pub record IsAt (bytes : Bytes) (place : ℕ) (text : Bytes) : Type 0 where
  pub inside : place + length text ≤ length bytes
  pub is : drop place bytes ≡ text ++ drop (place + length text) bytes

-- rows stand at places, each behind the one before
abbrev pub AreAt : (bytes : Bytes) → (from : ℕ) → (places : List ℕ) → (rows : List (List Map)) → Type 0
AreAt bytes from [] [] = ⊤
AreAt bytes from [] (row ∷ rows) = ⊥
AreAt bytes from (place ∷ places) [] = ⊥
AreAt bytes from (place ∷ places) (row ∷ rows) = (from ≤ place) × IsAt bytes place (flat_map map_text row) × AreAt bytes (place + length (flat_map map_text row)) places rows

-- no key stands twice in a map behind another one, or in both
abbrev pub IsApart : (before map : Map) → Type 0
IsApart before [] = ⊤
IsApart before (pair ∷ map) = (stands pair.key before ≡ false) × IsApart (before ++ pair ∷ []) map

pub record IsPlain (map : Map) : Type 0 where
  pub spelled : AllByRecursion IsSpelled map
  pub apart : IsApart [] map

-- the first of some places; where there is none, one behind all
abbrev pub first_of : List ℕ → ℕ
first_of [] = 18446744073709551615
first_of (place ∷ places) = place

-- rows of as many maps stand at places, the first of them up to an end
pub record AreRows (bytes : Bytes) (end : ℕ) (places : List ℕ) (row : List Map) (rows : List (List Map)) : Type 0 where
  pub at : AreAt bytes 0 places (row ∷ rows)
  pub last : first_of places + length (flat_map map_text row) ≡ end
  pub same : AllByRecursion (λ (other : List Map). length other ≡ length row) rows
  pub plain : AllByRecursion (AllByRecursion IsPlain) (row ∷ rows)
