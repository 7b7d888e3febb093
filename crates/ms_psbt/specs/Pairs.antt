-- The pairs at the front of bytes, one after the other (BIP 174, "Specification").
use Rattle.std.specs.Prelude.{ℕ, zero, suc, ◌==◌, List, [], ◌∷◌, length, if◌then◌else◌, Some, None}
use Rattle.def_script.specs.Bytes.{Bytes}
use Rattle.def_psbt.specs.Map.{Pair, Map}
use Rattle.def_psbt.specs.Part.{Part, ◌>>=◌, first_string}

-- the pair at the front; none where the key of size 0 stands, which ends a map
unfoldable pub first_pair : Bytes → Part Pair
first_pair bytes = do
  key ← first_string bytes
  if length key.0 == 0 then None
      else do
        value ← first_string key.1
        Some (record { key = key.0; value = value.0 }, value.1)

-- a part, and then those behind it
abbrev pub with_next : {A : Type 0} → Part A → (next : Bytes → List A) → List A
with_next None next = []
with_next (Some part) next = part.0 ∷ next part.1

-- the parts at the front, one after the other, as far as there are any; no more of them have room than this
unfoldable pub parts_in : {A : Type 0} → (first : Bytes → Part A) → (room : ℕ) → Bytes → List A
parts_in first zero bytes = []
parts_in first (suc room) bytes = with_next (first bytes) (parts_in first room)

-- the pairs that bytes begin with
abbrev pub pairs_in : Bytes → Map
pairs_in bytes = parts_in first_pair (length bytes) bytes
