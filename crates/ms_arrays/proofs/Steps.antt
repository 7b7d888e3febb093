-- Pieces of arrays, one at a time.
use Rattle.std.proofs.Common.{◌≡◌, ℕ, suc, ◌+◌, ◌-◌, ◌<◌, List, [], ◌∷◌, length, take, drop, refl, ap, arith}
use Rattle.def_script.specs.Bytes.{Bytes}
use Rattle.ms_arrays.specs.Pieces.{KEY_SIZE, PREIMAGE_SIZE, pairs_at, entries_at, items_at, preimages_at}

-- there is a pair for each length
pub pairs_length : (lengths : List ℕ) (keys signatures : Bytes) → length (pairs_at lengths keys signatures) ≡ length lengths
pairs_length [] keys signatures = refl
pairs_length (size ∷ sizes) keys signatures = ap suc (pairs_length sizes (drop KEY_SIZE keys) (drop size signatures))

-- an entry, and an item
pub entries_length : (numbers : List ℕ) (keys : Bytes) → length (entries_at numbers keys) ≡ length numbers
entries_length [] keys = refl
entries_length (number ∷ numbers) keys = ap suc (entries_length numbers (drop KEY_SIZE keys))

pub items_length : (lengths : List ℕ) (bytes : Bytes) → length (items_at lengths bytes) ≡ length lengths
items_length [] bytes = refl
items_length (size ∷ sizes) bytes = ap suc (items_length sizes (drop size bytes))

-- the first preimage of those that are left
pub preimages_step : (count i : ℕ) (bytes : Bytes) → i < count
    → preimages_at (count - i) bytes ≡ take PREIMAGE_SIZE bytes ∷ preimages_at (count - (i + 1)) (drop PREIMAGE_SIZE bytes)
preimages_step count i bytes h = let e : count - i ≡ suc (count - (i + 1)) = omega (arith, h) in ap (λ n. preimages_at n bytes) e
