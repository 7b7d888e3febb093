-- What the form of a key tells.
use Rattle.std.proofs.Common.{◌≡◌, ◌==◌, ◌||◌, IsTrue, length, slice_index}
use Rattle.std.proofs.lemmas.Bool.{eqb-true, and_parts}
use Rattle.def_script.specs.Bytes.{Bytes}
use Rattle.def_script.specs.Key.{is_key}

-- a key has 33 bytes
pub key_length : (key : Bytes) → IsTrue (is_key key) → length key ≡ 33
key_length key form = eqb-true (length key) 33 (and_parts (length key == 33) (slice_index key 0 == 2 || slice_index key 0 == 3) form).0
