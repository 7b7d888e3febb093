-- What pushed bytes are.
use Rattle.std.proofs.Common.{◌≡◌, Bool, true, false, if◌then◌else◌, Option, Some, None, IsSome, IfSome, ◌↔◌, refl}
use Rattle.def_script.specs.Bytes.{Bytes, IsBytes}
use Rattle.def_tree.specs.Range.{IsKey}
use Rattle.def_script.specs.Key.{is_key}
use Rattle.ms_reading.specs.Scaffolding.Leaves.{key_in}

-- a key that is made of bytes is the one that the test gives
pub key_by : (o : Option Bytes) (bytes : Bytes) → IsBytes bytes → (IsSome o ↔ IsKey bytes) → IfSome o (λ k. k ≡ bytes) → o ≡ key_in bytes
key_by (Some k) bytes are found value = rw ((found.0 refl).form, value)
key_by None bytes are found value = go (is_key bytes) refl
  where
    go : (b : Bool) → is_key bytes ≡ b → None ≡ (if b then Some bytes else None)
    go true e = let some = found.1 (record { form = e; bytes = are }) in cc
    go false e = refl
