-- The form of a key, as the test and as the fact.
use Rattle.std.proofs.Common.{◌≡◌, ◌↔◌, Bool, true, false, Option, Some, None, is_some, IsSome, refl}
use Rattle.def_script.specs.Bytes.{Bytes, IsBytes}
use Rattle.def_script.specs.Key.{is_key}
use Rattle.def_tree.specs.Range.{IsKey}
use Rattle.def_files.proofs.Fits.{key_fits}

pub key_form : {A : Type 0} (found : Option A) (key : Bytes) → IsBytes key → IsSome found ↔ IsKey key → is_some found ≡ is_key key
key_form {A} found key bytes is = go found (is_key key) refl is
  where
    go : (o : Option A) (b : Bool) → is_key key ≡ b → IsSome o ↔ IsKey key → is_some o ≡ b
    go (Some x) true e h = refl
    go (Some x) false e h = let no = (h.0 refl).form in cc
    go None true e h = let no = h.1 (key_fits key e bytes) in cc
    go None false e h = refl
