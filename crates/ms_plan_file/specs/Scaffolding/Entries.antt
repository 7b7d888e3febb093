-- The entries of a table of lengths.
use Rattle.std.specs.Prelude.{◌≡◌, ℕ, ◌≤◌, None}
use Rattle.def_script.specs.Signature.{MAX_SIGNATURE_SIZE}
use Rattle.def_tree.specs.Tree.{Key}
use Rattle.def_tree.specs.Range.{IsKey}
use Rattle.def_plan.specs.Lengths.{Lengths, length_of}

-- an entry has a key and a length of a signature, and its key isn't that of a later one
pub record CanStandBefore (entry : Key × ℕ) (later : Lengths) : Type 0 where
  pub key : IsKey entry.0
  pub some : 1 ≤ entry.1
  pub short : entry.1 ≤ MAX_SIGNATURE_SIZE
  pub once : length_of later entry.0 ≡ None
