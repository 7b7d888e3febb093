-- Items that are joined one after the other.
use Rattle.std.proofs.Common.{◌≡◌, ℕ, ◌++◌, List, drop}
use Rattle.def_script.specs.Bytes.{Bytes}
use Rattle.ms_calls.specs.Items.{joined}

-- what was joined so far, and what is left of the stack, are all items
pub record AreJoined (stack : List Bytes) (i : ℕ) (bytes : Bytes) (lengths : List ℕ) : Type 0 where
  pub all_bytes : bytes ++ (joined (drop i stack)).bytes ≡ (joined stack).bytes
  pub all_lengths : lengths ++ (joined (drop i stack)).lengths ≡ (joined stack).lengths
