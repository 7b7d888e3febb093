-- A `multi` wants no more signatures than it has keys.
use Rattle.std.proofs.Common.{ℕ, ◌≤◌, List, ◌&&◌, length, arith}
use Rattle.std.specs.Prelude.{IsTrue, nat_le}
use Rattle.std.proofs.lemmas.Bool.Decides.{nat_tests}
use Rattle.def_tree.specs.Tree.{Key, multi}
use Rattle.def_types.specs.Correctness.{multi_row}
use Rattle.def_types.specs.Typed.{IsTyped}

enough_keys : (k : ℕ) → (count : ℕ) → IsTrue (nat_le 1 k && nat_le k count && nat_le count 20) → k ≤ count
enough_keys k count h = grind (arith, nat_tests)

pub multi_enough : (k : ℕ) (keys : List Key) → IsTyped (multi k keys) → k ≤ length keys
unfolding multi_row
multi_enough k keys typed = enough_keys k (length keys) typed.0
