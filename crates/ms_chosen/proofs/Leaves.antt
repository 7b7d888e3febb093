-- The operands of timelocks that have a type.
use Rattle.std.proofs.Common.{◌≡◌, ℕ, ◌^◌, ◌<◌, ◌≤◌, ◌&&◌, subst, arith}
use Rattle.std.specs.Prelude.{IsTrue, nat_le, nat_lt}
use Rattle.std.proofs.lemmas.Bool.Decides.{nat_tests}
use Rattle.def_tree.specs.Tree as model
use Rattle.def_types.specs.Correctness.{older_row, after_row}
use Rattle.def_types.specs.Typed.{IsTyped}
use Rattle.ms_tree.specs.declared.tree.Leaf.{Leaf}
use Rattle.ms_tree.specs.declared.tree.Leaf.TheVariants.{Older, After}
use Rattle.ms_tree.specs.Shape.{leaf_shape}

tested : (n : ℕ) → IsTrue (nat_le 1 n && nat_lt n (2 ^ 31)) → (1 ≤ n) × (n < 2 ^ 31)
tested n h = (grind (arith, nat_tests), grind (arith, nat_tests))

older_typed : (n : ℕ) → IsTyped (model.older n) → (1 ≤ n) × (n < 2 ^ 31)
unfolding older_row
older_typed n h = tested n h.0

after_typed : (n : ℕ) → IsTyped (model.after n) → (1 ≤ n) × (n < 2 ^ 31)
unfolding after_row
after_typed n h = tested n h.0

pub older_in_range : (leaf : Leaf) (n : ℕ) → leaf ≡ Older n → IsTyped (leaf_shape leaf) → (1 ≤ n) × (n < 2 ^ 31)
older_in_range leaf n is typed = older_typed n (subst (λ l. IsTyped (leaf_shape l)) is typed)

pub after_in_range : (leaf : Leaf) (n : ℕ) → leaf ≡ After n → IsTyped (leaf_shape leaf) → (1 ≤ n) × (n < 2 ^ 31)
after_in_range leaf n is typed = after_typed n (subst (λ l. IsTyped (leaf_shape l)) is typed)
