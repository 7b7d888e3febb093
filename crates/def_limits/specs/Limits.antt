-- The limits of a miniscript (BIP 379, resource limits).
use Rattle.std.specs.Prelude.{◌≡◌, ℕ, ◌+◌, ◌≤◌, ◌⊎◌, length}
use Rattle.def_script.specs.Instruction.{opcode_count}
use Rattle.def_tree.specs.Tree.{Tree}
use Rattle.def_emit.specs.Emit.{emit, script_of}
use Rattle.def_limits.specs.declared.Limits.{Limits}
use Rattle.def_limits.specs.Formal.{FormalSat}

-- n is the greatest of a number over all of P, or 0 where P has none
abbrev pub IsGreatest : {A : Type 0} → (P : A → Type 0) → (number : A → ℕ) → (n : ℕ) → Type 0
IsGreatest {A = A} P number n =
    ((t : A) × P t × (number t ≡ n) × ((u : A) → P u → number u ≤ n)) ⊎
    (((u : A) → P u → ⊥) × (n ≡ 0))

-- these are the limits of the tree. Of the formal satisfactions each number is the greatest by itself
pub record AreLimits (tree : Tree) (limits : Limits) : Type 0 where
  pub size : limits.size ≡ length (script_of tree)
  pub ops : (keys : ℕ) × IsGreatest (FormalSat tree) (λ t. t.keys) keys × (limits.ops ≡ opcode_count (emit tree) + keys)
  pub items : IsGreatest (FormalSat tree) (λ t. t.items) limits.items
  pub weight : IsGreatest (FormalSat tree) (λ t. t.weight) limits.weight
