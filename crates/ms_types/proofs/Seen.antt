-- The children of a threshold, seen one after the other.
use Rattle.std.proofs.Common.{◌≡◌, ◌<◌, ℕ, drop, get_or, zero, suc, ◌+◌, List, [], ◌∷◌, length, Result, Ok, Err, refl, ap, arith}
use Rattle.def_tree.specs.Size.{nodes, nodes_of}
use Rattle.def_types.specs.declared.rule.RuleAt.{RuleAt}
use Rattle.ms_tree.specs.declared.tree.Tree as trees
use Rattle.ms_tree.specs.Shape.{shape, shapes}
use Rattle.ms_types.specs.Scaffolding.Seen.{seen_of}

-- what was seen of children is that of their types
pub types_seen : {A C : Type 0} (seen : List A → C) (r : Result (List A) RuleAt) (s : C) → Ok s ≡ seen_of seen r → (types : List A) × (r ≡ Ok types) × (s ≡ seen types)
types_seen seen (Ok types) s e = (types, refl, cc)
types_seen seen (Err at) s is = cc

-- the nodes of a child that a loop is at, and of those behind it
pub nodes_left : (xs : List trees.Tree) (i : ℕ) (x : trees.Tree) → i < length xs → x ≡ get_or xs i x → nodes (shape x) + nodes_of (shapes (drop (suc i) xs)) ≡ nodes_of (shapes (drop i xs))
nodes_left [] i x below at = absurd (omega (arith, below))
nodes_left (y ∷ xs) zero x below at = ap (λ z. nodes (shape z) + nodes_of (shapes xs)) at
nodes_left (y ∷ xs) (suc i) x below at = nodes_left xs i x (omega (arith, below)) at
