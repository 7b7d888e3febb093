use Rattle.std.proofs.Common.{◌≡◌, ℕ, ◌++◌, drop, map, get_or}
use Rattle.ms_writers.proofs.placing.places_at.Given as goal

-- the places so far and those that are left
abbrev pub invariant-loop-node : goal.invariant-loop-node
invariant-loop-node l =
    l.places.items ++ map (λ (node : ℕ). get_or l.offsets node 0) (drop l.node-index l.nodes) ≡ map (λ (node : ℕ). get_or l.offsets node 0) l.nodes
