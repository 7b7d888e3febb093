use Rattle.std.proofs.Common.{◌≡◌, ◌-◌, ◌<◌, ℕ, List, ◌∷◌, length}
use Rattle.def_tree.specs.InRange.{MOST_MEASURE}
use Rattle.ms_height.specs.Scaffolding.Tops.{IsRising, IsTop}
use Rattle.ms_height.proofs.sums.Top.add.Given as goal

abbrev pub invariant-loop-self : goal.invariant-loop-self
invariant-loop-self l = record {
  rising : (n : ℕ) (xs : List ℕ) → IsTop l.fn.self l.fn.counts n xs → length xs < MOST_MEASURE → IsRising l.self (l.number ∷ xs);
  count : l.self.count ≡ l.fn.self.count;
}

abbrev pub decreases-loop-self : goal.decreases-loop-self
decreases-loop-self l = length l.counts - l.self.mark
