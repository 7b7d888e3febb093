-- The multiple by the bits before, and those of the word so far.
use Rattle.std.proofs.Common.{ℕ, ◌+◌, ◌-◌, ◌*◌, ◌/◌, ◌^◌}
use Rattle.def_curve.specs.Point.{multiple}
use Rattle.ms_point.specs.Standing.{StandsFor, IsReduced, point_at}
use Rattle.ms_point.proofs.multiples.next_word.Given as goal

abbrev pub invariant-loop-i : goal.invariant-loop-i
invariant-loop-i l = record {
  reduced : IsReduced l.a;
  so_far : (bits k : ℕ) → StandsFor l.fn.first (multiple bits k (point_at l.point))
      → StandsFor l.a (multiple (bits + l.i) (k * 2 ^ l.i + l.word / 2 ^ (64 - l.i)) (point_at l.point));
}
