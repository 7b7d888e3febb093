use Rattle.std.proofs.Common.{◌≡◌}
use Rattle.ms_combine.specs.Scaffolding.Left.{rest_of, texts_left, most_lines, HasRoom}
use Rattle.ms_combine.proofs.lines.next_text.Given as goal

abbrev pub invariant-loop-left : goal.invariant-loop-left
invariant-loop-left l = (texts_left l.initial.left ≡ texts_left l.left) × HasRoom l.left

abbrev pub decreases-loop-left : goal.decreases-loop-left
decreases-loop-left l = most_lines (rest_of l.left)
