-- The lines so far, and those of the keys that are left.
use Rattle.std.proofs.Common.{◌≡◌, ◌++◌, drop}
use Rattle.def_descriptor_answer.specs.Lines.{key_lines}
use Rattle.ms_outputs.specs.Keys.{expressions_in}
use Rattle.ms_descriptor_lines.proofs.paths.push_of_pieces.Given as goal

abbrev pub invariant-loop-piece : goal.invariant-loop-piece
invariant-loop-piece l =
    l.report.items ++ key_lines l.branch l.index (expressions_in (drop l.piece-index l.pieces)) l.left
    ≡ l.initial.report.items ++ key_lines l.branch l.index (expressions_in l.pieces) l.keys
