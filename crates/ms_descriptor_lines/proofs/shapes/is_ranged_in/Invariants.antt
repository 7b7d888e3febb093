-- The expressions before go by no index.
use Rattle.std.proofs.Common.{◌≡◌, drop}
use Rattle.std.specs.List.{list_any}
use Rattle.def_descriptor.specs.Gives.{goes_by_index}
use Rattle.ms_outputs.specs.Keys.{expressions_in}
use Rattle.ms_descriptor_lines.proofs.shapes.is_ranged_in.Given as goal

abbrev pub invariant-loop-piece : goal.invariant-loop-piece
invariant-loop-piece l =
    list_any (λ expression. goes_by_index expression.named) (expressions_in (drop l.piece-index l.pieces))
    ≡ list_any (λ expression. goes_by_index expression.named) (expressions_in l.pieces)
