-- None of the letters before fits.
use Rattle.std.proofs.Common.{◌≡◌, drop, map}
use Rattle.std.specs.List.{find}
use Rattle.ms_tree.specs.Shape.{shape}
use Rattle.ms_outline.specs.Scaffolding.Found.{the_letter, passes}
use Rattle.ms_outline.proofs.fits.first_of.Given as goal

abbrev pub invariant-loop-letter : goal.invariant-loop-letter
invariant-loop-letter l =
    find (passes (shape l.tree) l.types l.place) (map the_letter (drop l.letter-index l.letters)) ≡ find (passes (shape l.tree) l.types l.place) (map the_letter l.letters)
