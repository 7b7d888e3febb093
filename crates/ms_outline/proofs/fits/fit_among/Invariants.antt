-- No letter fits before one of the children before.
use Rattle.std.proofs.Common.{◌≡◌, drop}
use Rattle.ms_tree.specs.Shape.{shape}
use Rattle.ms_outline.specs.Scaffolding.Found.{found}
use Rattle.ms_outline.proofs.fits.fit_among.Given as goal

abbrev pub invariant-loop-place : goal.invariant-loop-place
invariant-loop-place l =
    found l.offsets l.own (shape l.tree) l.types l.place (drop l.place l.numbers) ≡ found l.offsets l.own (shape l.tree) l.types 0 l.numbers
