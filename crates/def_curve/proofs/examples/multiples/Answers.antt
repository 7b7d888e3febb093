-- The examples, each computed.
use Rattle.std.proofs.Common.{refl}
use Rattle.def_curve.proofs.Computing.{power, on_line, double, chord, ◌⊕◌, multiple}
use Rattle.def_curve.proofs.examples.multiples.Goals as goal

pub returns-clause-twice : goal.returns-clause-twice
unfolding power on_line double chord ◌⊕◌ multiple
returns-clause-twice c = refl

pub returns-clause-thrice : goal.returns-clause-thrice
unfolding power on_line double chord ◌⊕◌ multiple
returns-clause-thrice c = refl

pub returns-clause-order : goal.returns-clause-order
unfolding power on_line double chord ◌⊕◌ multiple
returns-clause-order c = refl

pub returns-clause-opposite : goal.returns-clause-opposite
unfolding power on_line double chord ◌⊕◌ multiple
returns-clause-opposite c = refl
