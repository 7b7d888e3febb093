-- A letter that fits, and how it is written.
use Rattle.std.specs.Prelude.{ℕ, ◌++◌, codes, decimal}
use Rattle.def_script.specs.Bytes.{Bytes}
use Rattle.def_text.specs.Letter.{Letter}
use Rattle.ms_outline.specs.declared.fits.Fit.{Fit}
use Rattle.ms_outline.specs.Scaffolding.Found.{the_letter}

abbrev pub the_fit : Fit → ℕ × Letter
the_fit fit = (fit.child, the_letter fit.letter)

abbrev pub fit_text : (letter : Bytes) → (at : ℕ) → Bytes
fit_text letter at = codes "fits " ++ letter ++ codes " at " ++ decimal at ++ codes "\n"
