-- The line of the letter that was found is that of the first trial that fits.
use Rattle.std.proofs.Common.{◌≡◌, ℕ, ◌+◌, ◌-◌, List, [], ◌∷◌, ◌++◌, codes, Some, None, refl, sym, ◌∙◌, ap}
use Rattle.std.specs.Prelude.{Option, option_map, slice_index}
use Rattle.def_script.specs.Bytes.{Bytes}
use Rattle.def_tree.specs.Children.{children}
use Rattle.def_tree.specs.Size.{nodes}
use Rattle.def_tree.specs.Tree.{Tree}
use Rattle.def_text.specs.Letter.{Letter, letter_byte}
use Rattle.def_outline.specs.Fits.{Trial, fit_of}
use Rattle.def_answer.specs.Lines.{line, offset_of}
use Rattle.def_answer.specs.Outline.{trial_line}
use Rattle.ms_outline.specs.declared.fits.Fit.{Fit}
use Rattle.ms_outline.specs.Scaffolding.Found.{types_of, numbers_of, found, child_and_letter}
use Rattle.ms_outline.specs.Scaffolding.Fitting.{the_fit, fit_text}
use Rattle.ms_outline.proofs.Trying.{found_is}

abbrev pair_line : (offsets : List ℕ) → Option (ℕ × Letter) → Bytes
pair_line offsets None = []
pair_line offsets (Some p) = line (codes "fits " ++ letter_byte p.1 ∷ codes " at " ++ offset_of offsets p.0)

trial_line_is : (offsets : List ℕ) (o : Option Trial) → trial_line offsets o ≡ pair_line offsets (option_map child_and_letter o)
trial_line_is offsets None = refl
trial_line_is offsets (Some t) = refl

module _ (offsets : List ℕ) (own : ℕ) (t : Tree) (there : Option Tree) (there-is : there ≡ Some t) (fit : Option Fit)
    (is : option_map the_fit fit ≡ found offsets own t (types_of (children t)) 0 (numbers_of (own + 1 - nodes t) (children t))) where
  line_is : trial_line offsets (fit_of offsets own there) ≡ pair_line offsets (option_map the_fit fit)
  line_is =
      trial_line_is offsets (fit_of offsets own there)
      ∙ ap (pair_line offsets) (ap (λ o. option_map child_and_letter (fit_of offsets own o)) there-is ∙ sym (found_is offsets own t (own + 1 - nodes t)) ∙ sym is)

  pub nothing_fits : fit ≡ None → trial_line offsets (fit_of offsets own there) ≡ []
  nothing_fits none = line_is ∙ rw none refl

  pub one_fits : (f : Fit) → fit ≡ Some f → trial_line offsets (fit_of offsets own there) ≡ pair_line offsets (Some (the_fit f))
  one_fits f some = line_is ∙ rw some refl

-- the line that is written
pub text_is : (offsets : List ℕ) (f : Fit) (letter : Bytes) (at : ℕ) → letter ≡ letter_byte (the_fit f).1 ∷ [] → at ≡ slice_index offsets f.child
    → fit_text letter at ≡ pair_line offsets (Some (the_fit f))
text_is offsets f letter at letter-is at-is = rw (letter-is, at-is) refl
