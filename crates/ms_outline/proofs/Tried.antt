-- The letters are tried one after the other.
use Rattle.std.proofs.Common.{◌≡◌, ℕ, ◌+◌, ◌<◌, Bool, true, false, List, ◌∷◌, length, map, drop, get_or, drop-cons, add-one, Some, None, refl, sym, ◌∙◌}
use Rattle.std.specs.Prelude.{Option, is_some}
use Rattle.std.specs.List.{find}
use Rattle.def_tree.specs.Tree.{Tree}
use Rattle.def_types.specs.declared.CorrectnessType.{CorrectnessType}
use Rattle.ms_types.specs.declared.over.Letter as code
use Rattle.ms_types.specs.declared.over.Letter.TheVariants as letter
use Rattle.ms_types.specs.Replaced.{letter_told, over_told, replaced}
use Rattle.ms_outline.specs.Scaffolding.Found.{the_letter, code_letter, passes}

pub code_is : (l : code.Letter) → code_letter (the_letter l) ≡ l
code_is (letter.Wrapper wrapper) = refl
code_is letter.T = refl
code_is letter.L = refl
code_is letter.U = refl

-- what was tried is whether the letter fits
tried_is : (t : Tree) (types : List (Option CorrectnessType)) (place : ℕ) (x : code.Letter) (child : Option CorrectnessType) (b : Bool)
    → child ≡ letter_told x (get_or types place None) → b ≡ is_some (over_told t (replaced types place child)) → passes t types place (the_letter x) ≡ b
tried_is t types place x child b child-is b-is = rw (code_is x) (rw (b-is, child-is) refl)

-- a letter that a loop is at, and those behind it
left_letters : (xs : List code.Letter) (i : ℕ) (d : code.Letter) → i < length xs → drop i xs ≡ get_or xs i d ∷ drop (i + 1) xs
left_letters xs i d below = rw add-one (drop-cons xs i d below)

module _ (t : Tree) (types : List (Option CorrectnessType)) (place : ℕ) (xs : List code.Letter) (i : ℕ) (d : code.Letter) (child : Option CorrectnessType) (b : Bool)
    (below : i < length xs) (child-is : child ≡ letter_told (get_or xs i d) (get_or types place None)) (b-is : b ≡ is_some (over_told t (replaced types place child))) where
  pub one_fits : b ≡ true → find (passes t types place) (map the_letter (drop i xs)) ≡ find (passes t types place) (map the_letter xs)
      → Some (the_letter (get_or xs i d)) ≡ find (passes t types place) (map the_letter xs)
  one_fits fits inv = sym (rw (left_letters xs i d below, tried_is t types place (get_or xs i d) child b child-is b-is, fits) refl) ∙ inv

  pub next_fits : b ≡ false → find (passes t types place) (map the_letter (drop i xs)) ≡ find (passes t types place) (map the_letter xs)
      → find (passes t types place) (map the_letter (drop (i + 1) xs)) ≡ find (passes t types place) (map the_letter xs)
  next_fits fits inv = sym (rw (left_letters xs i d below, tried_is t types place (get_or xs i d) child b child-is b-is, fits) refl) ∙ inv
