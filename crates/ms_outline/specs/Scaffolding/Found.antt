-- The letter that fits, by the types of the children alone.
use Rattle.std.specs.Prelude.{ℕ, suc, ◌+◌, ◌-◌, ◌==◌, ◌&&◌, not, Bool, List, [], ◌∷◌, find, get_or, is_some, option_map, slice_index, Option, None}
use Rattle.std.specs.Option.{option_or}
use Rattle.def_tree.specs.Size.{nodes}
use Rattle.def_tree.specs.Tree.{Tree, Trees, none, more}
use Rattle.def_text.specs.Letter.{Letter, letter_of_wrapper, letter_t, letter_l, letter_u}
use Rattle.def_types.specs.declared.CorrectnessType.{CorrectnessType}
use Rattle.def_types.specs.Correctness.{correctness_of}
use Rattle.def_outline.specs.Fits.{Trial, tried_letters}
use Rattle.ms_types.specs.declared.over.Letter as code
use Rattle.ms_types.specs.declared.over.Letter.TheVariants as letter
use Rattle.ms_types.specs.Told.{told}
use Rattle.ms_types.specs.Replaced.{letter_told, over_told, replaced}

-- the letter
abbrev pub the_letter : code.Letter → Letter
the_letter (letter.Wrapper wrapper) = letter_of_wrapper wrapper
the_letter letter.T = letter_t
the_letter letter.L = letter_l
the_letter letter.U = letter_u

abbrev pub code_letter : Letter → code.Letter
code_letter (letter_of_wrapper wrapper) = letter.Wrapper wrapper
code_letter letter_t = letter.T
code_letter letter_l = letter.L
code_letter letter_u = letter.U

-- the types of trees side by side, and the numbers of their roots
abbrev pub types_of : Trees → List (Option CorrectnessType)
types_of none = []
types_of (more x xs) = told (correctness_of x) ∷ types_of xs

abbrev pub numbers_of : (first : ℕ) → Trees → List ℕ
numbers_of first none = []
numbers_of first (more x xs) = (first + nodes x - 1) ∷ numbers_of (first + nodes x) xs

-- the root of the tree breaks no rule with this letter before the child at a place
abbrev pub passes : Tree → (types : List (Option CorrectnessType)) → (place : ℕ) → Letter → Bool
passes tree types place l = is_some (over_told tree (replaced types place (letter_told (code_letter l) (get_or types place None))))

-- so, and the child stands in the text at another place than the node
abbrev pub is_fit : (offsets : List ℕ) → (own : ℕ) → Tree → (types : List (Option CorrectnessType)) → (place number : ℕ) → Letter → Bool
is_fit offsets own tree types place number l =
    not (slice_index offsets number == slice_index offsets own) && passes tree types place l

-- the first such of a child
abbrev pub fit_at : (offsets : List ℕ) → (own : ℕ) → Tree → (types : List (Option CorrectnessType)) → (place number : ℕ) → Option (ℕ × Letter)
fit_at offsets own tree types place number = option_map (λ l. (number, l)) (find (is_fit offsets own tree types place number) tried_letters)

-- and of the children from a place on, whose roots have these numbers
abbrev pub found : (offsets : List ℕ) → (own : ℕ) → Tree → (types : List (Option CorrectnessType)) → (place : ℕ) → (numbers : List ℕ) → Option (ℕ × Letter)
found offsets own tree types place [] = None
found offsets own tree types place (number ∷ numbers) =
    option_or (fit_at offsets own tree types place number) (found offsets own tree types (suc place) numbers)

-- the child and the letter of a trial
abbrev pub child_and_letter : Trial → ℕ × Letter
child_and_letter t = (t.child, t.letter)
