-- The correctness type of an expression with a letter before it, and of a node over children of other types.
use Rattle.std.specs.Prelude.{ℕ, zero, suc, ◌+◌, nat_eq, if◌then◌else◌, Bool, false, ◌&&◌, List, [], ◌∷◌, Option, Some, None}
use Rattle.def_tree.specs.declared.Two.TheVariants.{AndV, OrI}
use Rattle.def_tree.specs.Tree.{Tree, Trees, and_or, two, thresh, wrap, none, more}
use Rattle.def_types.specs.declared.CorrectnessType.{CorrectnessType}
use Rattle.def_types.specs.Correctness.{is_b, is_w, just_0_row, just_1_row, and_or_row, two_row, thresh_row, wrap_row}
use Rattle.ms_types.specs.declared.over.Letter.{Letter}
use Rattle.ms_types.specs.declared.over.Letter.TheVariants as letter
use Rattle.ms_types.specs.Scaffolding.Told.{then_told, row_told, joined, one_told}

-- of an expression of this type with a letter before it
abbrev pub letter_told : Letter → Option CorrectnessType → Option CorrectnessType
letter_told (letter.Wrapper wrapper) x = then_told x (λ a. row_told (wrap_row wrapper a))
letter_told letter.T x = then_told x (λ a. then_told (row_told just_1_row) (λ b. row_told (two_row AndV a b)))
letter_told letter.L x = then_told (row_told just_0_row) (λ a. then_told x (λ b. row_told (two_row OrI a b)))
letter_told letter.U x = then_told x (λ a. then_told (row_told just_0_row) (λ b. row_told (two_row OrI a b)))

-- the types, where each is there
abbrev pub all_there : {A : Type 0} → List (Option A) → Option (List A)
all_there [] = Some []
all_there (x ∷ xs) = joined (one_told x) (all_there xs)

-- of the root of a tree over children of these types, as many as it has
abbrev pub over_told : Tree → List (Option CorrectnessType) → Option CorrectnessType
over_told (and_or x y z) (a ∷ b ∷ c ∷ []) = then_told a (λ u. then_told b (λ v. then_told c (λ w. row_told (and_or_row u v w))))
over_told (two kind x y) (a ∷ b ∷ []) = then_told a (λ u. then_told b (λ v. row_told (two_row kind u v)))
over_told (thresh k xs) types = then_told (all_there types) (λ each. row_told (thresh_row k each))
over_told (wrap wrapper x) (a ∷ []) = then_told a (λ u. row_told (wrap_row wrapper u))
over_told tree types = None

-- how many trees stand side by side
abbrev pub count : Trees → ℕ
count none = 0
count (more x xs) = 1 + count xs

-- a list with another element at one place
abbrev pub replaced : {A : Type 0} → List A → (place : ℕ) → A → List A
replaced [] place y = []
replaced (x ∷ xs) zero y = y ∷ xs
replaced (x ∷ xs) (suc place) y = x ∷ replaced xs place y

-- the child of a threshold at this place may have this type
abbrev pub is_right : (place : ℕ) → Option CorrectnessType → Bool
is_right place None = false
is_right place (Some x) = if nat_eq place 0 then is_b x.base && x.d && x.u else is_w x.base && x.d && x.u

abbrev pub wrong : (place : ℕ) → Option CorrectnessType → ℕ
wrong place x = if is_right place x then 0 else 1

-- how many children, from this place on, have types that they may not have
abbrev pub wrongs : (place : ℕ) → List (Option CorrectnessType) → ℕ
wrongs place [] = 0
wrongs place (x ∷ xs) = wrong place x + wrongs (suc place) xs
