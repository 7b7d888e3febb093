-- Formal satisfactions, each with the course of its run: the items that it takes, and the steps of the
-- fragments in the order in which the Script runs them (BIP 379, satisfaction table and translation table).
-- An element that is moved to the alternative stack or back counts 0, since both stacks are counted together.
use Rattle.std.specs.Prelude.{◌≡◌, ℕ, zero, suc, ◌+◌, [], ◌∷◌, ◌++◌, ◌⊎◌, length, replicate}
use Rattle.def_tree.specs.declared.Two.TheVariants as kind
use Rattle.def_tree.specs.declared.Wrapper.TheVariants as wrapper
use Rattle.def_tree.specs.Tree.{Tree, Trees, just_0, just_1, pk_k, pk_h, older, after, hash, and_or, two, thresh, multi, wrap, none, more}
use Rattle.def_height.specs.Course.{up, down, Course}

-- a satisfaction or a dissatisfaction: how many items it takes, and its course
pub record Way : Type 0 where
  pub items : ℕ
  pub course : Course

-- one and then the other
abbrev pub then : Way → Way → Way
then a b = record { items = a.items + b.items; course = a.course ++ b.course }

-- there is none; there is the one of so many items and this course; one of either; one of the first and then
-- one of the second; one of the first and then these steps
abbrev pub Never : Way → Type 0
Never w = ⊥

abbrev pub Is : (items : ℕ) → Course → Way → Type 0
Is items course w = w ≡ record { items = items; course = course }

abbrev pub Either : (Way → Type 0) → (Way → Type 0) → Way → Type 0
Either P Q w = P w ⊎ Q w

abbrev pub Then : (Way → Type 0) → (Way → Type 0) → Way → Type 0
Then P Q w = (a : Way) × (b : Way) × P a × Q b × (w ≡ then a b)

abbrev pub Followed : (Way → Type 0) → Course → Way → Type 0
Followed P course = Then P (Is 0 course)

-- `FormalSat x w`: w is a formal satisfaction of x. `FormalDsat` says it of dissatisfactions, and
-- `FormalParts first xs k` of the children of a threshold, k of them satisfied and the others dissatisfied,
-- where the steps `first` stand behind the first one and those of ADD behind each further one
abbrev mutual
  pub FormalSat : Tree → Way → Type 0
  FormalSat just_0 = Never
  FormalSat just_1 = Is 0 (up 1 ∷ [])
  FormalSat (pk_k key) = Is 1 (up 1 ∷ [])
  FormalSat (pk_h key) = Is 2 (up 1 ∷ up 0 ∷ up 1 ∷ down 2 ∷ [])
  FormalSat (older n) = Is 0 (up 1 ∷ up 0 ∷ [])
  FormalSat (after n) = Is 0 (up 1 ∷ up 0 ∷ [])
  FormalSat (hash kind value) = Is 1 (up 1 ∷ up 1 ∷ down 2 ∷ up 0 ∷ up 1 ∷ down 1 ∷ [])
  FormalSat (and_or x y z) =
      Either (Then (Followed (FormalSat x) (down 1 ∷ [])) (FormalSat y)) (Then (Followed (FormalDsat x) (down 1 ∷ [])) (FormalSat z))
  FormalSat (two kind.AndV x y) = Then (FormalSat x) (FormalSat y)
  FormalSat (two kind.AndB x y) = Followed (Then (FormalSat x) (FormalSat y)) (down 1 ∷ [])
  FormalSat (two kind.OrB x z) =
      Either (Followed (Then (FormalSat x) (FormalDsat z)) (down 1 ∷ [])) (Followed (Then (FormalDsat x) (FormalSat z)) (down 1 ∷ []))
  FormalSat (two kind.OrC x z) = Either (Followed (FormalSat x) (down 1 ∷ [])) (Then (Followed (FormalDsat x) (down 1 ∷ [])) (FormalSat z))
  FormalSat (two kind.OrD x z) =
      Either (Followed (FormalSat x) (up 1 ∷ down 1 ∷ [])) (Then (Followed (FormalDsat x) (up 0 ∷ down 1 ∷ [])) (FormalSat z))
  FormalSat (two kind.OrI x z) = Either (Then (Is 1 (down 1 ∷ [])) (FormalSat x)) (Then (Is 1 (down 1 ∷ [])) (FormalSat z))
  FormalSat (thresh k xs) = Followed (FormalParts [] xs k) (up 1 ∷ down 1 ∷ [])
  FormalSat (multi k keys) = Is (k + 1) (replicate (length keys + 2) (up 1) ++ down (length keys + k + 2) ∷ [])
  FormalSat (wrap wrapper.A x) = Then (Is 0 (up 0 ∷ [])) (Followed (FormalSat x) (up 0 ∷ []))
  FormalSat (wrap wrapper.S x) = Then (Is 0 (up 0 ∷ [])) (FormalSat x)
  FormalSat (wrap wrapper.C x) = Followed (FormalSat x) (down 1 ∷ [])
  FormalSat (wrap wrapper.D x) = Then (Is 1 (up 1 ∷ down 1 ∷ [])) (FormalSat x)
  FormalSat (wrap wrapper.V x) = Followed (FormalSat x) (down 1 ∷ [])
  FormalSat (wrap wrapper.J x) = Then (Is 0 (up 1 ∷ up 0 ∷ down 1 ∷ [])) (FormalSat x)
  FormalSat (wrap wrapper.N x) = Followed (FormalSat x) (up 0 ∷ [])

  pub FormalDsat : Tree → Way → Type 0
  FormalDsat just_0 = Is 0 (up 1 ∷ [])
  FormalDsat just_1 = Never
  FormalDsat (pk_k key) = Is 1 (up 1 ∷ [])
  FormalDsat (pk_h key) = Is 2 (up 1 ∷ up 0 ∷ up 1 ∷ down 2 ∷ [])
  FormalDsat (older n) = Never
  FormalDsat (after n) = Never
  FormalDsat (hash kind value) = Is 1 (up 1 ∷ up 1 ∷ down 2 ∷ up 0 ∷ up 1 ∷ down 1 ∷ [])
  FormalDsat (and_or x y z) = Then (Followed (FormalDsat x) (down 1 ∷ [])) (FormalDsat z)
  FormalDsat (two kind.AndV x y) = Never
  FormalDsat (two kind.AndB x y) = Followed (Then (FormalDsat x) (FormalDsat y)) (down 1 ∷ [])
  FormalDsat (two kind.OrB x z) = Followed (Then (FormalDsat x) (FormalDsat z)) (down 1 ∷ [])
  FormalDsat (two kind.OrC x z) = Never
  FormalDsat (two kind.OrD x z) = Then (Followed (FormalDsat x) (up 0 ∷ down 1 ∷ [])) (FormalDsat z)
  FormalDsat (two kind.OrI x z) = Either (Then (Is 1 (down 1 ∷ [])) (FormalDsat x)) (Then (Is 1 (down 1 ∷ [])) (FormalDsat z))
  FormalDsat (thresh k xs) = Followed (FormalParts [] xs 0) (up 1 ∷ down 1 ∷ [])
  FormalDsat (multi k keys) = Is (k + 1) (replicate (length keys + 2) (up 1) ++ down (length keys + k + 2) ∷ [])
  FormalDsat (wrap wrapper.A x) = Then (Is 0 (up 0 ∷ [])) (Followed (FormalDsat x) (up 0 ∷ []))
  FormalDsat (wrap wrapper.S x) = Then (Is 0 (up 0 ∷ [])) (FormalDsat x)
  FormalDsat (wrap wrapper.C x) = Followed (FormalDsat x) (down 1 ∷ [])
  FormalDsat (wrap wrapper.D x) = Is 1 (up 1 ∷ down 1 ∷ [])
  FormalDsat (wrap wrapper.V x) = Never
  FormalDsat (wrap wrapper.J x) = Is 1 (up 1 ∷ up 0 ∷ down 1 ∷ [])
  FormalDsat (wrap wrapper.N x) = Followed (FormalDsat x) (up 0 ∷ [])

  pub FormalParts : (first : Course) → Trees → (satisfied : ℕ) → Way → Type 0
  FormalParts first none zero = Is 0 []
  FormalParts first none (suc k) = Never
  FormalParts first (more x xs) zero = Then (Followed (FormalDsat x) first) (FormalParts (down 1 ∷ []) xs zero)
  FormalParts first (more x xs) (suc k) =
      Either (Then (Followed (FormalSat x) first) (FormalParts (down 1 ∷ []) xs k)) (Then (Followed (FormalDsat x) first) (FormalParts (down 1 ∷ []) xs (suc k)))
