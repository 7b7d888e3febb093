-- Slots that keep what children take, child by child.
use Rattle.std.proofs.Common.{◌≡◌, ℕ, zero, suc, ◌+◌, ◌<◌, ◌≤◌, ◌⊎◌, List, [], ◌∷◌, length, get_or, set, Option, refl, ◌∙◌, ap, subst, inl, inr, arith}
use Rattle.std.proofs.lemmas.Bool.{cases_lt}
use Rattle.std.proofs.lemmas.List.{get_or-set_same, get_or-set_other, get_or_read}
use Rattle.def_height.specs.declared.Highest.{Highest}
use Rattle.def_height.specs.Scaffolding.Highest.{highest_sat, highest_dsat}
use Rattle.ms_tree.specs.declared.tree.Tree.{Tree}
use Rattle.ms_tree.specs.Shape.{shape, shapes}
use Rattle.ms_choice.specs.declared.slot.Slot.{Slot}
use Rattle.ms_height.specs.declared.highest.Heights.{Heights}
use Rattle.ms_height.specs.Scaffolding.Kept.{kept_in, blank, heights_in, heights_of}

pub length_in : (sats dsats : List Slot) → length dsats ≡ length sats → length (heights_in sats dsats) ≡ length sats
length_in [] dsats same = refl
length_in (s ∷ ss) [] same = absurd (omega (arith, same))
length_in (s ∷ ss) (d ∷ ds) same = omega (arith, length_in ss ds (omega (arith, same)))

-- one child
pub heights_at : (sats dsats : List Slot) (i : ℕ) (s d : Slot) (h : Heights) → i < length sats → i < length dsats
    → record { sat = kept_in (get_or sats i s); dsat = kept_in (get_or dsats i d) } ≡ get_or (heights_in sats dsats) i h
heights_at [] dsats i s d h below beneath = absurd (omega (arith, below))
heights_at (x ∷ xs) [] i s d h below beneath = absurd (omega (arith, beneath))
heights_at (x ∷ xs) (y ∷ ys) zero s d h below beneath = refl
heights_at (x ∷ xs) (y ∷ ys) (suc i) s d h below beneath = heights_at xs ys i s d h (omega (arith, below)) (omega (arith, beneath))

-- the first n children are kept
pub record KeptUpto (xs : List Tree) (n : ℕ) (sats dsats : List Slot) : Type 0 where
  pub sat : (i : ℕ) (d : Tree) → i < n → kept_in (get_or sats i blank) ≡ highest_sat (shape (get_or xs i d))
  pub dsat : (i : ℕ) (d : Tree) → i < n → kept_in (get_or dsats i blank) ≡ highest_dsat (shape (get_or xs i d))

-- of one kind, with one child more
more_kept : (f : Tree → Option Highest) (xs : List Tree) (n : ℕ) (x : Tree) (slots : List Slot) (s : Slot) → n < length xs → n < length slots → x ≡ get_or xs n x → kept_in s ≡ f x
    → ((i : ℕ) (d : Tree) → i < n → kept_in (get_or slots i blank) ≡ f (get_or xs i d))
    → (i : ℕ) (d : Tree) → i < n + 1 → kept_in (get_or (set slots n s) i blank) ≡ f (get_or xs i d)
more_kept f xs n x slots s below inside at is told i d less = go (cases_lt i n)
  where
    go : (i < n) ⊎ (n ≤ i) → kept_in (get_or (set slots n s) i blank) ≡ f (get_or xs i d)
    go (inl before) = ap kept_in (get_or-set_other slots n i s blank (λ same. absurd (omega (arith, same, before)))) ∙ told i d before
    go (inr last) =
        let same : n ≡ i = omega (arith, last, less) in
        subst (λ (j : ℕ). kept_in (get_or (set slots n s) j blank) ≡ f (get_or xs j d)) same
        (ap kept_in (get_or-set_same slots n s blank inside) ∙ is ∙ ap f (get_or_read xs n x below at d))

pub kept_more : (xs : List Tree) (n : ℕ) (x : Tree) (sats dsats : List Slot) (s d : Slot) → n < length xs → n < length sats → n < length dsats → x ≡ get_or xs n x
    → kept_in s ≡ highest_sat (shape x) → kept_in d ≡ highest_dsat (shape x) → KeptUpto xs n sats dsats → KeptUpto xs (n + 1) (set sats n s) (set dsats n d)
kept_more xs n x sats dsats s d below inside within at sat dsat told = record {
  sat = more_kept (λ t. highest_sat (shape t)) xs n x sats s below inside at sat told.sat;
  dsat = more_kept (λ t. highest_dsat (shape t)) xs n x dsats d below within at dsat told.dsat;
}

pub kept_all : (xs : List Tree) (n : ℕ) (sats dsats : List Slot) → length xs ≤ n → length sats ≡ length xs → length dsats ≡ length xs
    → KeptUpto xs n sats dsats → heights_in sats dsats ≡ heights_of (shapes xs)
kept_all [] n [] dsats all e f told = refl
kept_all [] n (s ∷ ss) dsats all e f told = absurd (omega (arith, e))
kept_all (x ∷ xs) n [] dsats all e f told = absurd (omega (arith, e))
kept_all (x ∷ xs) n (s ∷ ss) [] all e f told = absurd (omega (arith, f))
kept_all (x ∷ xs) zero (s ∷ ss) (d ∷ ds) all e f told = absurd (omega (arith, all))
kept_all (x ∷ xs) (suc n) (s ∷ ss) (d ∷ ds) all e f told =
    let rest : heights_in ss ds ≡ heights_of (shapes xs) =
    kept_all xs n ss ds (omega (arith, all)) (omega (arith, e)) (omega (arith, f))
    (record { sat = λ i y below. told.sat (suc i) y (omega (arith, below)); dsat = λ i y below. told.dsat (suc i) y (omega (arith, below)) }) in
    let sat : kept_in s ≡ highest_sat (shape x) = told.sat 0 x (omega arith) in
    let dsat : kept_in d ≡ highest_dsat (shape x) = told.dsat 0 x (omega arith) in
    λ i. record { sat = sat i; dsat = dsat i } ∷ rest i
