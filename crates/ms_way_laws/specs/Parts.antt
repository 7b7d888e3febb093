-- Parts that have nothing in common, and the least sets with which so many of them hold.
use Rattle.std.specs.Prelude.{◌≡◌, ◌⊎◌, ⊤, ℕ, suc, ◌+◌, ◌≤◌, Bool, true, false, List, [], ◌∷◌, if◌then◌else◌}

-- a part of a condition: which sets are sets of it, the empty one, and with which it holds
pub record Part (A : Type 0) : Type 0 where
  pub fits : A → Bool
  pub nothing : A
  pub holds : A → Bool

-- the sets of a part are ordered by what they have: the empty one has least, and with more it still holds
pub record IsPart (A : Type 0) (IsWithin : A → A → Type 0) (x : Part A) : Type 0 where
  pub empty : x.fits x.nothing ≡ true
  pub least : (a : A) → x.fits a ≡ true → IsWithin x.nothing a
  pub only : (a : A) → x.fits a ≡ true → IsWithin a x.nothing → a ≡ x.nothing
  pub more : (a b : A) → x.fits a ≡ true → x.fits b ≡ true → IsWithin a b → x.holds a ≡ true → x.holds b ≡ true

-- a least set of a part
pub record IsLeast (A : Type 0) (IsWithin : A → A → Type 0) (x : Part A) (a : A) : Type 0 where
  pub fits : x.fits a ≡ true
  pub holds : x.holds a ≡ true
  pub least : (b : A) → x.fits b ≡ true → x.holds b ≡ true → IsWithin b a → b ≡ a

abbrev pub AreParts : (A : Type 0) (IsWithin : A → A → Type 0) → List (Part A) → Type 0
AreParts A IsWithin [] = ⊤
AreParts A IsWithin (x ∷ xs) = IsPart A IsWithin x × AreParts A IsWithin xs

-- a set of each part
abbrev pub Fit : {A : Type 0} → List (Part A) → List A → Type 0
Fit [] [] = ⊤
Fit [] (a ∷ ss) = ⊥
Fit (x ∷ xs) [] = ⊥
Fit (x ∷ xs) (a ∷ ss) = (x.fits a ≡ true) × Fit xs ss

-- of each part no more
abbrev pub AreWithin : (A : Type 0) (IsWithin : A → A → Type 0) → List A → List A → Type 0
AreWithin A IsWithin [] [] = ⊤
AreWithin A IsWithin [] (b ∷ ts) = ⊥
AreWithin A IsWithin (a ∷ ss) [] = ⊥
AreWithin A IsWithin (a ∷ ss) (b ∷ ts) = IsWithin a b × AreWithin A IsWithin ss ts

abbrev pub one : Bool → ℕ
one b = if b then 1 else 0

-- how many parts hold
abbrev pub so_many : {A : Type 0} → List (Part A) → List A → ℕ
so_many [] ss = 0
so_many (x ∷ xs) [] = 0
so_many (x ∷ xs) (a ∷ ss) = one (x.holds a) + so_many xs ss

-- how many hold with nothing
abbrev pub free : {A : Type 0} → List (Part A) → ℕ
free [] = 0
free (x ∷ xs) = one (x.holds x.nothing) + free xs

-- sets of parts that are least with n of them
pub record AreLeast (A : Type 0) (IsWithin : A → A → Type 0) (n : ℕ) (xs : List (Part A)) (ss : List A) : Type 0 where
  pub fit : Fit xs ss
  pub hold : n ≤ so_many xs ss
  pub least : (ts : List A) → Fit xs ts → n ≤ so_many xs ts → AreWithin A IsWithin ts ss → ts ≡ ss

-- n of the parts that don't hold with nothing, and a least set of each of these; of the others nothing
abbrev pub Chosen : (A : Type 0) (IsWithin : A → A → Type 0) → (n : ℕ) → List (Part A) → List A → Type 0
Chosen A IsWithin n [] [] = n ≡ 0
Chosen A IsWithin n [] (a ∷ ss) = ⊥
Chosen A IsWithin n (x ∷ xs) [] = ⊥
Chosen A IsWithin n (x ∷ xs) (a ∷ ss) =
    ((x.holds x.nothing ≡ false) × IsLeast A IsWithin x a × ((m : ℕ) × (n ≡ suc m) × Chosen A IsWithin m xs ss))
    ⊎ ((a ≡ x.nothing) × Chosen A IsWithin n xs ss)

-- ---- settings

-- settings, in which what holds holds in later ones too, and of which each that is earlier than another one is no later
-- than one just below that
pub record AreSettings (S A : Type 0) (IsEarlier : S → S → Type 0) (IsJustBelow : S → S → Type 0) (IsWithin : A → A → Type 0) (holds : S → A → Bool) : Type 0 where
  pub same : (s : S) → IsEarlier s s
  pub within : (a : A) → IsWithin a a
  pub earlier : (s t : S) → IsJustBelow s t → IsEarlier s t
  pub other : (s t : S) → IsJustBelow s t → s ≡ t → ⊥
  pub steps : (s t : S) → IsEarlier s t → (s ≡ t) ⊎ ((u : S) × IsEarlier s u × IsJustBelow u t)
  pub more : (s t : S) (a b : A) → IsEarlier s t → IsWithin a b → holds s a ≡ true → holds t b ≡ true

-- in no other setting that is no later does a set within this one hold, but this one here
abbrev pub IsLeastOfAll : (S A : Type 0) → (S → S → Type 0) → (A → A → Type 0) → (S → A → Bool) → S → A → Type 0
IsLeastOfAll S A IsEarlier IsWithin holds s a =
    (holds s a ≡ true) ×
    ((t : S) (b : A) → IsEarlier t s → IsWithin b a → holds t b ≡ true → (t ≡ s) × (b ≡ a))

-- it is least in its setting, and in none just below does it hold
abbrev pub IsLeastHere : (S A : Type 0) → (S → S → Type 0) → (A → A → Type 0) → (S → A → Bool) → S → A → Type 0
IsLeastHere S A IsJustBelow IsWithin holds s a =
    (holds s a ≡ true) ×
    ((b : A) → IsWithin b a → holds s b ≡ true → b ≡ a) ×
    ((t : S) → IsJustBelow t s → holds t a ≡ false)
