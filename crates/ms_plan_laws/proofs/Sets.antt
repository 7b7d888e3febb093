-- Which of two options is taken; and that the set that is taken is one of those that are listed, and its stack is the choice.
use Rattle.std.proofs.Common.{◌≡◌, Bool, true, false, [], ◌∷◌, ◌++◌, Option, Some, None, refl, sym, ap, ◌⊎◌, inl, inr, ℕ, zero, suc, List, length, map, filter, All, arith}
use Rattle.std.proofs.lemmas.List.Elements.{All-nil, All-cons, All-head, All-tail, All-append, All-map, All-filter, filter_passes}
use Rattle.std.proofs.lemmas.Option.{none-some, same_Some}
use Rattle.def_script.specs.Bytes.{Bytes}
use Rattle.def_machine.specs.Stacks.{Stack}
use Rattle.def_choice.specs.Least.{item, both, lighter, least}
use Rattle.def_choice.specs.Strict.{free_first}
use Rattle.def_choice.proofs.Best.{lighter-none}
use Rattle.def_plan.specs.Taken.{is_former, takes_former, set_taken}
use Rattle.def_choice.specs.Sets.{sets}

-- the former is taken, and is this stack; or the latter
abbrev pub Taken : (former : Bool) → (option_1 option_2 : Option Stack) → Stack → Type 0
Taken former option_1 option_2 w = ((former ≡ true) × (option_1 ≡ Some w)) ⊎ ((former ≡ false) × (option_2 ≡ Some w))

pub lighter_taken : (a b : Option Stack) (w : Stack) → lighter a b ≡ Some w → Taken (is_former a b) a b w
lighter_taken a b w h = grind arith

pub first_taken : (f g a b : Option Stack) (w : Stack) → free_first f g a b ≡ Some w → Taken (takes_former f g a b) a b w
first_taken f g a b w h = grind (arith, lighter_taken a b w, lighter-none b)

-- a stack on top of another
pub record Joined (a b : Option Stack) (w : Stack) : Type 0 where
  pub below : Stack
  pub above : Stack
  pub left : a ≡ Some below
  pub right : b ≡ Some above
  pub whole : w ≡ above ++ below

pub both_joined : (a b : Option Stack) (w : Stack) → both a b ≡ Some w → Joined a b w
both_joined None b w h = absurd (none-some w h)
both_joined (Some x) None w h = absurd (none-some w h)
both_joined (Some x) (Some y) w h = record { below = x; above = y; left = refl; right = refl; whole = sym (same_Some (y ++ x) w h) }

pub item_is : (o : Option Bytes) (w : Stack) → item o ≡ Some w → (bytes : Bytes) × (o ≡ Some bytes) × (w ≡ bytes ∷ [])
item_is None w h = absurd (none-some w h)
item_is (Some x) w h = (x, refl, sym (same_Some (x ∷ []) w h))

pub each-filter : {A : Type 0} (P : A → Type 0) (test : A → Bool) (xs : List A) → All P xs → All (λ x. P x × (test x ≡ true)) (filter test xs)
each-filter P test xs h i d below = (All-filter test P xs h i d below, filter_passes test xs i d below)

-- how many positions are chosen
abbrev pub ones : List Bool → ℕ
ones [] = 0
ones (true ∷ set) = suc (ones set)
ones (false ∷ set) = ones set

abbrev pub IsSet : (n k : ℕ) → List Bool → Type 0
IsSet n k set = (length set ≡ n) × (ones set ≡ k)

pub sets_are : (n k : ℕ) → All (IsSet n k) (sets n k)
sets_are zero zero = All-cons (IsSet zero zero) [] [] (refl, refl) (All-nil (IsSet zero zero))
sets_are zero (suc k) = All-nil (IsSet zero (suc k))
sets_are (suc n) zero = All-map (IsSet (suc n) zero) (λ set. false ∷ set) (sets n zero) (λ i d below. let h = sets_are n zero i d below in (ap suc h.0, h.1))
sets_are (suc n) (suc k) =
    All-append (IsSet (suc n) (suc k)) _ _
    (All-map (IsSet (suc n) (suc k)) (λ set. true ∷ set) (sets n k) (λ i d below. let h = sets_are n k i d below in (ap suc h.0, ap suc h.1)))
    (All-map (IsSet (suc n) (suc k)) (λ set. false ∷ set) (sets n (suc k)) (λ i d below. let h = sets_are n (suc k) i d below in (ap suc h.0, h.1)))

-- what is taken of sets
pub set_is_taken : (P : List Bool → Type 0) (f : List Bool → Option Stack) (xs : List (List Bool)) → All P xs → (w : Stack) → least (map f xs) ≡ Some w →
    P (set_taken f xs) × (f (set_taken f xs) ≡ Some w)
set_is_taken P f [] each w h = absurd (none-some w h)
set_is_taken P f (x ∷ xs) each w h =
    elim (lighter_taken (f x) (least (map f xs)) w h) [
      | inl t ↦ rw t.0 (All-head P x xs each, t.1)
      | inr t ↦ rw t.0 (set_is_taken P f xs (All-tail P x xs each) w t.1)
    ]
