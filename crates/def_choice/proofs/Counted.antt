-- The first of least weight over all sets: those with the first position, and those without it.
use Rattle.std.proofs.Common.{◌≡◌, ℕ, zero, suc, ◌+◌, List, [], ◌∷◌, ◌++◌, map, Option, Some, None, refl, sym, ◌∙◌, ap, subst, inl, inr, arith}
use Rattle.std.specs.Option.{option_map}
use Rattle.std.proofs.lemmas.Bool.Decides.{nat_tests}
use Rattle.std.proofs.lemmas.List.{map-append}
use Rattle.def_machine.specs.Stacks.{Stack}
use Rattle.def_script.specs.Witness.{weight}
use Rattle.def_satisfaction.specs.StackSet.{StackSet, Both, Either}
use Rattle.def_satisfaction.specs.Rows.{Row, PartsOf}
use Rattle.def_choice.specs.Sets.{sets}
use Rattle.def_choice.specs.Least.{both, lighter, least}
use Rattle.def_choice.specs.Lightest.{IsLightest}
use Rattle.def_choice.specs.Cheapest.{Child, stack_of}
use Rattle.def_choice.proofs.Weights.{weight-append}
use Rattle.def_choice.proofs.Best.{best_as, best_both, best_lighter}

-- the lighter of three, joined either way
lighter-assoc : (a b c : Option Stack) → lighter (lighter a b) c ≡ lighter a (lighter b c)
lighter-assoc a b c = grind (arith, nat_tests)

pub least-append : (xs ys : List (Option Stack)) → least (xs ++ ys) ≡ lighter (least xs) (least ys)
least-append [] ys = refl
least-append (x ∷ xs) ys = ap (lighter x) (least-append xs ys) ∙ sym (lighter-assoc x (least xs) (least ys))

-- the same weight is added to each
lighter-map : (g : Stack → Stack) (c : ℕ) → ((v : Stack) → weight (g v) ≡ weight v + c) → (a b : Option Stack) →
    lighter (option_map g a) (option_map g b) ≡ option_map g (lighter a b)
lighter-map g c adds a b = grind (arith, nat_tests, adds)

module _ {A : Type 0} where
  least-map : (g : Stack → Stack) (c : ℕ) → ((v : Stack) → weight (g v) ≡ weight v + c) → (f : A → Option Stack) (xs : List A) →
      least (map (λ x. option_map g (f x)) xs) ≡ option_map g (least (map f xs))
  least-map g c adds f [] = refl
  least-map g c adds f (x ∷ xs) =
      ap (lighter (option_map g (f x))) (least-map g c adds f xs) ∙ lighter-map g c adds (f x) (least (map f xs))

  -- none on either side
  least-none : (xs : List A) → least (map (λ x. None) xs) ≡ None
  least-none [] = refl
  least-none (x ∷ xs) = least-none xs

  least-same : (f g : A → Option Stack) → ((x : A) → f x ≡ g x) → (xs : List A) → least (map f xs) ≡ least (map g xs)
  least-same f g same [] = refl
  least-same f g same (x ∷ xs) = ap (λ o. lighter o (least (map f xs))) (same x) ∙ ap (lighter (g x)) (least-same f g same xs)

  pub least-map_map : {B : Type 0} (f : B → Option Stack) (g : A → B) (xs : List A) → least (map f (map g xs)) ≡ least (map (λ x. f (g x)) xs)
  least-map_map f g [] = refl
  least-map_map f g (x ∷ xs) = ap (lighter (f (g x))) (least-map_map f g xs)

pub both-none : (a : Option Stack) → both a None ≡ None
both-none None = refl
both-none (Some v) = refl

both-above : (a : Option Stack) (d : Stack) → both a (Some d) ≡ option_map (λ v. d ++ v) a
both-above None d = refl
both-above (Some v) d = refl

both-below : (d : Stack) (a : Option Stack) → both (Some d) a ≡ option_map (λ v. v ++ d) a
both-below d None = refl
both-below d (Some v) = refl

-- the same stack on top of each, and below each
pub least-above : {A : Type 0} (f : A → Option Stack) (d : Option Stack) (xs : List A) → least (map (λ x. both (f x) d) xs) ≡ both (least (map f xs)) d
least-above f None xs = least-same _ _ (λ x. both-none (f x)) xs ∙ least-none xs ∙ sym (both-none (least (map f xs)))
least-above f (Some d) xs =
    least-same _ _ (λ x. both-above (f x) d) xs ∙
    least-map (λ v. d ++ v) (weight d) (λ v. let h = weight-append d v in omega (arith, h)) f xs ∙
    sym (both-above (least (map f xs)) d)

pub least-below : {A : Type 0} (d : Option Stack) (f : A → Option Stack) (xs : List A) → least (map (λ x. both d (f x)) xs) ≡ both d (least (map f xs))
least-below None f xs = least-none xs
least-below (Some d) f xs =
    least-same _ _ (λ x. both-below d (f x)) xs ∙
    least-map (λ v. v ++ d) (weight d) (λ v. weight-append v d) f xs ∙
    sym (both-below d (least (map f xs)))

-- the choice among several, from that of the first and those of the others
abbrev pub counted : (sat dsat : Option Stack) → (ℕ → Option Stack) → ℕ → Option Stack
counted sat dsat others zero = both (others zero) dsat
counted sat dsat others (suc k) = lighter (both (others k) sat) (both (others (suc k)) dsat)

pub least_counted : (c : Child) (cs : List Child) (n k : ℕ) →
    least (map (stack_of (c ∷ cs)) (sets (suc n) k)) ≡ counted c.sat c.dsat (λ j. least (map (stack_of cs) (sets n j))) k
least_counted c cs n zero = simp (least-map_map, least-above)
least_counted c cs n (suc k) = simp (map-append, least-append, least-map_map, least-above)

suc_same : (m n : ℕ) → suc m ≡ suc n → m ≡ n
suc_same m n h = cc

pub counted_best : (x : Row) (others : ℕ → StackSet) (sat dsat : Option Stack) (choice : ℕ → Option Stack) →
    IsLightest x.sat sat → IsLightest x.dsat dsat → ((n : ℕ) → IsLightest (others n) (choice n)) →
    (n : ℕ) → IsLightest (PartsOf x others n) (counted sat dsat choice n)
counted_best x others sat dsat choice p q r zero =
    best_as (Both (others zero) x.dsat) (PartsOf x others zero) (both (choice zero) dsat)
    (λ w h. inr h) (λ w h. elim h [ inl i ↦ absurd (omega (arith, i.1)) | inr i ↦ i ])
    (best_both (others zero) x.dsat (choice zero) dsat (r zero) q)
counted_best x others sat dsat choice p q r (suc n) =
    best_as (Either (Both (others n) x.sat) (Both (others (suc n)) x.dsat)) (PartsOf x others (suc n)) _
    (λ w h. elim h [ inl i ↦ inl (n, refl, i) | inr i ↦ inr i ])
    (λ w h. elim h [ inl i ↦ inl (subst (λ j. Both (others j) x.sat w) (sym (suc_same n i.0 i.1)) i.2) | inr i ↦ inr i ])
    (best_lighter _ _ _ _
    (best_both (others n) x.sat (choice n) sat (r n) p)
    (best_both (others (suc n)) x.dsat (choice (suc n)) dsat (r (suc n)) q))
