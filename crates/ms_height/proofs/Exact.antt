-- With exactly so many children satisfied: as many free ones as are wanted beside the forced ones.
use Rattle.std.proofs.Common.{◌≡◌, ℕ, zero, suc, ◌+◌, ◌<◌, ◌⊎◌, inl, inr, List, [], ◌∷◌, Option, Some, None, refl, ◌∙◌, ap, arith}
use Rattle.def_height.specs.declared.Highest.{Highest}
use Rattle.def_height.specs.Scaffolding.Highest.{both, either, counted}
use Rattle.ms_height.specs.declared.highest.Heights.{Heights}
use Rattle.ms_height.specs.Scaffolding.Chosen.{chosen, with_child, bounded, forced_by, stuck_by, free_by, forced, stuck, free}
use Rattle.ms_height.proofs.Choices.{none_either}

-- there is none with fewer than the forced ones
pub chosen_low : (l : ℕ) (cs : List Heights) (k : ℕ) → k < forced cs → chosen l cs k ≡ None
chosen_low l [] k low = absurd (omega (arith, low))
chosen_low l (c ∷ cs) k low = go c.sat c.dsat k low (λ n f. chosen_low 0 cs n f)
  where
    go : (s d : Option Highest) (k : ℕ) → k < forced_by s d + forced cs → ((n : ℕ) → n < forced cs → chosen 0 cs n ≡ None) → counted l s d (chosen 0 cs) k ≡ None
    go None None zero f ih = refl
    go None None (suc k) f ih = refl
    go None (Some d) zero f ih = ap (both l (Some d)) (ih zero (omega (arith, f)))
    go None (Some d) (suc k) f ih = ap (both l (Some d)) (ih (suc k) (omega (arith, f)))
    go (Some s) None zero f ih = refl
    go (Some s) None (suc k) f ih = ap (λ o. either (both l (Some s) o) None) (ih k (omega (arith, f)))
    go (Some s) (Some d) zero f ih = ap (both l (Some d)) (ih zero (omega (arith, f)))
    go (Some s) (Some d) (suc k) f ih =
        ap (λ o. either (both l (Some s) o) (both l (Some d) (chosen 0 cs (suc k)))) (ih k (omega (arith, f))) ∙ ap (both l (Some d)) (ih (suc k) (omega (arith, f)))

-- nor with more than the forced and the free ones
pub chosen_high : (l : ℕ) (cs : List Heights) (k : ℕ) → forced cs + free cs < k → chosen l cs k ≡ None
chosen_high l [] zero high = absurd (omega (arith, high))
chosen_high l [] (suc k) high = refl
chosen_high l (c ∷ cs) k high = go c.sat c.dsat k high (λ n f. chosen_high 0 cs n f)
  where
    go : (s d : Option Highest) (k : ℕ) → (forced_by s d + forced cs) + (free_by s d + free cs) < k → ((n : ℕ) → forced cs + free cs < n → chosen 0 cs n ≡ None) → counted l s d (chosen 0 cs) k ≡ None
    go s d zero f ih = absurd (omega (arith, f))
    go None None (suc k) f ih = refl
    go None (Some d) (suc k) f ih = ap (both l (Some d)) (ih (suc k) (omega (arith, f)))
    go (Some s) None (suc k) f ih = ap (λ o. either (both l (Some s) o) None) (ih k (omega (arith, f)))
    go (Some s) (Some d) (suc k) f ih =
        ap (λ o. either (both l (Some s) o) (both l (Some d) (chosen 0 cs (suc k)))) (ih k (omega (arith, f))) ∙ ap (both l (Some d)) (ih (suc k) (omega (arith, f)))

-- nor beside a stuck one
pub chosen_stuck : (l : ℕ) (cs : List Heights) (k : ℕ) → 0 < stuck cs → chosen l cs k ≡ None
chosen_stuck l [] k some = absurd (omega (arith, some))
chosen_stuck l (c ∷ cs) k some = go c.sat c.dsat k some (λ n f. chosen_stuck 0 cs n f)
  where
    go : (s d : Option Highest) (k : ℕ) → 0 < stuck_by s d + stuck cs → ((n : ℕ) → 0 < stuck cs → chosen 0 cs n ≡ None) → counted l s d (chosen 0 cs) k ≡ None
    go None None zero f ih = refl
    go None None (suc k) f ih = refl
    go None (Some d) zero f ih = ap (both l (Some d)) (ih zero (omega (arith, f)))
    go None (Some d) (suc k) f ih = ap (both l (Some d)) (ih (suc k) (omega (arith, f)))
    go (Some s) None zero f ih = refl
    go (Some s) None (suc k) f ih = ap (λ o. either (both l (Some s) o) None) (ih k (omega (arith, f)))
    go (Some s) (Some d) zero f ih = ap (both l (Some d)) (ih zero (omega (arith, f)))
    go (Some s) (Some d) (suc k) f ih =
        ap (λ o. either (both l (Some s) o) (both l (Some d) (chosen 0 cs (suc k)))) (ih k (omega (arith, f))) ∙ ap (both l (Some d)) (ih (suc k) (omega (arith, f)))

-- with the forced ones and t of the free ones, where u of these are left out
pub chosen_exact : (l : ℕ) (cs : List Heights) (k t u : ℕ) → k ≡ forced cs + t → t + u ≡ free cs → chosen l cs k ≡ bounded l cs t u
chosen_exact l [] zero t u is all = refl
chosen_exact l [] (suc k) t u is all = absurd (omega (arith, is, all))
chosen_exact l (c ∷ cs) k t u is all = go c.sat c.dsat k t u is all (λ a b d e f. chosen_exact 0 cs a b d e f) (chosen_low 0 cs) (chosen_high 0 cs)
  where
    go : (s d : Option Highest) (k t u : ℕ) → k ≡ (forced_by s d + forced cs) + t → t + u ≡ free_by s d + free cs
        → ((k t u : ℕ) → k ≡ forced cs + t → t + u ≡ free cs → chosen 0 cs k ≡ bounded 0 cs t u)
        → ((n : ℕ) → n < forced cs → chosen 0 cs n ≡ None) → ((n : ℕ) → forced cs + free cs < n → chosen 0 cs n ≡ None)
        → counted l s d (chosen 0 cs) k ≡ with_child l s d (bounded 0 cs) t u
    go None None zero t u f g ih low high = refl
    go None None (suc k) t u f g ih low high = refl
    go None (Some d) zero t u f g ih low high = ap (both l (Some d)) (ih zero t u (omega (arith, f)) (omega (arith, g)))
    go None (Some d) (suc k) t u f g ih low high = ap (both l (Some d)) (ih (suc k) t u (omega (arith, f)) (omega (arith, g)))
    go (Some s) None zero t u f g ih low high = absurd (omega (arith, f))
    go (Some s) None (suc k) t u f g ih low high = none_either (both l (Some s) (chosen 0 cs k)) ∙ ap (both l (Some s)) (ih k t u (omega (arith, f)) (omega (arith, g)))
    go (Some s) (Some d) k zero zero f g ih low high = absurd (omega (arith, g))
    go (Some s) (Some d) zero zero (suc u) f g ih low high = ap (both l (Some d)) (ih zero zero u (omega (arith, f)) (omega (arith, g)))
    go (Some s) (Some d) zero (suc t) u f g ih low high = absurd (omega (arith, f))
    go (Some s) (Some d) (suc k) zero (suc u) f g ih low high =
        ap (λ o. either (both l (Some s) o) (both l (Some d) (chosen 0 cs (suc k)))) (low k (omega (arith, f))) ∙ ap (both l (Some d)) (ih (suc k) zero u (omega (arith, f)) (omega (arith, g)))
    go (Some s) (Some d) (suc k) (suc t) zero f g ih low high =
        ap (λ o. either (both l (Some s) (chosen 0 cs k)) (both l (Some d) o)) (high (suc k) (omega (arith, f, g)))
        ∙ ap (λ o. either (both l (Some s) o) None) (ih k t zero (omega (arith, f)) (omega (arith, g)))
    go (Some s) (Some d) (suc k) (suc t) (suc u) f g ih low high =
        ap (λ o. either (both l (Some s) o) (both l (Some d) (chosen 0 cs (suc k)))) (ih k t (suc u) (omega (arith, f)) (omega (arith, g))) ∙
        ap (λ o. either (both l (Some s) (bounded 0 cs t (suc u))) (both l (Some d) o)) (ih (suc k) (suc t) u (omega (arith, f)) (omega (arith, g)))

-- there is none in either case
pub chosen_none : (l : ℕ) (cs : List Heights) (k : ℕ) → (0 < stuck cs) ⊎ ((k < forced cs) ⊎ (forced cs + free cs < k)) → chosen l cs k ≡ None
chosen_none l cs k (inl some) = chosen_stuck l cs k some
chosen_none l cs k (inr (inl low)) = chosen_low l cs k low
chosen_none l cs k (inr (inr high)) = chosen_high l cs k high
