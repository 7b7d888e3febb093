-- The computed rise is the greatest running total.
use Rattle.std.proofs.Common.{◌≡◌, ℕ, zero, suc, ◌-◌, ◌<◌, ◌≤◌, ◌⊎◌, [], ◌∷◌, take, refl, inl, inr, arith}
use Rattle.std.specs.Prelude.{pos, ◌≤ℤ◌}
use Rattle.std.proofs.lemmas.Bool.{cases_lt}
use Rattle.std.proofs.lemmas.Int.{ints}
use Rattle.def_height.specs.Course.{up, down, Course, rise}
use Rattle.def_height.specs.Total.{total}
use Rattle.def_height.specs.Laws.{RiseIsGreatest}

below : (course : Course) (n : ℕ) → total (take n course) ≤ℤ pos (rise course)
below course zero = omega (arith, ints)
below [] (suc n) = omega (arith, ints)
below (up k ∷ rest) (suc n) = let h = below rest n in omega (arith, ints)
below (down k ∷ rest) (suc n) = let h = below rest n in omega (arith, ints)

reached : (course : Course) → (n : ℕ) × (total (take n course) ≡ pos (rise course))
reached [] = (0, refl)
reached (up k ∷ rest) = let h = reached rest in (suc h.0, let e : total (take h.0 rest) ≡ pos (rise rest) = h.1 in omega (arith, ints))
reached (down k ∷ rest) = go (cases_lt (rise rest) k) (reached rest)
  where
    go : (rise rest < k) ⊎ (k ≤ rise rest) → (n : ℕ) × (total (take n rest) ≡ pos (rise rest)) → (n : ℕ) × (total (take n (down k ∷ rest)) ≡ pos (rise rest - k))
    go (inl less) h = (0, omega (arith, ints))
    go (inr more) h = (suc h.0, let e : total (take h.0 rest) ≡ pos (rise rest) = h.1 in omega (arith, ints))

pub rise_is_greatest : RiseIsGreatest
rise_is_greatest course = record { is_reached = reached course; is_greatest = below course }
