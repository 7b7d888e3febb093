-- A choice among the children of a threshold, by its bounds.
use Rattle.std.proofs.Common.{◌≡◌, ℕ, zero, suc, ◌+◌, ◌-◌, min, max, ◌<◌, ◌≤◌, ◌⊎◌, List, [], ◌∷◌, Option, Some, None, length, refl, sym, ◌∙◌, ap, inl, inr, arith}
use Rattle.std.proofs.lemmas.Bool.{cases_lt}
use Rattle.def_height.specs.declared.Highest.{Highest}
use Rattle.def_height.specs.Scaffolding.Highest.{only, both, either}
use Rattle.ms_height.specs.declared.highest.Heights.{Heights}
use Rattle.ms_height.specs.Scaffolding.Chosen.{fewer, with_child, bounded, stuck_by, free_by, base_by, more_sat, more_dsat, stuck, free, base, top, more_sats, more_dsats}
use Rattle.ms_height.specs.Scaffolding.Choice.{items_of, reach}
use Rattle.ms_height.specs.Scaffolding.Tops.{above}
use Rattle.ms_height.proofs.Tops.{top_all, top_grows}

same_highest : (a b c d : ℕ) → a ≡ c → b ≡ d → only a b ≡ only c d
same_highest a b c d e f = λ i. Some (record { items = e i; height = f i })

none_both : (l : ℕ) (o : Option Highest) → both l o None ≡ None
none_both l None = refl
none_both l (Some m) = refl

pub none_either : (o : Option Highest) → either o None ≡ o
none_either None = refl
none_either (Some m) = refl

-- the first of one, or of the other
both_either : (l : ℕ) (o p q : Option Highest) → both l o (either p q) ≡ either (both l o p) (both l o q)
both_either l None p q = refl
both_either l (Some m) None q = refl
both_either l (Some m) (Some p) None = refl
both_either l (Some m) (Some p) (Some q) = same_highest _ _ _ _ (omega arith) (omega arith)

swap_either : (o p q r : Option Highest) → either (either o p) (either q r) ≡ either (either o q) (either p r)
swap_either None p None r = refl
swap_either None None (Some q) r = refl
swap_either None (Some p) (Some q) None = same_highest _ _ _ _ (omega arith) (omega arith)
swap_either None (Some p) (Some q) (Some r) = same_highest _ _ _ _ (omega arith) (omega arith)
swap_either (Some o) None None r = refl
swap_either (Some o) (Some p) None None = refl
swap_either (Some o) (Some p) None (Some r) = same_highest _ _ _ _ (omega arith) (omega arith)
swap_either (Some o) None (Some q) None = refl
swap_either (Some o) None (Some q) (Some r) = same_highest _ _ _ _ (omega arith) (omega arith)
swap_either (Some o) (Some p) (Some q) None = same_highest _ _ _ _ (omega arith) (omega arith)
swap_either (Some o) (Some p) (Some q) (Some r) = same_highest _ _ _ _ (omega arith) (omega arith)

-- where there are fewer free children than bounds, one bound may be one less
abbrev One : (ℕ → ℕ → Option Highest) → (t u : ℕ) → Option Highest
One rest t u = either (fewer (λ n. rest n u) t) (fewer (rest t) u)

one_less : (l : ℕ) (cs : List Heights) (t u : ℕ) → free cs < t + u → One (bounded l cs) t u ≡ bounded l cs t u
one_less l [] zero zero few = absurd (omega (arith, few))
one_less l [] zero (suc u) few = refl
one_less l [] (suc t) zero few = refl
one_less l [] (suc t) (suc u) few = same_highest _ _ _ _ (omega arith) (omega arith)
one_less l (c ∷ cs) t u few = go c.sat c.dsat t u few (λ m n f. one_less 0 cs m n f)
  where
    lone : (o : Option Highest) (m n : ℕ) → One (bounded 0 cs) m n ≡ bounded 0 cs m n → One (λ i j. both l o (bounded 0 cs i j)) m n ≡ both l o (bounded 0 cs m n)
    lone o zero zero ih = sym (none_both l o) ∙ ap (both l o) ih
    lone o zero (suc n) ih = ap (both l o) ih
    lone o (suc m) zero ih = none_either (both l o (bounded 0 cs m zero)) ∙ ap (both l o) (sym (none_either (bounded 0 cs m zero)) ∙ ih)
    lone o (suc m) (suc n) ih = sym (both_either l o (bounded 0 cs m (suc n)) (bounded 0 cs (suc m) n)) ∙ ap (both l o) ih

    go : (s d : Option Highest) (m n : ℕ) → free_by s d + free cs < m + n → ((i j : ℕ) → free cs < i + j → One (bounded 0 cs) i j ≡ bounded 0 cs i j)
        → One (with_child l s d (bounded 0 cs)) m n ≡ with_child l s d (bounded 0 cs) m n
    go None None zero zero f ih = refl
    go None None zero (suc n) f ih = refl
    go None None (suc m) zero f ih = refl
    go None None (suc m) (suc n) f ih = refl
    go None (Some d) m n f ih = lone (Some d) m n (ih m n (omega (arith, f)))
    go (Some s) None m n f ih = lone (Some s) m n (ih m n (omega (arith, f)))
    go (Some s) (Some d) zero zero f ih = absurd (omega (arith, f))
    go (Some s) (Some d) zero (suc n) f ih = ap (λ o. both l (Some d) o) (ih zero n (omega (arith, f)))
    go (Some s) (Some d) (suc m) zero f ih =
        none_either (with_child l (Some s) (Some d) (bounded 0 cs) m zero) ∙
        ap (λ o. either (both l (Some s) o) None) (sym (none_either (fewer (λ n. bounded 0 cs n zero) m)) ∙ ih m zero (omega (arith, f)))
    go (Some s) (Some d) (suc m) (suc n) f ih =
        swap_either (both l (Some s) (fewer (λ i. bounded 0 cs i (suc n)) m)) (both l (Some d) (bounded 0 cs m n)) (both l (Some s) (bounded 0 cs m n))
        (both l (Some d) (fewer (bounded 0 cs (suc m)) n)) ∙
        ap (λ o. either o (either (both l (Some d) (bounded 0 cs m n)) (both l (Some d) (fewer (bounded 0 cs (suc m)) n))))
        (sym (both_either l (Some s) (fewer (λ i. bounded 0 cs i (suc n)) m) (bounded 0 cs m n)) ∙ ap (both l (Some s)) (ih m (suc n) (omega (arith, f)))) ∙
        ap (either (both l (Some s) (bounded 0 cs m (suc n))))
        (sym (both_either l (Some d) (bounded 0 cs m n) (fewer (bounded 0 cs (suc m)) n)) ∙ ap (both l (Some d)) (ih (suc m) n (omega (arith, f))))

-- the items of a choice
few_free : (cs : List Heights) → above 0 (more_sats cs) + above 0 (more_dsats cs) ≤ free cs
few_free [] = omega arith
few_free (c ∷ cs) = go c.sat c.dsat (few_free cs)
  where
    go : (s d : Option Highest) → above 0 (more_sats cs) + above 0 (more_dsats cs) ≤ free cs
        → above 0 (more_sat s d ∷ more_sats cs) + above 0 (more_dsat s d ∷ more_dsats cs) ≤ free_by s d + free cs
    go None d ih = omega (arith, ih)
    go (Some s) None ih = omega (arith, ih)
    go (Some s) (Some d) ih = omega (arith, ih)

-- one of two bounds is already more than enough
slack : (cs : List Heights) (t u : ℕ) → free cs ≤ suc (t + u) → (top t (more_sats cs) ≡ top (suc t) (more_sats cs)) ⊎ (top u (more_dsats cs) ≡ top (suc u) (more_dsats cs))
slack cs t u few = go (cases_lt t (above 0 (more_sats cs)))
  where
    go : (t < above 0 (more_sats cs)) ⊎ (above 0 (more_sats cs) ≤ t) → (top t (more_sats cs) ≡ top (suc t) (more_sats cs)) ⊎ (top u (more_dsats cs) ≡ top (suc u) (more_dsats cs))
    go (inl many) = inr (top_all u (more_dsats cs) (omega (arith, few, many, few_free cs)))
    go (inr fine) = inl (top_all t (more_sats cs) fine)

taken_items : (s d b p p' q q' : ℕ) → p ≤ p' → q ≤ q' → (p ≡ p') ⊎ (q ≡ q') →
    max (s + (b + p + q')) (d + (b + p' + q)) ≡ (min s d + b) + max ((s - d) + p) p' + max ((d - s) + q) q'
taken_items s d b p p' q q' i j (inl e) = omega (arith, i, j, e)
taken_items s d b p p' q q' i j (inr e) = omega (arith, i, j, e)

pub length_sats : (cs : List Heights) → length (more_sats cs) ≡ length cs
length_sats [] = refl
length_sats (c ∷ cs) = omega (arith, length_sats cs)

pub length_dsats : (cs : List Heights) → length (more_dsats cs) ≡ length cs
length_dsats [] = refl
length_dsats (c ∷ cs) = omega (arith, length_dsats cs)

-- a child that isn't free adds nothing
top_zero : (c : ℕ) (xs : List ℕ) → top c (0 ∷ xs) ≡ top c xs
top_zero zero xs = refl
top_zero (suc c) xs = omega (arith, top_grows c xs)

pub is_some : (l : ℕ) (cs : List Heights) (t u : ℕ) → stuck cs ≡ 0 → free cs ≤ t + u → (h : ℕ) × (bounded l cs t u ≡ only (items_of cs t u) h)
is_some l [] zero zero fine few = (0, refl)
is_some l [] zero (suc u) fine few = (0, refl)
is_some l [] (suc t) zero fine few = (0, refl)
is_some l [] (suc t) (suc u) fine few = (0, refl)
is_some l (c ∷ cs) t u fine few = go c.sat c.dsat t u fine few (λ m n f g. is_some 0 cs m n f g)
  where
    go : (s d : Option Highest) (t u : ℕ) → stuck_by s d + stuck cs ≡ 0 → free_by s d + free cs ≤ t + u
        → ((m n : ℕ) → stuck cs ≡ 0 → free cs ≤ m + n → (h : ℕ) × (bounded 0 cs m n ≡ only (items_of cs m n) h))
        → (h : ℕ) × (with_child l s d (bounded 0 cs) t u ≡ only ((base_by s d + base cs) + top t (more_sat s d ∷ more_sats cs) + top u (more_dsat s d ∷ more_dsats cs)) h)
    go None None t u f g ih = absurd (omega (arith, f))
    go None (Some d) t u f g ih =
        let r = ih t u (omega (arith, f)) (omega (arith, g)) in
        (max (d.height + items_of cs t u) (l + r.0), ap (both l (Some d)) r.1 ∙ same_highest _ _ _ _ (omega (arith, top_zero t (more_sats cs), top_zero u (more_dsats cs))) refl)
    go (Some s) None t u f g ih =
        let r = ih t u (omega (arith, f)) (omega (arith, g)) in
        (max (s.height + items_of cs t u) (l + r.0), ap (both l (Some s)) r.1 ∙ same_highest _ _ _ _ (omega (arith, top_zero t (more_sats cs), top_zero u (more_dsats cs))) refl)
    go (Some s) (Some d) zero zero f g ih = absurd (omega (arith, g))
    go (Some s) (Some d) zero (suc u) f g ih =
        let r = ih zero u (omega (arith, f)) (omega (arith, g)) in
        (max (d.height + items_of cs zero u) (l + r.0), ap (both l (Some d)) r.1 ∙ same_highest _ _ _ _ (omega (arith, top_all u (more_dsats cs) (omega (arith, g, few_free cs)))) refl)
    go (Some s) (Some d) (suc t) zero f g ih =
        let r = ih t zero (omega (arith, f)) (omega (arith, g)) in (
          max (s.height + items_of cs t zero) (l + r.0),
          none_either (both l (Some s) (bounded 0 cs t zero)) ∙ ap (both l (Some s)) r.1 ∙ same_highest _ _ _ _ (omega (arith, top_all t (more_sats cs) (omega (arith, g, few_free cs)))) refl,
        )
    go (Some s) (Some d) (suc t) (suc u) f g ih =
        let q = ih t (suc u) (omega (arith, f)) (omega (arith, g)) in
        let r = ih (suc t) u (omega (arith, f)) (omega (arith, g)) in (
          max (max (s.height + items_of cs t (suc u)) (l + q.0)) (max (d.height + items_of cs (suc t) u) (l + r.0)),
          ap (λ o. either (both l (Some s) o) (both l (Some d) (bounded 0 cs (suc t) u))) q.1 ∙
              ap (λ o. either (both l (Some s) (only (items_of cs t (suc u)) q.0)) (both l (Some d) o)) r.1 ∙
              same_highest _ _ _ _
              (taken_items s.items d.items (base cs) (top t (more_sats cs)) (top (suc t) (more_sats cs)) (top u (more_dsats cs)) (top (suc u) (more_dsats cs))
              (top_grows t (more_sats cs)) (top_grows u (more_dsats cs)) (slack cs t u (omega (arith, g))))
              refl,
        )

pub reach_at : (f : ℕ → ℕ) (bound : ℕ) → 0 < bound → reach f bound ≡ f (bound - 1)
reach_at f zero some = absurd (omega (arith, some))
reach_at f (suc n) some = let e : n ≡ suc n - 1 = omega arith in ap f e

height_at : (a b c d : ℕ) → only a b ≡ only c d → b ≡ d
height_at a b c d e = let same : record { items = a; height = b } ≡ record { items = c; height = d } = cc in ap (λ (x : Highest). x.height) same

-- a further child that is free, or that has to be one way
pub free_child : (l : ℕ) (s d : Highest) (cs : List Heights) (t u best : ℕ) → stuck cs ≡ 0 → free cs < t + u → bounded 0 cs t u ≡ only (items_of cs t u) best
    → with_child l (Some s) (Some d) (bounded 0 cs) t u ≡
    only (items_of (record { sat = Some s; dsat = Some d } ∷ cs) t u) (max (max (l + best) (reach (λ n. s.height + items_of cs n u) t)) (reach (λ n. d.height + items_of cs t n) u))
free_child l s d cs zero zero best fine few is = absurd (omega (arith, few))
free_child l s d cs zero (suc u) best fine few is =
    let r = is_some 0 cs zero u fine (omega (arith, few)) in
    let same : r.0 ≡ best = height_at _ _ _ _ (sym r.1 ∙ one_less 0 cs zero (suc u) few ∙ is) in
    ap (both l (Some d)) r.1 ∙ same_highest _ _ _ _ (omega (arith, top_all u (more_dsats cs) (omega (arith, few, few_free cs)))) (omega (arith, same))
free_child l s d cs (suc t) zero best fine few is =
    let r = is_some 0 cs t zero fine (omega (arith, few)) in
    let same : r.0 ≡ best = height_at _ _ _ _ (sym r.1 ∙ sym (none_either (bounded 0 cs t zero)) ∙ one_less 0 cs (suc t) zero few ∙ is) in
    none_either (both l (Some s) (bounded 0 cs t zero)) ∙ ap (both l (Some s)) r.1 ∙
    same_highest _ _ _ _ (omega (arith, top_all t (more_sats cs) (omega (arith, few, few_free cs)))) (omega (arith, same))
free_child l s d cs (suc t) (suc u) best fine few is =
    let q = is_some 0 cs t (suc u) fine (omega (arith, few)) in
    let r = is_some 0 cs (suc t) u fine (omega (arith, few)) in
    let same : max q.0 r.0 ≡ best =
    height_at _ _ _ _ (sym (ap (λ o. either o (bounded 0 cs (suc t) u)) q.1 ∙ ap (either (only (items_of cs t (suc u)) q.0)) r.1) ∙ one_less 0 cs (suc t) (suc u) few ∙ is) in
    ap (λ o. either (both l (Some s) o) (both l (Some d) (bounded 0 cs (suc t) u))) q.1 ∙
    ap (λ o. either (both l (Some s) (only (items_of cs t (suc u)) q.0)) (both l (Some d) o)) r.1 ∙
    same_highest _ _ _ _
    (taken_items s.items d.items (base cs) (top t (more_sats cs)) (top (suc t) (more_sats cs)) (top u (more_dsats cs)) (top (suc u) (more_dsats cs))
    (top_grows t (more_sats cs)) (top_grows u (more_dsats cs)) (slack cs t u (omega (arith, few))))
    (omega (arith, same))

pub fixed_child : (l : ℕ) (s : Highest) (cs : List Heights) (t u best : ℕ) → bounded 0 cs t u ≡ only (items_of cs t u) best
    → both l (Some s) (bounded 0 cs t u) ≡ only ((s.items + base cs) + top t (0 ∷ more_sats cs) + top u (0 ∷ more_dsats cs)) (max (s.height + items_of cs t u) (l + best))
fixed_child l s cs t u best is = ap (both l (Some s)) is ∙ same_highest _ _ _ _ (omega (arith, top_zero t (more_sats cs), top_zero u (more_dsats cs))) refl
