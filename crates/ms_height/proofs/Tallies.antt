-- The children of a threshold, counted one after the other.
use Rattle.std.proofs.Common.{◌≡◌, ℕ, suc, ◌+◌, ◌^◌, ◌<◌, ◌≤◌, max, ◌⊎◌, List, [], ◌∷◌, length, get_or, drop, Option, Some, None, sym, ◌∙◌, ap, subst, inl, inr, arith}
use Rattle.std.proofs.lemmas.Bool.{cases_lt}
use Rattle.std.proofs.lemmas.List.{drop_all, drop_more, get_or_read}
use Rattle.def_height.specs.declared.Highest.{Highest}
use Rattle.ms_height.specs.declared.highest.Heights.{Heights}
use Rattle.ms_height.specs.declared.tally.Tally.{Tally}
use Rattle.ms_height.specs.Scaffolding.Chosen.{forced_by, stuck_by, free_by, forced, stuck, free}
use Rattle.ms_height.specs.Scaffolding.Kept.{ItemsBelow, IsFitting}
use Rattle.ms_height.specs.Scaffolding.Low.{IsLow, IsLowHeights}
use Rattle.ms_height.specs.Scaffolding.Tally.{Counts}

few_forced : (cs : List Heights) → forced cs ≤ length cs
few_forced [] = omega arith
few_forced (c ∷ cs) = go c.sat c.dsat (few_forced cs)
  where
    go : (s d : Option Highest) → forced cs ≤ length cs → forced_by s d + forced cs ≤ suc (length cs)
    go None d h = omega (arith, h)
    go (Some s) None h = omega (arith, h)
    go (Some s) (Some d) h = omega (arith, h)

pub few_free : (cs : List Heights) → free cs ≤ length cs
few_free [] = omega arith
few_free (c ∷ cs) = go c.sat c.dsat (few_free cs)
  where
    go : (s d : Option Highest) → free cs ≤ length cs → free_by s d + free cs ≤ suc (length cs)
    go None d h = omega (arith, h)
    go (Some s) None h = omega (arith, h)
    go (Some s) (Some d) h = omega (arith, h)

few_stuck : (cs : List Heights) → stuck cs ≤ length cs
few_stuck [] = omega arith
few_stuck (c ∷ cs) = go c.sat c.dsat (few_stuck cs)
  where
    go : (s d : Option Highest) → stuck cs ≤ length cs → stuck_by s d + stuck cs ≤ suc (length cs)
    go None None h = omega (arith, h)
    go None (Some d) h = omega (arith, h)
    go (Some s) d h = omega (arith, h)

-- no more than there are children
pub few_of : (t : Tally) (n : ℕ) (cs : List Heights) → Counts t n cs → (t.forced ≤ length cs) × (t.free ≤ length cs) × (t.stuck ≤ length cs)
few_of t n cs told = (omega (arith, told.forced, few_forced cs), omega (arith, told.free, few_free cs), omega (arith, told.stuck, few_stuck cs))

wider : (m n : ℕ) (o : Option Highest) → m ≤ n → ItemsBelow m o → ItemsBelow n o
wider m n None le h = tt
wider m n (Some t) le h = omega (arith, le, h)

fits_wider : (m n : ℕ) (c : Heights) → m ≤ n → IsFitting m c → IsFitting n c
fits_wider m n c le h = record { sat = wider m n c.sat le h.sat; dsat = wider m n c.dsat le h.dsat }

-- a further child
pub counts_more : (t u : Tally) (n : ℕ) (cs : List Heights) (c : Heights) → n < length cs → c ≡ get_or cs n c
    → u.forced ≡ t.forced + forced_by c.sat c.dsat → u.free ≡ t.free + free_by c.sat c.dsat → u.stuck ≡ t.stuck + stuck_by c.sat c.dsat
    → t.most_items ≤ u.most_items → IsFitting (u.most_items + 1) c → ((slots : ℕ) → t.most_items < slots → IsFitting slots c → u.most_items < slots)
    → Counts t n cs → Counts u (n + 1) cs
counts_more t u n cs c below at more_forced more_free more_stuck more fits least told =
    let behind : drop n cs ≡ c ∷ drop (n + 1) cs = drop_more cs n c below ∙ ap (λ x. x ∷ drop (n + 1) cs) (sym at) in
    record {
      forced = omega (arith, more_forced, told.forced, ap forced behind);
      free = omega (arith, more_free, told.free, ap free behind);
      stuck = omega (arith, more_stuck, told.stuck, ap stuck behind);
      fits = λ i d less. upto i d less (cases_lt i n);
      least = λ slots some all.
          least slots (told.least slots some (λ i d less. all i d (omega (arith, less))))
          (subst (IsFitting slots) (sym at) (all n c (omega arith)));
    }
  where
    upto : (i : ℕ) (d : Heights) → i < n + 1 → (i < n) ⊎ (n ≤ i) → IsFitting (u.most_items + 1) (get_or cs i d)
    upto i d less (inl before) = fits_wider (t.most_items + 1) (u.most_items + 1) (get_or cs i d) (omega (arith, more)) (told.fits i d before)
    upto i d less (inr last) =
        let same : n ≡ i = omega (arith, last, less) in
        subst (λ (j : ℕ). IsFitting (u.most_items + 1) (get_or cs j d)) same (subst (IsFitting (u.most_items + 1)) (get_or_read cs n c below at d) fits)

-- the greater of a number and some items
abbrev pub larger : ℕ → Option Highest → ℕ
larger n None = n
larger n (Some m) = max n m.items

larger_more : (n : ℕ) (o : Option Highest) → n ≤ larger n o
larger_more n None = omega arith
larger_more n (Some m) = omega arith

larger_fits : (n : ℕ) (o : Option Highest) → ItemsBelow (larger n o + 1) o
larger_fits n None = tt
larger_fits n (Some m) = omega arith

larger_least : (n slots : ℕ) (o : Option Highest) → n < slots → ItemsBelow slots o → larger n o < slots
larger_least n slots None below h = below
larger_least n slots (Some m) below h = omega (arith, below, h)

-- a further child that takes this
pub counts_one : (t u : Tally) (n : ℕ) (cs : List Heights) (c : Heights) (s d : Option Highest) → n < length cs → c ≡ get_or cs n c → c.sat ≡ s → c.dsat ≡ d
    → u.forced ≡ t.forced + forced_by s d → u.free ≡ t.free + free_by s d → u.stuck ≡ t.stuck + stuck_by s d → u.most_items ≡ larger (larger t.most_items s) d
    → Counts t n cs → Counts u (n + 1) cs
counts_one t u n cs c s d below at e f more_forced more_free more_stuck most told =
    let same : (g : Option Highest → Option Highest → ℕ) → g c.sat c.dsat ≡ g s d = λ g. ap (λ o. g o c.dsat) e ∙ ap (g s) f in
    counts_more t u n cs c below at
    (omega (arith, more_forced, same forced_by)) (omega (arith, more_free, same free_by)) (omega (arith, more_stuck, same stuck_by))
    (omega (arith, most, larger_more t.most_items s, larger_more (larger t.most_items s) d))
    (record {
      sat = subst (ItemsBelow (u.most_items + 1)) (sym e) (wider (larger t.most_items s + 1) (u.most_items + 1) s
          (omega (arith, most, larger_more (larger t.most_items s) d)) (larger_fits t.most_items s));
      dsat = subst (ItemsBelow (u.most_items + 1)) (sym f) (wider (larger (larger t.most_items s) d + 1) (u.most_items + 1) d (omega (arith, most)) (larger_fits (larger t.most_items s) d));
    })
    (λ slots small fits.
    let h = larger_least (larger t.most_items s) slots d (larger_least t.most_items slots s small (subst (ItemsBelow slots) e fits.sat)) (subst (ItemsBelow slots) f fits.dsat) in
    omega (arith, most, h))
    told

-- all of them
pub counts_all : (t : Tally) (n : ℕ) (cs : List Heights) → length cs ≤ n → Counts t n cs → (t.forced ≡ forced cs) × (t.free ≡ free cs) × (t.stuck ≡ stuck cs)
counts_all t n cs all told =
    let none = drop_all n cs all in
    (omega (arith, told.forced, ap forced none), omega (arith, told.free, ap free none), omega (arith, told.stuck, ap stuck none))

-- the bounds that the tally knows are those of the children
pub known_bounds : (t : Tally) (cs : List Heights) (k : ℕ) → (t.forced ≡ forced cs) × (t.free ≡ free cs) × (t.stuck ≡ stuck cs)
    → (0 < t.stuck) ⊎ ((k < t.forced) ⊎ (t.forced + t.free < k)) → (0 < stuck cs) ⊎ ((k < forced cs) ⊎ (forced cs + free cs < k))
known_bounds t cs k all (inl some) = inl (omega (arith, some, all.2))
known_bounds t cs k all (inr (inl low)) = inr (inl (omega (arith, low, all.0)))
known_bounds t cs k all (inr (inr high)) = inr (inr (omega (arith, high, all.0, all.1)))

-- low items
low_below : (o : Option Highest) → IsLow o → ItemsBelow (2 ^ 32) o
low_below None h = tt
low_below (Some m) h = h.items

pub low_fits : (c : Heights) → IsLowHeights c → IsFitting (2 ^ 32) c
low_fits c h = record { sat = low_below c.sat h.sat; dsat = low_below c.dsat h.dsat }
