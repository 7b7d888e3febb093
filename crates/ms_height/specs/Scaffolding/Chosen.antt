-- The children of a threshold, by how many of them may be satisfied and how many dissatisfied.
use Rattle.std.specs.Prelude.{ℕ, zero, suc, ◌+◌, ◌-◌, min, max, List, [], ◌∷◌, Option, Some, None}
use Rattle.def_height.specs.declared.Highest.{Highest}
use Rattle.def_height.specs.Scaffolding.Highest.{only, both, either, counted, no_children}
use Rattle.ms_height.specs.declared.highest.Heights.{Heights}

-- so many of the children are satisfied and the others dissatisfied
abbrev pub chosen : (left : ℕ) → List Heights → (satisfied : ℕ) → Option Highest
chosen left [] = no_children
chosen left (c ∷ cs) = counted left c.sat c.dsat (chosen 0 cs)

-- with one fewer, where there is one
abbrev pub fewer : (ℕ → Option Highest) → ℕ → Option Highest
fewer f zero = None
fewer f (suc n) = f n

-- a child before others: a free one, which can be satisfied and dissatisfied, is one of at most t or of at most u
abbrev pub with_child : (left : ℕ) → (sat dsat : Option Highest) → (ℕ → ℕ → Option Highest) → (t u : ℕ) → Option Highest
with_child left None None rest t u = None
with_child left None (Some d) rest t u = both left (Some d) (rest t u)
with_child left (Some s) None rest t u = both left (Some s) (rest t u)
with_child left (Some s) (Some d) rest t u =
    either (both left (Some s) (fewer (λ n. rest n u) t)) (both left (Some d) (fewer (rest t) u))

-- at most t of the free children are satisfied, and at most u of them dissatisfied
abbrev pub bounded : (left : ℕ) → List Heights → (t u : ℕ) → Option Highest
bounded left [] t u = only 0 0
bounded left (c ∷ cs) t u = with_child left c.sat c.dsat (bounded 0 cs) t u

-- 1 for a child that can only be satisfied, that can be neither satisfied nor dissatisfied, that can be both
abbrev pub forced_by : (sat dsat : Option Highest) → ℕ
forced_by (Some s) None = 1
forced_by (Some s) (Some d) = 0
forced_by None d = 0

abbrev pub stuck_by : (sat dsat : Option Highest) → ℕ
stuck_by (Some s) d = 0
stuck_by None (Some d) = 0
stuck_by None None = 1

abbrev pub free_by : (sat dsat : Option Highest) → ℕ
free_by (Some s) (Some d) = 1
free_by (Some s) None = 0
free_by None d = 0

-- the fewer items of what a child can be, and how many more it takes satisfied, and dissatisfied
abbrev pub base_by : (sat dsat : Option Highest) → ℕ
base_by (Some s) (Some d) = min s.items d.items
base_by (Some s) None = s.items
base_by None (Some d) = d.items
base_by None None = 0

abbrev pub more_sat : (sat dsat : Option Highest) → ℕ
more_sat (Some s) (Some d) = s.items - d.items
more_sat (Some s) None = 0
more_sat None d = 0

abbrev pub more_dsat : (sat dsat : Option Highest) → ℕ
more_dsat (Some s) (Some d) = d.items - s.items
more_dsat (Some s) None = 0
more_dsat None d = 0

abbrev pub forced : List Heights → ℕ
forced [] = 0
forced (c ∷ cs) = forced_by c.sat c.dsat + forced cs

abbrev pub stuck : List Heights → ℕ
stuck [] = 0
stuck (c ∷ cs) = stuck_by c.sat c.dsat + stuck cs

abbrev pub free : List Heights → ℕ
free [] = 0
free (c ∷ cs) = free_by c.sat c.dsat + free cs

abbrev pub base : List Heights → ℕ
base [] = 0
base (c ∷ cs) = base_by c.sat c.dsat + base cs

-- the greatest sum of at most so many of some numbers
abbrev pub top : (count : ℕ) → List ℕ → ℕ
top zero xs = 0
top (suc n) [] = 0
top (suc n) (x ∷ xs) = max (x + top n xs) (top (suc n) xs)

abbrev pub more_sats : List Heights → List ℕ
more_sats [] = []
more_sats (c ∷ cs) = more_sat c.sat c.dsat ∷ more_sats cs

abbrev pub more_dsats : List Heights → List ℕ
more_dsats [] = []
more_dsats (c ∷ cs) = more_dsat c.sat c.dsat ∷ more_dsats cs
