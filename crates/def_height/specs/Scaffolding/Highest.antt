-- The most items and elements of formal satisfactions, computed.
use Rattle.std.specs.Prelude.{ℕ, zero, suc, ◌+◌, max, Option, Some, None, length}
use Rattle.def_tree.specs.declared.Two.TheVariants as kind
use Rattle.def_tree.specs.declared.Wrapper.TheVariants as wrapper
use Rattle.def_height.specs.declared.Highest.{Highest}
use Rattle.def_tree.specs.Tree.{Tree, Trees, just_0, just_1, pk_k, pk_h, older, after, hash, and_or, two, thresh, multi, wrap, none, more}

-- one of so many items and this height
abbrev pub only : (items height : ℕ) → Option Highest
only items height = Some (record { items = items; height = height })

-- the greatest of one of the left, which leaves so many elements of those that it found, and then one of the
-- right; of either; of one with a moment at which there are so many elements
abbrev pub both : (left : ℕ) → Option Highest → Option Highest → Option Highest
both left None b = None
both left (Some a) None = None
both left (Some a) (Some b) = Some (record { items = a.items + b.items; height = max (a.height + b.items) (left + b.height) })

abbrev pub either : Option Highest → Option Highest → Option Highest
either None b = b
either (Some a) None = Some a
either (Some a) (Some b) = Some (record { items = max a.items b.items; height = max a.height b.height })

abbrev pub at_least : (elements : ℕ) → Option Highest → Option Highest
at_least elements None = None
at_least elements (Some a) = Some (record { items = a.items; height = max a.height elements })

-- of the children of a threshold, from a first child that leaves so many elements, satisfied or dissatisfied,
-- and from the others with any number of them satisfied
abbrev pub counted : (left : ℕ) → (sat dsat : Option Highest) → (ℕ → Option Highest) → ℕ → Option Highest
counted left sat dsat others zero = both left dsat (others zero)
counted left sat dsat others (suc k) = either (both left sat (others k)) (both left dsat (others (suc k)))

abbrev pub no_children : ℕ → Option Highest
no_children zero = only 0 0
no_children (suc k) = None

-- of the formal satisfactions
abbrev mutual
  pub highest_sat : Tree → Option Highest
  highest_sat just_0 = None
  highest_sat just_1 = only 0 1
  highest_sat (pk_k key) = only 1 2
  highest_sat (pk_h key) = only 2 4
  highest_sat (older n) = only 0 1
  highest_sat (after n) = only 0 1
  highest_sat (hash kind value) = only 1 3
  highest_sat (and_or x y z) = either (both 0 (highest_sat x) (highest_sat y)) (both 0 (highest_dsat x) (highest_sat z))
  highest_sat (two kind.AndV x y) = both 0 (highest_sat x) (highest_sat y)
  highest_sat (two kind.AndB x y) = both 1 (highest_sat x) (highest_sat y)
  highest_sat (two kind.OrB x z) = either (both 1 (highest_sat x) (highest_dsat z)) (both 1 (highest_dsat x) (highest_sat z))
  highest_sat (two kind.OrC x z) = either (highest_sat x) (both 0 (highest_dsat x) (highest_sat z))
  highest_sat (two kind.OrD x z) = either (at_least 2 (highest_sat x)) (both 0 (highest_dsat x) (highest_sat z))
  highest_sat (two kind.OrI x z) = either (both 0 (only 1 1) (highest_sat x)) (both 0 (only 1 1) (highest_sat z))
  highest_sat (thresh k xs) = at_least 2 (highest_parts 1 xs k)
  highest_sat (multi k keys) = only (k + 1) (length keys + k + 3)
  highest_sat (wrap wrapper.A x) = highest_sat x
  highest_sat (wrap wrapper.S x) = highest_sat x
  highest_sat (wrap wrapper.C x) = highest_sat x
  highest_sat (wrap wrapper.D x) = both 1 (only 1 2) (highest_sat x)
  highest_sat (wrap wrapper.V x) = highest_sat x
  highest_sat (wrap wrapper.J x) = both 0 (only 0 1) (highest_sat x)
  highest_sat (wrap wrapper.N x) = highest_sat x

  pub highest_dsat : Tree → Option Highest
  highest_dsat just_0 = only 0 1
  highest_dsat just_1 = None
  highest_dsat (pk_k key) = only 1 2
  highest_dsat (pk_h key) = only 2 4
  highest_dsat (older n) = None
  highest_dsat (after n) = None
  highest_dsat (hash kind value) = only 1 3
  highest_dsat (and_or x y z) = both 0 (highest_dsat x) (highest_dsat z)
  highest_dsat (two kind.AndV x y) = None
  highest_dsat (two kind.AndB x y) = both 1 (highest_dsat x) (highest_dsat y)
  highest_dsat (two kind.OrB x z) = both 1 (highest_dsat x) (highest_dsat z)
  highest_dsat (two kind.OrC x z) = None
  highest_dsat (two kind.OrD x z) = both 0 (highest_dsat x) (highest_dsat z)
  highest_dsat (two kind.OrI x z) = either (both 0 (only 1 1) (highest_dsat x)) (both 0 (only 1 1) (highest_dsat z))
  highest_dsat (thresh k xs) = at_least 2 (highest_parts 1 xs 0)
  highest_dsat (multi k keys) = only (k + 1) (length keys + k + 3)
  highest_dsat (wrap wrapper.A x) = highest_dsat x
  highest_dsat (wrap wrapper.S x) = highest_dsat x
  highest_dsat (wrap wrapper.C x) = highest_dsat x
  highest_dsat (wrap wrapper.D x) = only 1 2
  highest_dsat (wrap wrapper.V x) = None
  highest_dsat (wrap wrapper.J x) = only 1 2
  highest_dsat (wrap wrapper.N x) = highest_dsat x

  pub highest_parts : (left : ℕ) → Trees → (satisfied : ℕ) → Option Highest
  highest_parts left none = no_children
  highest_parts left (more x xs) = counted left (highest_sat x) (highest_dsat x) (highest_parts 0 xs)

abbrev pub height_of_option : Option Highest → ℕ
height_of_option None = 0
height_of_option (Some a) = a.height

-- the height of a tree that has a correctness type, as it is computed
abbrev pub height_of : Tree → ℕ
height_of tree = height_of_option (highest_sat tree)
