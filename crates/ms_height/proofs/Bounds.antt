-- The items of a tree are at most twice its measure, and its height four times.
use Rattle.std.proofs.Common.{◌≡◌, ℕ, zero, suc, ◌+◌, ◌*◌, ◌^◌, ◌<◌, ◌≤◌, Option, Some, None, subst, sym, arith}
use Rattle.std.specs.Prelude.{⊤}
use Rattle.def_tree.specs.declared.Two.{Two}
use Rattle.def_tree.specs.declared.Two.TheVariants as kind
use Rattle.def_tree.specs.declared.Wrapper.{Wrapper}
use Rattle.def_tree.specs.declared.Wrapper.TheVariants as wrapper
use Rattle.def_tree.specs.Tree.{Tree, Trees, just_0, just_1, pk_k, pk_h, older, after, hash, and_or, two, thresh, multi, wrap, none, more}
use Rattle.def_tree.specs.InRange.{IsInRange, measure, measure_of}
use Rattle.def_types.specs.Typed.{IsTyped, AreTyped}
use Rattle.def_types.proofs.Facts.{typed-multi}
use Rattle.def_height.specs.declared.Highest.{Highest}
use Rattle.def_height.specs.Scaffolding.Highest.{only, both, either, at_least, highest_sat, highest_dsat, highest_parts}
use Rattle.ms_work.proofs.Children.{measure_positive}
use Rattle.ms_height.specs.declared.highest.Heights.{Heights}
use Rattle.ms_height.specs.Scaffolding.Low.{IsLow, IsLowHeights}
use Rattle.ms_height.specs.Scaffolding.Row.{highest_of}
use Rattle.ms_height.specs.Scaffolding.Kept.{ItemsBelow, IsFitting}

pub record IsWithin (n : ℕ) (m : Highest) : Type 0 where
  pub items : m.items ≤ n
  pub height : m.height ≤ 2 * n

abbrev pub Within : ℕ → Option Highest → Type 0
Within n None = ⊤
Within n (Some m) = IsWithin n m

within_only : (items height n : ℕ) → items ≤ n → height ≤ 2 * n → Within n (only items height)
within_only items height n few low = record { items = few; height = low }

weaker : (m n : ℕ) (o : Option Highest) → m ≤ n → Within m o → Within n o
weaker m n None le h = tt
weaker m n (Some a) le h = record { items = omega (arith, le, h.items); height = omega (arith, le, h.height) }

within_either : (n : ℕ) (o p : Option Highest) → Within n o → Within n p → Within n (either o p)
within_either n None p a b = b
within_either n (Some s) None a b = a
within_either n (Some s) (Some t) a b = record { items = omega (arith, a.items, b.items); height = omega (arith, a.height, b.height) }

within_at_least : (l n : ℕ) (o : Option Highest) → l ≤ n → Within n o → Within n (at_least l o)
within_at_least l n None le a = a
within_at_least l n (Some s) le a = record { items = a.items; height = omega (arith, le, a.height) }

-- two parts, one after the other
joined : (l m n most : ℕ) (o p : Option Highest) → l ≤ m → m + n ≤ most → Within m o → Within n p → Within most (both l o p)
joined l m n most None p le fit a b = tt
joined l m n most (Some s) None le fit a b = tt
joined l m n most (Some s) (Some t) le fit a b = record { items = omega (arith, fit, a.items, b.items); height = omega (arith, le, fit, a.items, a.height, b.items, b.height) }

-- the satisfactions and the dissatisfactions of a tree
abbrev pub AreWithin : ℕ → Tree → Type 0
AreWithin n t = Within n (highest_sat t) × Within n (highest_dsat t)

-- those of a child, and then those of another one or of other children
child_first : (l n most : ℕ) (x : Tree) (o p : Option Highest) → l ≤ 1 → 2 * measure x + n ≤ most → Within (2 * measure x) o → Within n p → Within most (both l o p)
child_first l n most x o p le fit a b = joined l (2 * measure x) n most o p (omega (arith, le, measure_positive x)) fit a b

-- elements that lie there first, and then those of a child
begun : (l items height n most : ℕ) (p : Option Highest) → l ≤ 1 → items ≤ 1 → height ≤ 2 → n + 2 ≤ most → Within n p → Within most (both l (only items height) p)
begun l items height n most p le few low fit b =
    joined l 2 n most (only items height) p (omega (arith, le)) (omega (arith, fit)) (within_only items height 2 (omega (arith, few)) (omega (arith, low))) b

two_within : (k : Two) (n : ℕ) (x z : Tree) → 2 * measure x + 2 * measure z + 2 ≤ n → AreWithin (2 * measure x) x → AreWithin (2 * measure z) z → AreWithin n (two k x z)
two_within k n x z fit a c = go k
  where
    then : (l : ℕ) (o p : Option Highest) → l ≤ 1 → Within (2 * measure x) o → Within (2 * measure z) p → Within n (both l o p)
    then l o p le = child_first l _ n x o p le (omega (arith, fit))

    chosen : (o p : Option Highest) → Within (2 * measure x) o → Within (2 * measure z) p → Within n (either (both 0 (only 1 1) o) (both 0 (only 1 1) p))
    chosen o p a c = within_either _ _ _ (begun 0 1 1 _ _ o (omega arith) (omega arith) (omega arith) (omega (arith, fit)) a)
        (begun 0 1 1 _ _ p (omega arith) (omega arith) (omega arith) (omega (arith, fit)) c)

    go : (k : Two) → AreWithin n (two k x z)
    go kind.AndV = (then _ _ _ (omega arith) a.0 c.0, tt)
    go kind.AndB = (then _ _ _ (omega arith) a.0 c.0, then _ _ _ (omega arith) a.1 c.1)
    go kind.OrB = (within_either _ _ _ (then _ _ _ (omega arith) a.0 c.1) (then _ _ _ (omega arith) a.1 c.0), then _ _ _ (omega arith) a.1 c.1)
    go kind.OrC = (within_either _ _ _ (weaker _ _ _ (omega (arith, fit)) a.0) (then _ _ _ (omega arith) a.1 c.0), tt)
    go kind.OrD = (
      within_either _ _ _ (within_at_least _ _ _ (omega (arith, fit)) (weaker _ _ _ (omega (arith, fit)) a.0)) (then _ _ _ (omega arith) a.1 c.0),
      then _ _ _ (omega arith) a.1 c.1,
    )
    go kind.OrI = (chosen _ _ a.0 c.0, chosen _ _ a.1 c.1)

wrap_within : (w : Wrapper) (n : ℕ) (x : Tree) → 2 * measure x + 2 ≤ n → AreWithin (2 * measure x) x → AreWithin n (wrap w x)
wrap_within wrapper.D n x fit a = (begun 1 1 2 _ n _ (omega arith) (omega arith) (omega arith) fit a.0, within_only 1 2 n (omega (arith, fit)) (omega (arith, fit)))
wrap_within wrapper.V n x fit a = (weaker _ _ _ (omega (arith, fit)) a.0, tt)
wrap_within wrapper.J n x fit a = (begun 0 0 1 _ n _ (omega arith) (omega arith) (omega arith) fit a.0, within_only 1 2 n (omega (arith, fit)) (omega (arith, fit)))
wrap_within other n x fit a = (weaker _ _ _ (omega (arith, fit)) a.0, weaker _ _ _ (omega (arith, fit)) a.1)

mutual
  pub within : (t : Tree) → IsTyped t → AreWithin (2 * measure t) t
  within just_0 h = (tt, within_only 0 1 _ (omega arith) (omega arith))
  within just_1 h = (within_only 0 1 _ (omega arith) (omega arith), tt)
  within (pk_k key) h = let same = within_only 1 2 2 (omega arith) (omega arith) in (same, same)
  within (pk_h key) h = let same = within_only 2 4 2 (omega arith) (omega arith) in (same, same)
  within (older n) h = (within_only 0 1 _ (omega arith) (omega arith), tt)
  within (after n) h = (within_only 0 1 _ (omega arith) (omega arith), tt)
  within (hash kind value) h = let same = within_only 1 3 2 (omega arith) (omega arith) in (same, same)
  within (and_or x y z) h =
      let a = within x h.0 in
      let c = within z h.2 in (
        within_either _ _ _ (child_first _ _ _ x _ _ (omega arith) (omega arith) a.0 (within y h.1).0) (child_first _ _ _ x _ _ (omega arith) (omega arith) a.1 c.0),
        child_first _ _ _ x _ _ (omega arith) (omega arith) a.1 c.1,
      )
  within (two k x z) h = two_within k _ x z (omega arith) (within x h.0) (within z h.1)
  within (thresh k xs) h = (
    within_at_least 2 _ _ (omega arith) (weaker (2 * measure_of xs) _ _ (omega arith) (parts_within 1 xs k (omega arith) h.0)),
    within_at_least 2 _ _ (omega arith) (weaker (2 * measure_of xs) _ _ (omega arith) (parts_within 1 xs 0 (omega arith) h.0)),
  )
  within (multi k keys) h = let f = typed-multi k keys h in let same = within_only (k + 1) _ (2 * measure (multi k keys)) (omega (arith, f.1)) (omega (arith, f.1)) in (same, same)
  within (wrap w x) h = wrap_within w _ x (omega arith) (within x h.0)

  parts_within : (l : ℕ) (xs : Trees) (k : ℕ) → l ≤ 1 → AreTyped xs → Within (2 * measure_of xs) (highest_parts l xs k)
  parts_within l none zero le h = within_only 0 0 _ (omega arith) (omega arith)
  parts_within l none (suc k) le h = tt
  parts_within l (more x xs) zero le h = child_first l _ _ x _ _ le (omega arith) (within x h.0).1 (parts_within 0 xs zero (omega arith) h.1)
  parts_within l (more x xs) (suc k) le h =
      within_either (2 * measure_of (more x xs)) _ _
      (child_first l _ _ x _ _ le (omega arith) (within x h.0).0 (parts_within 0 xs k (omega arith) h.1))
      (child_first l _ _ x _ _ le (omega arith) (within x h.0).1 (parts_within 0 xs (suc k) (omega arith) h.1))

low_option : (n : ℕ) (o : Option Highest) → 2 * n < 2 ^ 32 → Within n o → IsLow o
low_option n None small h = tt
low_option n (Some m) small h = record { items = omega (arith, small, h.items); height = omega (arith, small, h.height) }

-- so each number of a tree in range is below 2^32
pub low_of : (t : Tree) (found : Heights) → IsInRange t → IsTyped t → found ≡ highest_of t → IsLowHeights found
low_of t found range typed is = subst IsLowHeights (sym is) (record {
  sat = low_option (2 * measure t) (highest_sat t) (omega (arith, range.measure)) (within t typed).0;
  dsat = low_option (2 * measure t) (highest_dsat t) (omega (arith, range.measure)) (within t typed).1;
})

items_below : (n slots : ℕ) (o : Option Highest) → n < slots → Within n o → ItemsBelow slots o
items_below n slots None wide h = tt
items_below n slots (Some m) wide h = omega (arith, wide, h.items)

-- and its items have places among wide slots than twice the measure
pub fits_of : (slots : ℕ) (t : Tree) → 2 * measure t < slots → IsTyped t → IsFitting slots (highest_of t)
fits_of slots t wide typed = record {
  sat = items_below (2 * measure t) slots (highest_sat t) wide (within t typed).0;
  dsat = items_below (2 * measure t) slots (highest_dsat t) wide (within t typed).1;
}
