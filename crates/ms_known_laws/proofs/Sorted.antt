-- Keys are distinct where they are so in order.
use Rattle.std.proofs.Common.{◌≡◌, inl, inr, Bool, true, false, cond, List, [], ◌∷◌, sym}
use Rattle.std.specs.Prelude.{nat_lt}
use Rattle.std.specs.List.{AllByRecursion, IsDistinct}
use Rattle.std.specs.Str.{bytes_eq}
use Rattle.std.proofs.lemmas.Bool.{cases_Bool}
use Rattle.std.proofs.lemmas.Slice.Eq.{bytes_eq-Decides}
use Rattle.def_tree.specs.Tree.{Key}
use Rattle.def_curve.specs.Key.{number_of}
use Rattle.def_descriptor.specs.Gives.{with_sorted, in_order}

abbrev Differs : Key → Key → Type 0
Differs own other = bytes_eq own other ≡ false

turned : (own other : Key) → Differs own other → Differs other own
turned own other h = elim (cases_Bool (bytes_eq other own)) [
  | inl same ↦ let again : bytes_eq own other ≡ true = (bytes_eq-Decides own other).1 (sym ((bytes_eq-Decides other own).0 same)) in absurd (cc (h, again))
  | inr not ↦ not
]

all_with : (P : Key → Type 0) (own : Key) (keys : List Key) → AllByRecursion P (with_sorted own keys) → P own × AllByRecursion P keys
all_with P own [] h = (h.0, tt)
all_with P own (first ∷ keys) h = go (nat_lt (number_of first) (number_of own)) (all_with P own keys) h
  where
    go : (b : Bool) → (AllByRecursion P (with_sorted own keys) → P own × AllByRecursion P keys)
        → AllByRecursion P (cond b (first ∷ with_sorted own keys) (own ∷ first ∷ keys)) → P own × AllByRecursion P (first ∷ keys)
    go true rest k = let both = rest k.1 in (both.0, (k.0, both.1))
    go false rest k = (k.0, k.1)

once_with : (own : Key) (keys : List Key) → IsDistinct bytes_eq (with_sorted own keys) → AllByRecursion (Differs own) keys × IsDistinct bytes_eq keys
unfolding IsDistinct
once_with own [] h = (tt, tt)
once_with own (first ∷ keys) h = go (nat_lt (number_of first) (number_of own)) (once_with own keys) h
  where
    go : (b : Bool) → (IsDistinct bytes_eq (with_sorted own keys) → AllByRecursion (Differs own) keys × IsDistinct bytes_eq keys)
        → IsDistinct bytes_eq (cond b (first ∷ with_sorted own keys) (own ∷ first ∷ keys)) → AllByRecursion (Differs own) (first ∷ keys) × IsDistinct bytes_eq (first ∷ keys)
    go true rest k =
        let (mine, all) = all_with (Differs first) own keys k.0 in
        let (later, others) = rest k.1 in
        ((turned first own mine, later), (all, others))
    go false rest k = (k.0, k.1)

all_ordered : (P : Key → Type 0) (keys : List Key) → AllByRecursion P (in_order keys) → AllByRecursion P keys
all_ordered P [] h = tt
all_ordered P (own ∷ keys) h = let both = all_with P own (in_order keys) h in (both.0, all_ordered P keys both.1)

pub once_ordered : (keys : List Key) → IsDistinct bytes_eq (in_order keys) → IsDistinct bytes_eq keys
unfolding IsDistinct
once_ordered [] h = tt
once_ordered (own ∷ keys) h =
    let both = once_with own (in_order keys) h in
    (all_ordered (Differs own) keys both.0, once_ordered keys both.1)
