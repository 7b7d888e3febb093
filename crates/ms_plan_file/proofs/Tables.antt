-- Tables of lengths: what their entries are, one after the other.
use Rattle.std.proofs.Common.{◌≡◌, ℕ, zero, suc, ◌+◌, ◌-◌, ◌<◌, ◌≤◌, Bool, true, false, [], ◌∷◌, ◌++◌, length, map, find, take, drop, get_or, All, Some, None, refl, sym, ◌∙◌, ap, subst, inl, inr, append_assoc, arith, if◌then◌else◌}
use Rattle.std.specs.Option.{option_map}
use Rattle.std.specs.List.{IsDistinct, AllByRecursion}
use Rattle.std.specs.Str.{bytes_eq}
use Rattle.std.proofs.lemmas.Bool.{false≢true, cases_Bool}
use Rattle.std.proofs.lemmas.Option.{none-some}
use Rattle.std.proofs.lemmas.List.{drop_more, take_all, length-drop}
use Rattle.std.proofs.lemmas.List.Elements.{All-nil, All-cons, All-head, All-tail}
use Rattle.std.proofs.lemmas.Slice.Eq.{bytes_eq-Decides}
use Rattle.def_tree.specs.Range.{IsKey}
use Rattle.def_tree.specs.Tree.{Key}
use Rattle.def_plan.specs.Lengths.{Lengths, AreLengths, MOST_KEYS, length_of}
use Rattle.ms_plan_file.specs.Scaffolding.Entries.{CanStandBefore}

-- but for their number
pub record AreEntries (table : Lengths) : Type 0 where
  pub keys : All (λ entry. IsKey entry.0) table
  pub distinct : IsDistinct bytes_eq (map (λ entry. entry.0) table)
  pub some : All (λ entry. 1 ≤ entry.1) table
  pub short : All (λ entry. entry.1 ≤ 73) table

pub no_entries : AreEntries []
unfolding IsDistinct
no_entries = record { keys = All-nil _; distinct = tt; some = All-nil _; short = All-nil _ }

pub few_entries : (table : Lengths) → length table ≤ MOST_KEYS → AreEntries table → AreLengths table
few_entries table few h = record { few = few; keys = h.keys; distinct = h.distinct; some = h.some; short = h.short }

-- none of these keys is the one that has no entry
others : (key : Key) (table : Lengths) → length_of table key ≡ None → AllByRecursion (λ other. bytes_eq key other ≡ false) (map (λ entry. entry.0) table)
others key [] h = tt
others key (entry ∷ table) h = go (bytes_eq entry.0 key) refl h (others key table)
  where
    flipped : bytes_eq entry.0 key ≡ false → bytes_eq key entry.0 ≡ false
    flipped e =
        elim (cases_Bool (bytes_eq key entry.0)) [
          | inl same ↦ absurd (false≢true (sym e ∙ (bytes_eq-Decides entry.0 key).1 (sym ((bytes_eq-Decides key entry.0).0 same))))
          | inr other ↦ other
        ]

    go : (test : Bool) → bytes_eq entry.0 key ≡ test → option_map (λ e. e.1) (if test then Some entry else find (λ e. bytes_eq e.0 key) table) ≡ None →
        (length_of table key ≡ None → AllByRecursion (λ other. bytes_eq key other ≡ false) (map (λ entry. entry.0) table)) →
        AllByRecursion (λ other. bytes_eq key other ≡ false) (map (λ entry. entry.0) (entry ∷ table))
    go true e k more = absurd (none-some entry.1 (sym k))
    go false e k more = (flipped e, more k)

one_entry : (entry : Key × ℕ) (table : Lengths) → CanStandBefore entry table → AreEntries table → AreEntries (entry ∷ table)
unfolding IsDistinct
one_entry entry table h rest = record {
  keys = All-cons (λ e. IsKey e.0) entry table h.key rest.keys;
  distinct = (others entry.0 table h.once, rest.distinct);
  some = All-cons (λ e. 1 ≤ e.1) entry table h.some rest.some;
  short = All-cons (λ e. e.1 ≤ 73) entry table h.short rest.short;
}

-- at a place of a table
pub entry_at : (table : Lengths) (place : ℕ) (entry : Key × ℕ) → place < length table → entry ≡ get_or table place entry →
    CanStandBefore entry (drop (place + 1) table) → (AreEntries (drop place table) → AreEntries table) → AreEntries (drop (place + 1) table) → AreEntries table
entry_at table place entry below is h all rest =
    let more : drop place table ≡ entry ∷ drop (place + 1) table = drop_more table place entry below ∙ ap (λ x. x ∷ drop (place + 1) table) (sym is) in
    all (subst AreEntries (sym more) (one_entry entry (drop (place + 1) table) h rest))

-- and back: what a table begins with, and what is left
unlisted : (key : Key) (table : Lengths) → AllByRecursion (λ other. bytes_eq key other ≡ false) (map (λ entry. entry.0) table) → length_of table key ≡ None
unlisted key [] h = refl
unlisted key (entry ∷ table) h = rw flipped (unlisted key table h.1)
  where
    flipped : bytes_eq entry.0 key ≡ false
    flipped =
        elim (cases_Bool (bytes_eq entry.0 key)) [
          | inl same ↦ absurd (false≢true (sym h.0 ∙ (bytes_eq-Decides key entry.0).1 (sym ((bytes_eq-Decides entry.0 key).0 same))))
          | inr other ↦ other
        ]

pub first_entry : (entry : Key × ℕ) (table : Lengths) → AreEntries (entry ∷ table) → CanStandBefore entry table
unfolding IsDistinct
first_entry entry table h = record {
  key = All-head (λ e. IsKey e.0) entry table h.keys;
  some = All-head (λ e. 1 ≤ e.1) entry table h.some;
  short = All-head (λ e. e.1 ≤ 73) entry table h.short;
  once = unlisted entry.0 table h.distinct.0;
}

pub left_entries : (entry : Key × ℕ) (table : Lengths) → AreEntries (entry ∷ table) → AreEntries table
unfolding IsDistinct
left_entries entry table h = record {
  keys = All-tail (λ e. IsKey e.0) entry table h.keys;
  distinct = h.distinct.1;
  some = All-tail (λ e. 1 ≤ e.1) entry table h.some;
  short = All-tail (λ e. e.1 ≤ 73) entry table h.short;
}

module _ (table : Lengths) (place : ℕ) (entry : Key × ℕ) (below : place < length table) (is : entry ≡ get_or table place entry) where
  begins : drop place table ≡ entry ∷ drop (place + 1) table
  begins = drop_more table place entry below ∙ ap (λ x. x ∷ drop (place + 1) table) (sym is)

  pub entry_stands : AreEntries (drop place table) → CanStandBefore entry (drop (place + 1) table)
  entry_stands h = first_entry entry (drop (place + 1) table) (subst AreEntries begins h)

  pub entries_left : AreEntries (drop place table) → AreEntries (drop (place + 1) table)
  entries_left h = left_entries entry (drop (place + 1) table) (subst AreEntries begins h)

pub entries_of : (table : Lengths) → AreLengths table → AreEntries table
entries_of table h = record { keys = h.keys; distinct = h.distinct; some = h.some; short = h.short }

-- the length of an entry's key is the entry's
own_length : (table : Lengths) (place : ℕ) (entry : Key × ℕ) → IsDistinct bytes_eq (map (λ e. e.0) table) → place < length table → entry ≡ get_or table place entry →
    length_of table entry.0 ≡ Some entry.1
unfolding IsDistinct
own_length [] place entry d below is = absurd (omega (arith, below))
own_length (e ∷ table) zero entry d below is =
    subst (λ x. length_of (x ∷ table) entry.0 ≡ Some entry.1) is (rw ((bytes_eq-Decides entry.0 entry.0).1 refl) refl)
own_length (e ∷ table) (suc place) entry d below is = go (bytes_eq e.0 entry.0) refl (own_length table place entry d.1 (omega (arith, below)) is)
  where
    found : (t : Lengths) (i : ℕ) → i < length t → entry ≡ get_or t i entry → AllByRecursion (λ other. bytes_eq e.0 other ≡ false) (map (λ x. x.0) t) → bytes_eq e.0 entry.0 ≡ false
    found [] i b s all = absurd (omega (arith, b))
    found (x ∷ t) zero b s all = subst (λ (y : Key × ℕ). bytes_eq e.0 y.0 ≡ false) (sym s) all.0
    found (x ∷ t) (suc i) b s all = found t i (omega (arith, b)) s all.1

    go : (test : Bool) → bytes_eq e.0 entry.0 ≡ test → length_of table entry.0 ≡ Some entry.1 → option_map (λ x. x.1) (if test then Some e else find (λ x. bytes_eq x.0 entry.0) table) ≡ Some entry.1
    go true t more = absurd (false≢true (sym (found table place (omega (arith, below)) is d.0) ∙ t))
    go false t more = more

-- one more answer
pub answered : (table : Lengths) (place : ℕ) (entry : Key × ℕ) (before after : Lengths) → AreLengths table → place < length table → entry ≡ get_or table place entry →
    ((n : ℕ) → length_of table entry.0 ≡ Some n → after ≡ before ++ (entry.0, n) ∷ []) → before ++ drop place table ≡ table → after ++ drop (place + 1) table ≡ table
answered table place entry before after lengths below is pushed h =
    let more : drop place table ≡ entry ∷ drop (place + 1) table = drop_more table place entry below ∙ ap (λ x. x ∷ drop (place + 1) table) (sym is) in
    let p = pushed entry.1 (own_length table place entry lengths.distinct below is) in
    rw (p, append_assoc) (subst (λ t. before ++ t ≡ table) more h)

-- what stands behind a place
pub to_the_end : (table : Lengths) (place : ℕ) → take (length table - place) (drop place table) ≡ drop place table
to_the_end table place = take_all (length table - place) (drop place table) (let e = length-drop place table in omega (arith, e))
