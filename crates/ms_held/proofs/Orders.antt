-- What the order of signatures finds is the shortest signature of a key, of several shortest the first; and one more
-- signature keeps the order where it is put behind all that come before it.
use Rattle.std.proofs.Common.{◌≡◌, ℕ, zero, suc, ◌+◌, ◌-◌, ◌<◌, ◌≤◌, ◌⊎◌, inl, inr, ⊎_elim, Bool, true, false, nat_lt, if◌then◌else◌, is_some, List, [], ◌∷◌, ◌++◌, length, length-append, map, filter, get_or, take, Option, Some, None, option_map, Result, is_ok, is_err, Bor, All, Contains, refl, sym, ◌∙◌, ap, subst, arith, zero-add, add-zero}
use Rattle.std.proofs.Math.Seq.{get_or-append_seam}
use Rattle.std.proofs.lemmas.Bool.{cases_lt, cases_Bool, cond_both, false≢true, true_from_ne_false}
use Rattle.std.proofs.lemmas.Bool.Decides.{nat_tests}
use Rattle.std.proofs.lemmas.Cmp.{nat_list_cmp_total, nat_cmp_total, on_total, then_total, tied_itself}
use Rattle.std.proofs.lemmas.List.{get_or_append_left, take_more}
use Rattle.std.proofs.lemmas.List.Edits.{length-insert, get_or-insert_below, get_or-insert_at, get_or-insert_above}
use Rattle.std.proofs.lemmas.List.FromFn.{get_or-range_with_len, length-range_with_len}
use Rattle.std.proofs.lemmas.List.Sorted.{ranks_by, sorted_far, All-permutation, Contains-permutation, IsPermutation-trans, IsPermutation-cons, IsPermutation-to_front, IsPermutation-insert}
use Rattle.std.proofs.lemmas.Map.Text.{is_eq-slice_cmp}
use Rattle.std.proofs.lemmas.Slice.Eq.{bytes_eq-Decides}
use Rattle.std.specs.Cmp.{IsTotalOrder, IsStrictWeakOrder}
use Rattle.std.specs.Cmp.Lexicographic.{slice_cmp}
use Rattle.std.specs.List.{list_any, range_with_len, insert}
use Rattle.std.specs.List.Sorted.{IsPermutation, IsPartitionedBy, IsPartitionPoint}
use Rattle.std.specs.Ordering.{nat_cmp, ordering_then, ordering_reverse, is_lt, is_eq}
use Rattle.std.specs.Str.{bytes_eq}
use Rattle.std.specs.declared.cmp.Ordering.{Ordering}
use Rattle.std.specs.declared.cmp.Ordering.TheVariants.{Equal}
use Rattle.def_script.specs.Bytes.{Bytes}
use Rattle.def_machine.specs.Stacks.{Pairs}
use Rattle.def_assets.specs.Assets.{sigs_with, shorter, shortest}
use Rattle.ms_held.proofs.SamePairs.{bytes_eq-symm}
use Rattle.ms_oracle.specs.Places.{pair_at}
use Rattle.ms_held.specs.Scaffolding.Order.{Rank, rank_cmp, rank_of, is_before, IsOrder, sig_under, shortest_with}

pub rank_cmp-total : IsTotalOrder rank_cmp
rank_cmp-total =
    then_total (then_total (on_total (λ (r : Rank). r.key) nat_list_cmp_total) (on_total (λ (r : Rank). r.size) nat_cmp_total)) (on_total (λ (r : Rank). r.place) nat_cmp_total)

pub weak : (table : Pairs) → IsStrictWeakOrder (λ a b. is_lt (rank_cmp (rank_of table a) (rank_of table b)))
weak table = ranks_by rank_cmp-total (rank_of table)

ranks_weak : IsStrictWeakOrder (λ (a b : Rank). is_lt (rank_cmp a b))
ranks_weak = ranks_by rank_cmp-total (λ (r : Rank). r)

-- ---- places before a rank stand first

pub partitioned : (table : Pairs) (order : List ℕ) (rank : Rank) → IsOrder table order → IsPartitionedBy (is_before table rank) order
partitioned table order rank is i j d below inside before =
    true_from_ne_false _ (λ no. false≢true (sym (ranks_weak.chain (rank_of table (get_or order j d)) (rank_of table (get_or order i d)) rank
    (sorted_far _ (weak table) order is.sorted i j d below inside) no) ∙ before))

-- ---- the shortest signature of a table

-- a place has the key and its shortest signature, of several shortest the first
pub record IsShortestAt (table : Pairs) (key : Bytes) (k : ℕ) : Type 0 where
  pub inside : k < length table
  pub same : bytes_eq (pair_at table k).0 key ≡ true
  pub least : (j : ℕ) → j < length table → bytes_eq (pair_at table j).0 key ≡ true
      → (length (pair_at table k).1 < length (pair_at table j).1) ⊎ ((length (pair_at table k).1 ≡ length (pair_at table j).1) × (k ≤ j))

-- what is found stands there
abbrev FoundAt : Pairs → Bytes → Option Bytes → Type 0
FoundAt table key None = Unit {0}
FoundAt table key (Some sig) = (j : ℕ) × (j < length table) × (bytes_eq (pair_at table j).0 key ≡ true) × (sig ≡ (pair_at table j).1)

found_later : (pair : Bytes × Bytes) (table : Pairs) (key : Bytes) (o : Option Bytes) → FoundAt table key o → FoundAt (pair ∷ table) key o
found_later pair table key None h = tt
found_later pair table key (Some sig) h = (suc h.0, omega (arith, h.1), h.2, h.3)

shorter_found : (pair : Bytes × Bytes) (table : Pairs) (key : Bytes) (o : Option Bytes) → bytes_eq pair.0 key ≡ true → FoundAt table key o
    → FoundAt (pair ∷ table) key (Some (shorter pair.1 o))
shorter_found pair table key None e h = (0, omega arith, e, refl)
shorter_found pair table key (Some sig) e h =
    cond_both (nat_lt (length sig) (length pair.1)) sig pair.1 (λ s. FoundAt (pair ∷ table) key (Some s)) (λ t. found_later pair table key (Some sig) h)
    (λ f. (0, omega arith, e, refl))

shortest_found : (table : Pairs) (key : Bytes) → FoundAt table key (shortest (sigs_with table key))
shortest_found [] key = tt
shortest_found (pair ∷ table) key = elim (cases_Bool (bytes_eq pair.0 key)) [
  | inl e ↦ rw e (shorter_found pair table key (shortest (sigs_with table key)) e (shortest_found table key))
  | inr e ↦ rw e (found_later pair table key (shortest (sigs_with table key)) (shortest_found table key))
]

shorter_first : (former : Bytes) (o : Option Bytes) → ((sig : Bytes) → o ≡ Some sig → length former ≤ length sig) → shorter former o ≡ former
shorter_first former o h = grind (arith, nat_tests)

shorter_later : (former latter : Bytes) → length latter < length former → shorter former (Some latter) ≡ latter
shorter_later former latter h = grind (arith, nat_tests)

-- a found signature is no shorter than one that is no longer than all
not_shorter : (table : Pairs) (key : Bytes) (size : ℕ)
    → ((j : ℕ) → j < length table → bytes_eq (pair_at table j).0 key ≡ true → size ≤ length (pair_at table j).1)
    → (o : Option Bytes) → FoundAt table key o → (sig : Bytes) → o ≡ Some sig → size ≤ length sig
not_shorter table key size least None f sig e = absurd (let no = e in cc)
not_shorter table key size least (Some found) f sig e =
    let same : found ≡ sig = let is = e in cc in
    subst (λ s. size ≤ length s) (sym f.3 ∙ same) (least f.0 f.1 f.2)

pub shortest_at : (table : Pairs) (key : Bytes) (k : ℕ) → IsShortestAt table key k → shortest (sigs_with table key) ≡ Some (pair_at table k).1
shortest_at [] key k is = absurd (let inside = is.inside in omega arith)
shortest_at (pair ∷ table) key k is = go (λ n h. shortest_at table key n h) k is (bytes_eq pair.0 key) refl
  where
    all : Bool → List Bytes
    all b = map (λ (p : Bytes × Bytes). p.1) (if b then pair ∷ filter (λ p. bytes_eq p.0 key) table else filter (λ p. bytes_eq p.0 key) table)

    later : (n : ℕ) → IsShortestAt (pair ∷ table) key (suc n) → IsShortestAt table key n
    later n h = record {
      inside = let inside = h.inside in omega arith;
      same = h.same;
      least = λ j below e. ⊎_elim (λ less. inl less) (λ ties. inr (ties.0, omega (arith, ties.1))) (h.least (suc j) (omega (arith, below)) e);
    }

    go : ((n : ℕ) → IsShortestAt table key n → shortest (sigs_with table key) ≡ Some (pair_at table n).1)
        → (n : ℕ) → IsShortestAt (pair ∷ table) key n → (b : Bool) → bytes_eq pair.0 key ≡ b → shortest (all b) ≡ Some (pair_at (pair ∷ table) n).1
    go rest zero h true e =
        ap Some (shorter_first pair.1 (shortest (sigs_with table key))
        (not_shorter table key (length pair.1)
        (λ j below same. ⊎_elim (λ less. omega (arith, less)) (λ ties. omega (arith, ties.0)) (h.least (suc j) (omega (arith, below)) same))
        (shortest (sigs_with table key)) (shortest_found table key)))
    go rest zero h false e = absurd (let yes = h.same in let no = e in cc)
    go rest (suc n) h true e =
        let less : length (pair_at table n).1 < length pair.1 = ⊎_elim (λ less. less) (λ ties. absurd (omega (arith, ties.1))) (h.least 0 (omega arith) e) in
        ap (λ o. Some (shorter pair.1 o)) (rest n (later n h)) ∙ ap Some (shorter_later pair.1 (pair_at table n).1 less)
    go rest (suc n) h false e = rest n (later n h)

pub shortest_none : (table : Pairs) (key : Bytes) → ((j : ℕ) → j < length table → bytes_eq (pair_at table j).0 key ≡ true → ⊥) → shortest (sigs_with table key) ≡ None
shortest_none table key none = go (shortest (sigs_with table key)) (shortest_found table key)
  where
    go : (o : Option Bytes) → FoundAt table key o → o ≡ None
    go None h = refl
    go (Some sig) h = absurd (none h.0 h.1 h.2)

-- ---- one more signature behind the others

with_shorter : (first : Bytes) (o : Option Bytes) (sig : Bytes) → shorter first (Some (shortest_with o sig)) ≡ shortest_with (Some (shorter first o)) sig
with_shorter first o sig = grind (arith, nat_tests)

-- the signature of one more pair, where it has the key
abbrev pub also : Bool → Option Bytes → (sig : Bytes) → Option Bytes
also b o sig = if b then Some (shortest_with o sig) else o

pub shortest_more : (table : Pairs) (pair : Bytes × Bytes) (key : Bytes)
    → shortest (sigs_with (table ++ pair ∷ []) key) ≡ also (bytes_eq pair.0 key) (shortest (sigs_with table key)) pair.1
shortest_more [] pair key = elim (cases_Bool (bytes_eq pair.0 key)) [ inl e ↦ rw e refl | inr e ↦ rw e refl ]
shortest_more (first ∷ table) pair key = elim (cases_Bool (bytes_eq first.0 key)) [
  | inl e ↦ rw (e, shortest_more table pair key) (put (bytes_eq pair.0 key) (shortest (sigs_with table key)))
  | inr e ↦ rw e (shortest_more table pair key)
]
  where
    put : (b : Bool) (o : Option Bytes) → Some (shorter first.1 (also b o pair.1)) ≡ also b (Some (shorter first.1 o)) pair.1
    put b o = grind (arith, with_shorter)

-- what is found among one more pair of a table
pub walked : (table : Pairs) (i : ℕ) (pair : Bytes × Bytes) (key : Bytes) (former latter : Option Bytes) (has : Bool) → i < length table → pair ≡ get_or table i pair
    → former ≡ shortest (sigs_with (take i table) key) → has ≡ bytes_eq pair.0 key → latter ≡ also has former pair.1 → latter ≡ shortest (sigs_with (take (i + 1) table) key)
walked table i pair key former latter has inside is before same now =
    now
    ∙ ap (λ b. also b former pair.1) same
    ∙ ap (λ o. also (bytes_eq pair.0 key) o pair.1) before
    ∙ sym (shortest_more (take i table) pair key)
    ∙ ap (λ pairs. shortest (sigs_with pairs key)) (ap (λ p. take i table ++ p ∷ []) is ∙ sym (take_more table i pair inside))

-- ---- what stands behind all that come before a key

not_below_zero : (n : ℕ) → is_lt (nat_cmp n 0) ≡ false
not_below_zero n = grind arith

-- a rank of the key doesn't come before the key's first
not_before : (keys sizes places : Ordering) → is_eq keys ≡ true → is_lt sizes ≡ false → is_lt places ≡ false → is_lt (ordering_then (ordering_then keys sizes) places) ≡ false
not_before keys sizes places e f g = grind arith

-- neither key comes before the other
both_ways : (there back : Ordering) → back ≡ ordering_reverse there → (sizes places sizes' places' : Ordering)
    → is_lt (ordering_then (ordering_then there sizes) places) ≡ false → is_lt (ordering_then (ordering_then back sizes') places') ≡ false → there ≡ Equal
both_ways there back e sizes places sizes' places' f g = grind arith

-- of ranks with one key that which doesn't come before the other
no_earlier : (size place size' place' : ℕ) → is_lt (ordering_then (nat_cmp size' size) (nat_cmp place' place)) ≡ false
    → (size < size') ⊎ ((size ≡ size') × (place ≤ place'))
no_earlier size place size' place' h = grind arith

same_cmp : (held key : Bytes) → bytes_eq held key ≡ true → slice_cmp nat_cmp held key ≡ Equal
same_cmp held key e = ap (slice_cmp nat_cmp held) (sym ((bytes_eq-Decides held key).0 e)) ∙ tied_itself nat_list_cmp_total held

-- the rank before which no signature of a key stands
abbrev pub first_of : Bytes → Rank
first_of key = record { key = key; size = 0; place = 0 }

all_inside : (table : Pairs) (order : List ℕ) → IsOrder table order → All (λ place. place < length table) order
all_inside table order is =
    All-permutation (λ place. place < length table) (range_with_len 0 (length table)) order is.whole
    (λ k d h. let at = get_or-range_with_len 0 (length table) k d (let same = length-range_with_len 0 (length table) in omega arith)
    in let same = length-range_with_len 0 (length table) in omega arith)

module _ (table : Pairs) (order : List ℕ) (is : IsOrder table order) (key : Bytes) (at : ℕ)
    (split : IsPartitionPoint (λ other. is_before table (first_of key) other ≡ true) (λ other. is_before table (first_of key) other ≡ false) order at) where
  -- each place of the key stands there or later
  reached : (j : ℕ) → j < length table → bytes_eq (pair_at table j).0 key ≡ true
      → (at < length order) × (is_lt (rank_cmp (rank_of table j) (rank_of table (get_or order at j))) ≡ false)
  reached j below same = go (cases_lt found.0 at)
    where
      stands : get_or (range_with_len 0 (length table)) j j ≡ j
      stands = get_or-range_with_len 0 (length table) j j below ∙ zero-add j

      found : Contains order j
      found = Contains-permutation (range_with_len 0 (length table)) order j is.whole (j, (let e = length-range_with_len 0 (length table) in omega arith), stands)

      later : is_before table (first_of key) j ≡ false
      later =
          not_before (slice_cmp nat_cmp (pair_at table j).0 key) (nat_cmp (length (pair_at table j).1) 0) (nat_cmp j 0)
          (is_eq-slice_cmp (pair_at table j).0 key ∙ same) (not_below_zero (length (pair_at table j).1)) (not_below_zero j)

      go : (found.0 < at) ⊎ (at ≤ found.0) → (at < length order) × (is_lt (rank_cmp (rank_of table j) (rank_of table (get_or order at j))) ≡ false)
      go (inl early) =
          absurd (let yes = subst (λ place. is_before table (first_of key) place ≡ true) found.2 (split.0 found.0 j (omega arith) early) in let no = later in cc)
      go (inr late) = (
        omega (arith, late, found.1),
        subst (λ place. is_lt (rank_cmp (rank_of table place) (rank_of table (get_or order at j))) ≡ false) found.2 (sorted_far _ (weak table) order is.sorted at found.0 j late found.1),
      )

  -- past the end none has it
  pub missing_is : length order ≤ at → None ≡ shortest (sigs_with table key)
  missing_is past = sym (shortest_none table key (λ j below same. let r = reached j below same in let inside = r.0 in omega arith))

  pub found_is : (place : ℕ) → at < length order → ((d : ℕ) → get_or order at d ≡ place) → sig_under table place key ≡ shortest (sigs_with table key)
  found_is place inside there = go (bytes_eq (pair_at table place).0 key) refl
    where
      behind : (j : ℕ) → j < length table → bytes_eq (pair_at table j).0 key ≡ true → is_lt (rank_cmp (rank_of table j) (rank_of table place)) ≡ false
      behind j below same =
          subst (λ k. is_lt (rank_cmp (rank_of table j) (rank_of table k)) ≡ false) (there j) (reached j below same).1

      ahead : is_before table (first_of key) place ≡ false
      ahead = subst (λ k. is_before table (first_of key) k ≡ false) (there 0) (split.1 at 0 (omega arith) inside)

      go : (b : Bool) → bytes_eq (pair_at table place).0 key ≡ b → (if b then Some (pair_at table place).1 else None) ≡ shortest (sigs_with table key)
      go true e = sym (shortest_at table key place (record {
        inside = subst (λ k. k < length table) (there 0) (all_inside table order is at 0 inside);
        same = e;
        least = λ j below same.
            let one : slice_cmp nat_cmp (pair_at table j).0 (pair_at table place).0 ≡ Equal =
            same_cmp (pair_at table j).0 (pair_at table place).0
            (subst (λ k. bytes_eq (pair_at table j).0 k ≡ true) (sym ((bytes_eq-Decides (pair_at table place).0 key).0 e)) same) in
            no_earlier (length (pair_at table place).1) place (length (pair_at table j).1) j (rw one at (behind j below same));
      }))
      go false e = sym (shortest_none table key (λ j below same.
          let is_key : (pair_at table j).0 ≡ key = (bytes_eq-Decides (pair_at table j).0 key).0 same in
          let one : slice_cmp nat_cmp (pair_at table place).0 key ≡ Equal =
          both_ways (slice_cmp nat_cmp (pair_at table place).0 key) (slice_cmp nat_cmp (pair_at table j).0 (pair_at table place).0)
          (ap (λ k. slice_cmp nat_cmp k (pair_at table place).0) is_key ∙ nat_list_cmp_total.antisymm key (pair_at table place).0)
          (nat_cmp (length (pair_at table place).1) 0) (nat_cmp place 0) (nat_cmp (length (pair_at table j).1) (length (pair_at table place).1)) (nat_cmp j place)
          ahead (behind j below same) in
          let yes : bytes_eq (pair_at table place).0 key ≡ true = sym (is_eq-slice_cmp (pair_at table place).0 key) ∙ ap is_eq one in
          let no = e in cc))

-- a signature is found exactly where one is held
pub some_held : (table : Pairs) (key : Bytes) → is_some (shortest (sigs_with table key)) ≡ list_any (λ pair. bytes_eq key pair.0) table
some_held [] key = refl
some_held (pair ∷ table) key =
    rw (bytes_eq-symm key pair.0) (elim (cases_Bool (bytes_eq pair.0 key)) [ inl e ↦ rw e refl | inr e ↦ rw e (some_held table key) ])

-- ---- one more signature

range_more : (a n : ℕ) → range_with_len a (n + 1) ≡ range_with_len a n ++ (a + n) ∷ []
range_more a zero = rw add-zero refl
range_more a (suc n) =
    let e : suc n + 1 ≡ suc (n + 1) = omega arith in
    let f : a + 1 + n ≡ a + suc n = omega arith in
    ap (range_with_len a) e ∙ ap (λ xs. a ∷ xs) (range_more (a + 1) n ∙ ap (λ k. range_with_len (a + 1) n ++ k ∷ []) f)

-- ranks that are the same stand alike
alike : (a a' b b' : Rank) → a' ≡ a → b' ≡ b → is_lt (rank_cmp a b) ≡ false → is_lt (rank_cmp a' b') ≡ false
alike a a' b b' e f h = ap (λ r. is_lt (rank_cmp r b')) e ∙ ap (λ r. is_lt (rank_cmp a r)) f ∙ h

module _ (table : Pairs) (order : List ℕ) (is : IsOrder table order) (key sig : Bytes) (at : ℕ) (inside : at ≤ length order) where
  abbrev new_rank : Rank
  new_rank = record { key = key; size = length sig; place = length table }

  abbrev longer : Pairs
  longer = table ++ (key, sig) ∷ []

  all_places : IsPermutation (range_with_len 0 (length longer)) (insert order at (length table))
  all_places =
      let n = length table in
      let e : range_with_len 0 (length longer) ≡ range_with_len 0 n ++ n ∷ [] =
      ap (range_with_len 0) (length-append table ((key, sig) ∷ [])) ∙ range_more 0 n ∙ ap (λ k. range_with_len 0 n ++ k ∷ []) (zero-add n) in
      subst (λ places. IsPermutation places (insert order at n)) (sym e)
      (IsPermutation-trans _ _ _ (IsPermutation-to_front (range_with_len 0 n) n)
      (IsPermutation-trans _ _ _ (IsPermutation-cons n (range_with_len 0 n) order is.whole) (IsPermutation-insert order at n)))

  old_rank : (place : ℕ) → place < length table → rank_of longer place ≡ rank_of table place
  old_rank place h =
      let e : pair_at longer place ≡ pair_at table place = get_or_append_left table ((key, sig) ∷ []) ([], []) place h in
      ap (λ (pair : Bytes × Bytes). let r : Rank = record { key = pair.0; size = length pair.1; place = place } in r) e

  last_rank : rank_of longer (length table) ≡ new_rank
  last_rank =
      let e : pair_at longer (length table) ≡ (key, sig) = get_or-append_seam table (key, sig) [] ([], []) in
      ap (λ (pair : Bytes × Bytes). let r : Rank = record { key = pair.0; size = length pair.1; place = length table } in r) e

  module _ (split : IsPartitionPoint (λ other. is_before table new_rank other ≡ true) (λ other. is_before table new_rank other ≡ false) order at) where
    rank_at : (k d : ℕ) → k < length order → rank_of longer (get_or order k d) ≡ rank_of table (get_or order k d)
    rank_at k d h = old_rank (get_or order k d) (all_inside table order is k d h)

    both_old : (k d : ℕ) → k + 1 < length order → is_lt (rank_cmp (rank_of longer (get_or order (k + 1) d)) (rank_of longer (get_or order k d))) ≡ false
    both_old k d h =
        alike _ _ _ _ (rank_at (k + 1) d h) (rank_at k d (omega (arith, h))) (is.sorted k d (omega arith) h)

    new_after : (k d : ℕ) → k < at → is_lt (rank_cmp (rank_of longer (length table)) (rank_of longer (get_or order k d))) ≡ false
    new_after k d h =
        alike _ _ _ _ last_rank (rank_at k d (omega (arith, h, inside))) (ranks_weak.one_way (rank_of table (get_or order k d)) new_rank (split.0 k d (omega arith) h))

    new_before : (k d : ℕ) → at ≤ k → k < length order → is_lt (rank_cmp (rank_of longer (get_or order k d)) (rank_of longer (length table))) ≡ false
    new_before k d h below =
        alike _ _ _ _ (rank_at k d below) last_rank (split.1 k d h below)

    adjacent : (k d : ℕ) → k + 1 < length order + 1
        → is_lt (rank_cmp (rank_of longer (get_or (insert order at (length table)) (k + 1) d)) (rank_of longer (get_or (insert order at (length table)) k d))) ≡ false
    adjacent k d h = go (cases_lt (k + 1) at) (cases_lt k at)
      where
        goal : ℕ → ℕ → Type 0
        goal latter former = is_lt (rank_cmp (rank_of longer latter) (rank_of longer former)) ≡ false

        both : {a b a' b' : ℕ} → a' ≡ a → b' ≡ b → goal a b → goal a' b'
        both {a} {b} {a'} {b'} e f g = alike _ _ _ _ (ap (rank_of longer) e) (ap (rank_of longer) f) g

        go : (k + 1 < at) ⊎ (at ≤ k + 1) → (k < at) ⊎ (at ≤ k) → goal (get_or (insert order at (length table)) (k + 1) d) (get_or (insert order at (length table)) k d)
        go (inl low) other =
            both (get_or-insert_below order at (length table) d (k + 1) low inside)
            (get_or-insert_below order at (length table) d k (omega (arith, low)) inside) (both_old k d (omega (arith, low, inside)))
        go (inr high) (inl low) =
            let e : k + 1 ≡ at = omega (arith, high, low) in
            both (ap (λ i. get_or (insert order at (length table)) i d) e ∙ get_or-insert_at order at (length table) d inside)
            (get_or-insert_below order at (length table) d k low inside) (new_after k d low)
        go (inr high) (inr above) = last (cases_lt at k)
          where
            last : (at < k) ⊎ (k ≤ at) → goal (get_or (insert order at (length table)) (k + 1) d) (get_or (insert order at (length table)) k d)
            last (inr same) =
                let e : k ≡ at = omega (arith, same, above) in
                both (get_or-insert_above order at (length table) d k above inside)
                (ap (λ i. get_or (insert order at (length table)) i d) e ∙ get_or-insert_at order at (length table) d inside)
                (new_before k d above (omega (arith, h)))
            last (inl beyond) =
                let e : k ≡ (k - 1) + 1 = omega (arith, beyond) in
                both (get_or-insert_above order at (length table) d k above inside ∙ ap (λ i. get_or order i d) e)
                (ap (λ i. get_or (insert order at (length table)) i d) e ∙ get_or-insert_above order at (length table) d (k - 1) (omega (arith, beyond)) inside)
                (both_old (k - 1) d (omega (arith, beyond, h)))

    pub put_in : IsOrder longer (insert order at (length table))
    put_in = record {
      whole = all_places;
      sorted = λ k d low h. adjacent k d (let e = length-insert order at (length table) inside in omega (arith, h, e));
    }

-- ---- the same under other names

pub is_order : (table table' : Pairs) (order order' : List ℕ) → table' ≡ table → order' ≡ order → IsOrder table order → IsOrder table' order'
is_order table table' order order' e f is = subst (λ t. IsOrder t order') (sym e) (subst (IsOrder table) (sym f) is)

pub inserted : {T E : Type 0} (r : Result T E) (new old places : List ℕ) → is_err r ≡ false → places ≡ (if is_ok r then new else old) → places ≡ new
inserted r new old places e f = grind arith

pub some_seen : (o : Option (Bor Bytes)) → is_some o ≡ is_some (option_map (λ sig. sig.now) o)
some_seen o = grind arith

pub not_within : (k n : ℕ) → false ≡ nat_lt k n → n ≤ k
not_within k n e = let no = sym e in grind (arith, nat_tests)
