-- Marked signatures are told from one another and from those with the other marks, and in two stacks that differ in
-- signatures alone they are those that differ.
use Rattle.std.proofs.Common.{◌≡◌, ◌≢◌, ℕ, zero, suc, ◌+◌, ◌-◌, ◌<◌, ◌≤◌, Bool, true, false, ◌||◌, List, [], ◌∷◌, length, map, find, filter, replicate, reverse, get_or, All, Contains, Option, Some, refl, sym, ◌∙◌, ap, subst, ◌⊎◌, inl, inr, arith, if◌then◌else◌}
use Rattle.std.specs.Option.{option_map}
use Rattle.std.specs.List.{list_any, IsDistinct}
use Rattle.std.specs.Str.{bytes_eq}
use Rattle.std.proofs.lemmas.Bool.{false≢true, or_cases}
use Rattle.std.proofs.lemmas.Option.{none-some, same_Some}
use Rattle.std.proofs.lemmas.List.{length-replicate, reverse-reverse, length-reverse}
use Rattle.std.proofs.lemmas.List.Elements.{All-head, All-tail}
use Rattle.std.proofs.lemmas.Slice.Eq.{bytes_eq-Decides}
use Rattle.def_script.specs.Bytes.{Bytes}
use Rattle.def_machine.specs.Stacks.{Stack, Pairs}
use Rattle.def_tree.specs.Tree.{Key}
use Rattle.def_assets.specs.Assets.{same_key}
use Rattle.def_assets.proofs.Distinct.{distinct_keys}
use Rattle.def_choice.proofs.Weights.{reverse-cons}
use Rattle.def_sane.specs.Keys.{AreDistinct}
use Rattle.def_plan.specs.Lengths.{Lengths}
use Rattle.def_plan.specs.Plan.{IsPartOf}
use Rattle.ms_row_laws.proofs.KeyLists.{first_in, later_in, no_element}
use Rattle.ms_plan_laws.proofs.Alike.{BothHave, have_left, have_right}
use Rattle.ms_plan_laws.proofs.Order.{first_or_other, in_part}
use Rattle.ms_plan.specs.declared.marks.Marks.{Marks}
use Rattle.ms_plan.specs.declared.marks.Marks.TheVariants as marks
use Rattle.ms_plan.specs.Scaffolding.Marks.{mark_of, marked, differing}

-- ---- marks

-- the entry at a place, numbered from `first` on
abbrev At : (first : ℕ) → Lengths → (place : ℕ) → Key → (n : ℕ) → Type 0
At first [] place key n = ⊥
At first (entry ∷ table) place key n = ((place ≡ first) × (entry.0 ≡ key) × (entry.1 ≡ n)) ⊎ At (first + 1) table place key n

at_range : (first : ℕ) (table : Lengths) (place : ℕ) (key : Key) (n : ℕ) → At first table place key n → (first ≤ place) × (place < first + length table)
at_range first [] place key n h = absurd h
at_range first (entry ∷ table) place key n (inl h) = let e = h.0 in (omega (arith, e), omega (arith, e))
at_range first (entry ∷ table) place key n (inr h) = let r = at_range (first + 1) table place key n h in let a = r.0 in let b = r.1 in (omega (arith, a), omega (arith, b))

at_same : (first : ℕ) (table : Lengths) (place : ℕ) (one two : Key) (n m : ℕ) → At first table place one n → At first table place two m → one ≡ two
at_same first [] place one two n m h k = absurd h
at_same first (entry ∷ table) place one two n m (inl h) (inl k) = sym h.1 ∙ k.1
at_same first (entry ∷ table) place one two n m (inl h) (inr k) = let r = (at_range (first + 1) table place two m k).0 in let e = h.0 in absurd (omega (arith, r, e))
at_same first (entry ∷ table) place one two n m (inr h) (inl k) = let r = (at_range (first + 1) table place one n h).0 in let e = k.0 in absurd (omega (arith, r, e))
at_same first (entry ∷ table) place one two n m (inr h) (inr k) = at_same (first + 1) table place one two n m h k

at_some : (first : ℕ) (table : Lengths) (place : ℕ) (key : Key) (n : ℕ) → All (λ entry. 1 ≤ entry.1) table → At first table place key n → 1 ≤ n
at_some first [] place key n all h = absurd h
at_some first (entry ∷ table) place key n all (inl h) = subst (λ m. 1 ≤ m) h.2 (All-head (λ e. 1 ≤ e.1) entry table all)
at_some first (entry ∷ table) place key n all (inr h) = at_some (first + 1) table place key n (All-tail (λ e. 1 ≤ e.1) entry table all) h

-- the signature of the first pair with a key
abbrev pub found_in : Pairs → Key → Option Bytes
found_in pairs key = option_map (λ pair. pair.1) (find (λ pair. bytes_eq pair.0 key) pairs)

marked_keys : (m : Marks) (first : ℕ) (table : Lengths) → map (λ entry. entry.0) table ≡ map (λ pair. pair.0) (marked m first table)
marked_keys m first [] = refl
marked_keys m first (entry ∷ table) = ap (λ ks. entry.0 ∷ ks) (marked_keys m (first + 1) table)

-- no key stands twice
pub marked_distinct : (m : Marks) (first : ℕ) (table : Lengths) → IsDistinct bytes_eq (map (λ entry. entry.0) table) → IsDistinct same_key (marked m first table)
marked_distinct m first table h = distinct_keys (marked m first table) (subst (IsDistinct bytes_eq) (marked_keys m first table) h)

-- the signatures of a key in both ways
both_found : (first : ℕ) (table : Lengths) (key : Key) (a b : Bytes) → found_in (marked marks.Rising first table) key ≡ Some a → found_in (marked marks.Falling first table) key ≡ Some b →
    (place : ℕ) × (n : ℕ) × At first table place key n × (a ≡ replicate n place) × (b ≡ replicate n (255 - place))
both_found first [] key a b h k = absurd (none-some a h)
both_found first (entry ∷ table) key a b h k = go (bytes_eq entry.0 key) refl h k (both_found (first + 1) table key a b)
  where
    go : (test : Bool) → bytes_eq entry.0 key ≡ test →
        option_map (λ p. p.1) (if test then Some (entry.0, replicate entry.1 first) else find (λ p. bytes_eq p.0 key) (marked marks.Rising (first + 1) table)) ≡ Some a →
        option_map (λ p. p.1) (if test then Some (entry.0, replicate entry.1 (255 - first)) else find (λ p. bytes_eq p.0 key) (marked marks.Falling (first + 1) table)) ≡ Some b →
        (found_in (marked marks.Rising (first + 1) table) key ≡ Some a → found_in (marked marks.Falling (first + 1) table) key ≡ Some b →
        (place : ℕ) × (n : ℕ) × At (first + 1) table place key n × (a ≡ replicate n place) × (b ≡ replicate n (255 - place))) →
        (place : ℕ) × (n : ℕ) × At first (entry ∷ table) place key n × (a ≡ replicate n place) × (b ≡ replicate n (255 - place))
    go true e h k more = (first, entry.1, inl (refl, (bytes_eq-Decides entry.0 key).0 e, refl), sym (same_Some _ a h), sym (same_Some _ b k))
    go false e h k more = let r = more h k in (r.0, r.1, inr r.2, r.3, r.4)

one_found : (first : ℕ) (table : Lengths) (key : Key) (a : Bytes) → found_in (marked marks.Rising first table) key ≡ Some a →
    (place : ℕ) × (n : ℕ) × At first table place key n × (a ≡ replicate n place)
one_found first [] key a h = absurd (none-some a h)
one_found first (entry ∷ table) key a h = go (bytes_eq entry.0 key) refl h (one_found (first + 1) table key a)
  where
    go : (test : Bool) → bytes_eq entry.0 key ≡ test →
        option_map (λ p. p.1) (if test then Some (entry.0, replicate entry.1 first) else find (λ p. bytes_eq p.0 key) (marked marks.Rising (first + 1) table)) ≡ Some a →
        (found_in (marked marks.Rising (first + 1) table) key ≡ Some a → (place : ℕ) × (n : ℕ) × At (first + 1) table place key n × (a ≡ replicate n place)) →
        (place : ℕ) × (n : ℕ) × At first (entry ∷ table) place key n × (a ≡ replicate n place)
    go true e h more = (first, entry.1, inl (refl, (bytes_eq-Decides entry.0 key).0 e, refl), sym (same_Some _ a h))
    go false e h more = let r = more h in (r.0, r.1, inr r.2, r.3)

-- bytes of one kind
same_byte : (n m x y : ℕ) → 1 ≤ n → 1 ≤ m → replicate n x ≡ replicate m y → x ≡ y
same_byte zero m x y h k e = absurd (omega (arith, h))
same_byte (suc n) zero x y h k e = absurd (omega (arith, k))
same_byte (suc n) (suc m) x y h k e = ap (λ l. get_or l 0 0) e

pub own_mark : (table : Lengths) (one two : Key) (sig : Bytes) → All (λ entry. 1 ≤ entry.1) table →
    found_in (marked marks.Rising 0 table) one ≡ Some sig → found_in (marked marks.Rising 0 table) two ≡ Some sig → one ≡ two
own_mark table one two sig some h k =
    let p = one_found 0 table one sig h in
    let q = one_found 0 table two sig k in
    let same = same_byte p.1 q.1 p.0 q.0 (at_some 0 table p.0 one p.1 some p.2) (at_some 0 table q.0 two q.1 some q.2) (sym p.3 ∙ q.3) in
    at_same 0 table p.0 one two p.1 q.1 p.2 (subst (λ place. At 0 table place two q.1) (sym same) q.2)

pub other_mark : (table : Lengths) (key : Key) (a b : Bytes) → All (λ entry. 1 ≤ entry.1) table → length table ≤ 256 →
    found_in (marked marks.Rising 0 table) key ≡ Some a → found_in (marked marks.Falling 0 table) key ≡ Some b → a ≢ b
other_mark table key a b some few h k e =
    let p = both_found 0 table key a b h k in
    let one = at_some 0 table p.0 key p.1 some p.2 in
    let same = same_byte p.1 p.1 p.0 (255 - p.0) one one (sym p.3 ∙ e ∙ p.4) in
    let below = (at_range 0 table p.0 key p.1 p.2).1 in
    omega (arith, same, below, few)

pub marked_long : (m : Marks) (first : ℕ) (table : Lengths) → map (λ pair. (pair.0, length pair.1)) (marked m first table) ≡ table
marked_long m first [] = refl
marked_long m first (entry ∷ table) =
    ap (λ n. (entry.0, n) ∷ map (λ pair. (pair.0, length pair.1)) (marked m (first + 1) table)) (length-replicate {A = ℕ} entry.1 (mark_of m first))
    ∙ ap (λ t. entry ∷ t) (marked_long m (first + 1) table)

-- ---- two stacks turned round

have_turned : (w v : Stack) (a b : Bytes) → length w ≡ length v → BothHave w v a b → BothHave (reverse w) (reverse v) a b
have_turned [] v a b e h = absurd h
have_turned (x ∷ w) [] a b e h = absurd h
have_turned (x ∷ w) (y ∷ v) a b e h =
    let same : length (reverse w) ≡ length (reverse v) = length-reverse w ∙ lesser e ∙ sym (length-reverse v) in
    rw (reverse-cons x w, reverse-cons y v)
    (elim h [
      | inl i ↦ have_right (reverse w) (reverse v) (x ∷ []) (y ∷ []) a b same (inl i)
      | inr i ↦ have_left (reverse w) (reverse v) (x ∷ []) (y ∷ []) a b (have_turned w v a b (lesser e) i)
    ])
  where
    lesser : length (x ∷ w) ≡ length (y ∷ v) → length w ≡ length v
    lesser e = omega (arith, e)

pub turned_have : (w v : Stack) (a b : Bytes) → length w ≡ length v → BothHave (reverse w) (reverse v) a b → BothHave w v a b
turned_have w v a b e h =
    rw (reverse-reverse w, reverse-reverse v) at (have_turned (reverse w) (reverse v) a b (length-reverse w ∙ e ∙ sym (length-reverse v)) h)

pub have_reversed : (w v : Stack) (a b : Bytes) → length w ≡ length v → BothHave w v a b → BothHave (reverse w) (reverse v) a b
have_reversed = have_turned

-- ---- the items that differ

pub differs : (w v : Stack) (a b : Bytes) → BothHave w v a b → a ≢ b → list_any (λ item. bytes_eq item a) (differing w v) ≡ true
differs [] v a b h apart = absurd h
differs (x ∷ w) [] a b h apart = absurd h
differs (x ∷ w) (y ∷ v) a b h apart = go (bytes_eq x y) refl h (λ i. differs w v a b i apart)
  where
    go : (test : Bool) → bytes_eq x y ≡ test → BothHave (x ∷ w) (y ∷ v) a b → (BothHave w v a b → list_any (λ item. bytes_eq item a) (differing w v) ≡ true) →
        list_any (λ item. bytes_eq item a) (if test then differing w v else x ∷ differing w v) ≡ true
    go true e (inl i) more = absurd (apart (sym i.0 ∙ (bytes_eq-Decides x y).0 e ∙ i.1))
    go true e (inr i) more = more i
    go false e (inl i) more = rw ((bytes_eq-Decides x a).1 i.0) refl
    go false e (inr i) more = rw (more i) (either (bytes_eq x a))
      where
        either : (b : Bool) → (b || true) ≡ true
        either true = refl
        either false = refl

pub which_differs : (w v : Stack) (a : Bytes) → list_any (λ item. bytes_eq item a) (differing w v) ≡ true → (b : Bytes) × BothHave w v a b × (a ≢ b)
which_differs [] v a h = absurd (false≢true h)
which_differs (x ∷ w) [] a h = absurd (false≢true h)
which_differs (x ∷ w) (y ∷ v) a h = go (bytes_eq x y) refl h (which_differs w v a)
  where
    go : (test : Bool) → bytes_eq x y ≡ test → list_any (λ item. bytes_eq item a) (if test then differing w v else x ∷ differing w v) ≡ true →
        (list_any (λ item. bytes_eq item a) (differing w v) ≡ true → (b : Bytes) × BothHave w v a b × (a ≢ b)) → (b : Bytes) × BothHave (x ∷ w) (y ∷ v) a b × (a ≢ b)
    go true e k more = let r = more k in (r.0, inr r.1, r.2)
    go false e k more =
        elim (or_cases (bytes_eq x a) (list_any (λ item. bytes_eq item a) (differing w v)) k) [
          | inl i ↦
              let same = (bytes_eq-Decides x a).0 i in
              (y, inl (same, refl), λ f. false≢true (sym e ∙ (bytes_eq-Decides x y).1 (same ∙ f)))
          | inr i ↦ (let r = more i in (r.0, inr r.1, r.2))
        ]

-- ---- what passes a test, where some of the elements do

pub part_filter : (test : Key → Bool) (some all : List Key) → IsPartOf some all → AreDistinct all →
    ((k : Key) → Contains all k → Contains some k → test k ≡ true) → ((k : Key) → Contains all k → test k ≡ true → Contains some k) → filter test all ≡ some
part_filter test [] [] h d pass back = refl
part_filter test (k ∷ some) [] h d pass back = absurd h
part_filter test [] (f ∷ all) h d pass back =
    go (test f) refl (part_filter test [] all tt d.1 (λ j i l. absurd (no_element j l)) (λ j i t. back j (later_in f all j i) t))
  where
    go : (b : Bool) → test f ≡ b → filter test all ≡ [] → (if b then f ∷ filter test all else filter test all) ≡ []
    go true e rest = absurd (no_element f (back f (first_in f all) e))
    go false e rest = rest
part_filter test (k ∷ some) (f ∷ all) (inl h) d pass back =
    go (test f) refl (part_filter test some all h.1 d.1
    (λ j i l. pass j (later_in f all j i) (later_in k some j l))
    (λ j i t. elim (first_or_other k some j (back j (later_in f all j i) t)) [
      | inl e ↦ absurd (d.0 (subst (Contains all) (e ∙ h.0) i))
      | inr l ↦ l
    ]))
  where
    go : (b : Bool) → test f ≡ b → filter test all ≡ some → (if b then f ∷ filter test all else filter test all) ≡ k ∷ some
    go true e rest = ap (λ x. x ∷ filter test all) (sym h.0) ∙ ap (λ l. k ∷ l) rest
    go false e rest = absurd (false≢true (sym e ∙ pass f (first_in f all) (subst (Contains (k ∷ some)) h.0 (first_in k some))))
part_filter test (k ∷ some) (f ∷ all) (inr h) d pass back =
    go (test f) refl (part_filter test (k ∷ some) all h d.1
    (λ j i l. pass j (later_in f all j i) l)
    (λ j i t. back j (later_in f all j i) t))
  where
    go : (b : Bool) → test f ≡ b → filter test all ≡ k ∷ some → (if b then f ∷ filter test all else filter test all) ≡ k ∷ some
    go true e rest = absurd (d.0 (in_part (k ∷ some) all h f (back f (first_in f all) e)))
    go false e rest = rest
