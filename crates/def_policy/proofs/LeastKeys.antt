-- The size of the smallest set of a policy's keys that suffices is the least number of keys.
use Rattle.std.proofs.Common.{◌≡◌, ◌⊎◌, inl, inr, ℕ, ◌+◌, ◌≤◌, nat_le, min, Bool, true, false, not, ◌&&◌, ◌||◌, if◌then◌else◌, List, [], ◌∷◌, ◌++◌, length, map, Option, Some, None, refl, sym, ap, subst, ◌∙◌, arith}
use Rattle.std.specs.List.{list_any, list_all, filter, IsDistinct, AllByRecursion}
use Rattle.std.specs.Str.{bytes_eq}
use Rattle.std.proofs.Math.Bool.{and-false, or-true}
use Rattle.std.proofs.lemmas.Bool.{or_parts, not-true}
use Rattle.std.proofs.lemmas.List.Folds.{list_any-append}
use Rattle.std.proofs.lemmas.Map.Views.{any-filter_same}
use Rattle.std.proofs.lemmas.Slice.Eq.{bytes_eq-Decides}
use Rattle.def_tree.specs.Tree.{Key}
use Rattle.def_policy.specs.Policy.{Policy, Policies, key, all, any, thresh, none, more}
use Rattle.def_policy.specs.Truth.{how_many, is_true, truths, with_keys}
use Rattle.def_policy.specs.Keys.{keys, keys_of, AreLeastKeys}
use Rattle.def_policy.specs.LeastKeys.{key_sets, least_with, smallest, least_keys}
use Rattle.def_policy.specs.Laws.{LeastKeysAreLeast, OneLeast}
use Rattle.def_policy.proofs.Joins.{if_cases}

abbrev signs : List Key → Key → Bool
signs signers k = list_any (bytes_eq k) signers

-- ---- what is in a list

abbrev In : List Key → List (List Key) → Type 0
In s [] = ⊥
In s (t ∷ ts) = (s ≡ t) ⊎ In s ts

in_left : (s : List Key) (ts us : List (List Key)) → In s ts → In s (ts ++ us)
in_left s [] us h = absurd h
in_left s (t ∷ ts) us (inl is) = inl is
in_left s (t ∷ ts) us (inr h) = inr (in_left s ts us h)

in_right : (s : List Key) (ts us : List (List Key)) → In s us → In s (ts ++ us)
in_right s [] us h = h
in_right s (t ∷ ts) us h = inr (in_right s ts us h)

in_either : (s : List Key) (ts us : List (List Key)) → In s (ts ++ us) → In s ts ⊎ In s us
in_either s [] us h = inr h
in_either s (t ∷ ts) us (inl is) = inl (inl is)
in_either s (t ∷ ts) us (inr h) = elim (in_either s ts us h) [ inl a ↦ inl (inr a) | inr b ↦ inr b ]

-- the sets that lack a key, with it
abbrev pub without : Key → List (List Key) → List (List Key)
without k ts = filter (λ s. not (signs s k)) ts

in_without : (k : Key) (s : List Key) (ts : List (List Key)) → In s ts → signs s k ≡ false → In s (without k ts)
in_without k s [] h e = absurd h
in_without k s (t ∷ ts) (inl is) e = let lacks : signs t k ≡ false = subst (λ u. signs u k ≡ false) is e in rw lacks (inl is)
in_without k s (t ∷ ts) (inr h) e =
    let rest = in_without k s ts h e in if_cases (In s) (not (signs t k)) _ _ (λ q. inr rest) (λ q. rest)

in_with : (k : Key) (s : List Key) (ts : List (List Key)) → In s ts → In (k ∷ s) (map (λ t. k ∷ t) ts)
in_with k s [] h = absurd h
in_with k s (t ∷ ts) (inl is) = inl (ap (λ u. k ∷ u) is)
in_with k s (t ∷ ts) (inr h) = inr (in_with k s ts h)

-- a set with a key, taken apart
record HasRest (k : Key) (s : List Key) (ts : List (List Key)) : Type 0 where
  rest : List Key
  is : s ≡ k ∷ rest
  lacks : signs rest k ≡ false
  before : In rest ts

later : (k : Key) (s t : List Key) (ts : List (List Key)) → HasRest k s ts → HasRest k s (t ∷ ts)
later k s t ts h = record { rest = h.rest; is = h.is; lacks = h.lacks; before = inr h.before }

rest_of : (k : Key) (s : List Key) (ts : List (List Key)) → In s (map (λ t. k ∷ t) (without k ts)) → HasRest k s ts
rest_of k s [] h = absurd h
rest_of k s (t ∷ ts) h =
    if_cases (λ us. In s (map (λ u. k ∷ u) us) → HasRest k s (t ∷ ts)) (not (signs t k)) _ _ (λ q h. elim h [
      | inl is ↦ record { rest = t; is = is; lacks = not-true (signs t k) q; before = inl refl }
      | inr h ↦ later k s t ts (rest_of k s ts h)
    ]) (λ q h. later k s t ts (rest_of k s ts h)) h

-- ---- no key stands twice in a set

all_differ : (k : Key) (s : List Key) → signs s k ≡ false → AllByRecursion (λ y. bytes_eq k y ≡ false) s
all_differ k [] e = tt
all_differ k (x ∷ s) e = let parts = or_parts (bytes_eq k x) (signs s k) e in (parts.0, all_differ k s parts.1)

each_distinct : (ks s : List Key) → In s (key_sets ks) → IsDistinct bytes_eq s
unfolding IsDistinct
each_distinct [] s (inl is) = subst (IsDistinct bytes_eq) (sym is) tt
each_distinct [] s (inr h) = absurd h
each_distinct (k ∷ ks) s h = elim (in_either s (key_sets ks) (map (λ t. k ∷ t) (without k (key_sets ks))) h) [
  | inl a ↦ each_distinct ks s a
  | inr b ↦
      let split = rest_of k s (key_sets ks) b in
      subst (IsDistinct bytes_eq) (sym split.is) (all_differ k split.rest split.lacks, each_distinct ks split.rest split.before)
]

-- ---- the smallest set that passes

record Found (passes : List Key → Bool) (ss : List (List Key)) (n : ℕ) : Type 0 where
  set : List Key
  member : In set ss
  passed : passes set ≡ true
  size : length set ≡ n

found_later : (passes : List Key → Bool) (s : List Key) (ss : List (List Key)) (n : ℕ) → Found passes ss n → Found passes (s ∷ ss) n
found_later passes s ss n f = record { set = f.set; member = inr f.member; passed = f.passed; size = f.size }

lesser_either : (a n : ℕ) (o : Option ℕ) → least_with a o ≡ Some n → (a ≡ n) ⊎ (o ≡ Some n)
lesser_either a n None e = inl (cc e)
lesser_either a n (Some m) e = let is : min a m ≡ n = cc e in elim (min_either a m) [
  | inl first ↦ inl (sym first ∙ is)
  | inr second ↦ inr (ap Some (sym second ∙ is))
]
  where
    min_either : (a m : ℕ) → (min a m ≡ a) ⊎ (min a m ≡ m)
    min_either a m = grind arith

found_set : (passes : List Key → Bool) (ss : List (List Key)) (n : ℕ) → smallest passes ss ≡ Some n → Found passes ss n
found_set passes [] n e = cc e
found_set passes (s ∷ ss) n e =
    if_cases (λ o. o ≡ Some n → Found passes (s ∷ ss) n) (passes s) _ _ (λ q e. elim (lesser_either (length s) n (smallest passes ss) e) [
      | inl here ↦ record { set = s; member = inl refl; passed = q; size = here }
      | inr there ↦ found_later passes s ss n (found_set passes ss n there)
    ]) (λ q e. found_later passes s ss n (found_set passes ss n e)) e

-- at most so many
abbrev AtMost : Option ℕ → ℕ → Type 0
AtMost None m = ⊥
AtMost (Some n) m = n ≤ m

lesser_left : (a : ℕ) (o : Option ℕ) → AtMost (least_with a o) a
lesser_left a None = omega arith
lesser_left a (Some m) = omega arith

lesser_right : (a m : ℕ) (o : Option ℕ) → AtMost o m → AtMost (least_with a o) m
lesser_right a m None h = absurd h
lesser_right a m (Some n) h = omega (arith, h)

no_more : (passes : List Key → Bool) (ss : List (List Key)) (s : List Key) → In s ss → passes s ≡ true → AtMost (smallest passes ss) (length s)
no_more passes [] s h e = absurd h
no_more passes (t ∷ ts) s (inl is) e =
    let passed : passes t ≡ true = subst (λ u. passes u ≡ true) is e in
    rw (passed, is) (lesser_left (length t) (smallest passes ts))
no_more passes (t ∷ ts) s (inr h) e =
    let rest = no_more passes ts s h e in
    if_cases (λ o. AtMost o (length s)) (passes t) _ _ (λ q. lesser_right (length t) (length s) (smallest passes ts) rest) (λ q. rest)

-- ---- of any keys those that are among some others

same_key : (q k : Key) → bytes_eq q k ≡ true → q ≡ k
same_key q k e = (bytes_eq-Decides q k).0 e

own_key : (k : Key) → bytes_eq k k ≡ true
own_key k = (bytes_eq-Decides k k).1 refl

-- some keys without this one
abbrev pub dropped : Key → List Key → List Key
dropped k ks = filter (λ x. not (bytes_eq k x)) ks

pub fewer : (k : Key) (ks : List Key) → length (dropped k ks) ≤ length ks
fewer k [] = omega arith
fewer k (x ∷ ks) =
    let rest = fewer k ks in
    if_cases (λ l. length l ≤ length (x ∷ ks)) (not (bytes_eq k x)) _ _ (λ q. omega (arith, rest)) (λ q. omega (arith, rest))

one_fewer : (k : Key) (ks : List Key) → signs ks k ≡ true → length (dropped k ks) + 1 ≤ length ks
one_fewer k [] e = cc e
one_fewer k (x ∷ ks) e = go (bytes_eq k x) (λ e. one_fewer k ks e) e
  where
    go : (b : Bool) → (signs ks k ≡ true → length (dropped k ks) + 1 ≤ length ks) → (b || signs ks k) ≡ true
        → length (if not b then x ∷ dropped k ks else dropped k ks) + 1 ≤ length (x ∷ ks)
    go true one e = let rest = fewer k ks in omega (arith, rest)
    go false one e = let rest = one e in omega (arith, rest)

kept : (k q : Key) (b : Bool) → bytes_eq q k ≡ b → (x : Key) → bytes_eq q x ≡ true → not (bytes_eq k x) ≡ not b
kept k q true e x is = rw (sym (same_key q x is), same_key q k e) (ap not (own_key k))
kept k q false e x is = go (bytes_eq k x) refl
  where
    go : (b : Bool) → bytes_eq k x ≡ b → not b ≡ true
    go true same = let one : q ≡ k = same_key q x is ∙ sym (same_key k x same) in cc (sym e ∙ subst (λ y. bytes_eq q y ≡ true) one (own_key q))
    go false other = refl

-- whether a key is among those without this one
dropped_signs : (k q : Key) (b : Bool) → bytes_eq q k ≡ b → (ks : List Key) → signs (dropped k ks) q ≡ (not b && signs ks q)
dropped_signs k q b e ks = any-filter_same (bytes_eq q) (λ x. not (bytes_eq k x)) (not b) (kept k q b e) ks

-- a set of the first keys that has those among the others alone
record Chosen (others ks : List Key) : Type 0 where
  set : List Key
  member : In set (key_sets ks)
  same : (q : Key) → signs set q ≡ (signs ks q && signs others q)
  few : length set ≤ length others

lacking : (k q : Key) (ks others : List Key) (b : Bool) → bytes_eq q k ≡ b → signs others k ≡ false
    → (signs ks q && signs others q) ≡ ((b || signs ks q) && signs others q)
lacking k q ks others true e lacks =
    let no : signs others q ≡ false = subst (λ x. signs others x ≡ false) (sym (same_key q k e)) lacks in
    rw no (and-false (signs ks q))
lacking k q ks others false e lacks = refl

having : (k q : Key) (ks others : List Key) (b : Bool) → bytes_eq q k ≡ b → signs others k ≡ true
    → (b || (signs ks q && (not b && signs others q))) ≡ ((b || signs ks q) && signs others q)
having k q ks others true e some = subst (λ x. true ≡ signs others x) (sym (same_key q k e)) (sym some)
having k q ks others false e some = refl

choose : (ks others : List Key) → Chosen others ks
choose [] others = record { set = []; member = inl refl; same = λ q. refl; few = omega arith }
choose (k ∷ ks) others = go (signs others k) refl (choose ks (dropped k others)) (choose ks others)
  where
    go : (b : Bool) → signs others k ≡ b → Chosen (dropped k others) ks → Chosen others ks → Chosen others (k ∷ ks)
    go true some rest whole =
        let lacks : signs rest.set k ≡ false = rest.same k ∙ ap (λ b. signs ks k && b) (dropped_signs k k true (own_key k) others) ∙ and-false (signs ks k) in
        let before = rest.few in
        let dropped_one = one_fewer k others some in
        record {
          set = k ∷ rest.set;
          member = in_right (k ∷ rest.set) (key_sets ks) (map (λ t. k ∷ t) (without k (key_sets ks)))
              (in_with k rest.set (without k (key_sets ks)) (in_without k rest.set (key_sets ks) rest.member lacks));
          same = λ q. ap (λ b. bytes_eq q k || b) (rest.same q ∙ ap (λ b. signs ks q && b) (dropped_signs k q (bytes_eq q k) refl others))
              ∙ having k q ks others (bytes_eq q k) refl some;
          few = omega (arith, before, dropped_one);
        }
    go false lacks rest whole =
        record {
          set = whole.set;
          member = in_left whole.set (key_sets ks) (map (λ t. k ∷ t) (without k (key_sets ks))) whole.member;
          same = λ q. whole.same q ∙ lacking k q ks others (bytes_eq q k) refl lacks;
          few = whole.few;
        }

-- ---- a policy asks for its own keys alone

-- the keys sign alike, as far as the policy asks
abbrev Alike : (asked a b : List Key) → Type 0
Alike asked a b = (q : Key) → signs asked q ≡ true → signs a q ≡ signs b q

alike_first : (x : Policy) (xs : Policies) (a b : List Key) → Alike (keys_of (more x xs)) a b → Alike (keys x) a b
alike_first x xs a b same q e =
    same q (list_any-append (bytes_eq q) (keys x) (keys_of xs) ∙ rw e)

alike_rest : (x : Policy) (xs : Policies) (a b : List Key) → Alike (keys_of (more x xs)) a b → Alike (keys_of xs) a b
alike_rest x xs a b same q e =
    same q (list_any-append (bytes_eq q) (keys x) (keys_of xs) ∙ rw e (or-true (signs (keys x) q)))

mutual
  same_truth : (a b : List Key) (p : Policy) → Alike (keys p) a b → is_true (with_keys a) p ≡ is_true (with_keys b) p
  same_truth a b (key k) same = same k (rw (own_key k))
  same_truth a b (all parts) same = ap (list_all (λ b. b)) (same_truths a b parts same)
  same_truth a b (any parts) same = ap (list_any (λ b. b)) (same_truths a b parts same)
  same_truth a b (thresh k parts) same = ap (λ bs. nat_le k (how_many bs)) (same_truths a b parts same)
  same_truth a b p same = refl

  same_truths : (a b : List Key) (xs : Policies) → Alike (keys_of xs) a b → truths (with_keys a) xs ≡ truths (with_keys b) xs
  same_truths a b none same = refl
  same_truths a b (more x xs) same =
      ap (λ t. t ∷ truths (with_keys a) xs) (same_truth a b x (alike_first x xs a b same))
      ∙ ap (λ ts. is_true (with_keys b) x ∷ ts) (same_truths a b xs (alike_rest x xs a b same))

-- ---- the least number

-- keys that suffice are no fewer than the smallest set that does
enough : (p : Policy) (others : List Key) → is_true (with_keys others) p ≡ true
    → AtMost (smallest (λ s. is_true (with_keys s) p) (key_sets (keys p))) (length others)
enough p others e = go (smallest passes (key_sets (keys p))) (no_more passes (key_sets (keys p)) chosen.set chosen.member (alike ∙ e))
  where
    passes : List Key → Bool
    passes s = is_true (with_keys s) p

    chosen : Chosen others (keys p)
    chosen = choose (keys p) others

    alike : is_true (with_keys chosen.set) p ≡ is_true (with_keys others) p
    alike = same_truth chosen.set others p (λ q asked. chosen.same q ∙ ap (λ b. b && signs others q) asked)

    go : (o : Option ℕ) → AtMost o (length chosen.set) → AtMost o (length others)
    go None h = absurd h
    go (Some n) h = let few = chosen.few in omega (arith, h, few)

pub least_keys_are_least : LeastKeysAreLeast
unfolding least_keys
least_keys_are_least p = go (smallest (λ s. is_true (with_keys s) p) (key_sets (keys p))) refl
  where
    go : (o : Option ℕ) → smallest (λ s. is_true (with_keys s) p) (key_sets (keys p)) ≡ o → AreLeastKeys p o
    go None e = λ others suffices. subst (λ o. AtMost o (length others)) e (enough p others suffices)
    go (Some n) e =
        let found = found_set (λ s. is_true (with_keys s) p) (key_sets (keys p)) n e in
        record {
          signers = found.set;
          distinct = each_distinct (keys p) found.set found.member;
          size = found.size;
          suffices = found.passed;
          least = λ others suffices. subst (λ o. AtMost o (length others)) e (enough p others suffices);
        }

pub one_least : OneLeast
one_least p None None h k = refl
one_least p None (Some m) h k = absurd (h k.signers k.suffices)
one_least p (Some n) None h k = absurd (k h.signers h.suffices)
one_least p (Some n) (Some m) h k =
    let below = h.least k.signers k.suffices in
    let above = k.least h.signers h.suffices in
    let left = h.size in
    let right = k.size in
    let same : n ≡ m = omega (arith, below, above, left, right) in
    ap Some same
