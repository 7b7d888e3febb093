-- The order of as many bytes is that of their numbers; a key among keys in order.
use Rattle.std.proofs.Common.{◌≡◌, ℕ, zero, suc, ◌+◌, ◌*◌, ◌<◌, ◌≤◌, true, false, Bool, List, [], ◌∷◌, ◌++◌, length, take, drop, get_or, fold, ap, ◌∙◌, refl, sym, subst, cond, arith, append_assoc, append-nil, drop-cons, length-drop, lt-ltb}
use Rattle.std.specs.Prelude.{nat_lt}
use Rattle.std.proofs.lemmas.Bool.{cond-true, cond-false, le-ltb, ltb-true, ltb-false}
use Rattle.std.proofs.lemmas.List.{take_more, drop_all, take-append-drop}
use Rattle.std.proofs.lemmas.List.Sums.{fold-append}
use Rattle.def_script.specs.Bytes.{Bytes, IsBytes}
use Rattle.def_tree.specs.Tree.{Key}
use Rattle.def_curve.specs.Key.{number_of}
use Rattle.def_descriptor.specs.Gives.{with_sorted, in_order}
use Rattle.ms_outputs.proofs.Lists.{left_of}

-- ---- numbers of as many bytes

-- the number of some bytes behind a number
number_behind : ℕ → Bytes → ℕ
number_behind value bytes = fold (λ (z byte : ℕ). 256 * z + byte) value bytes

first_byte : (b : ℕ) (bytes : Bytes) → IsBytes (b ∷ bytes) → b < 256
first_byte b bytes h = h 0

other_bytes : (b : ℕ) (bytes : Bytes) → IsBytes (b ∷ bytes) → IsBytes bytes
other_bytes b bytes h = λ i. h (suc i)

below_then : (u w : ℕ) (xs ys : Bytes) → u < w → length xs ≡ length ys → IsBytes xs → number_behind u xs < number_behind w ys
unfolding number_behind
below_then u w [] [] h e bytes = h
below_then u w [] (y ∷ ys) h e bytes = absurd (omega (arith, e))
below_then u w (x ∷ xs) [] h e bytes = absurd (omega (arith, e))
below_then u w (x ∷ xs) (y ∷ ys) h e bytes =
    let low = first_byte x xs bytes in
    below_then (256 * u + x) (256 * w + y) xs ys (omega (arith, h, low)) (omega (arith, e)) (other_bytes x xs bytes)

module _ (front xs ys : Bytes) (a b : ℕ) (long : length xs ≡ length ys) where
  pub front_below : a < b → IsBytes xs → number_of (front ++ a ∷ xs) < number_of (front ++ b ∷ ys)
  unfolding number_behind
  front_below h bytes =
      let value = number_behind 0 front in
      let own = fold-append (λ (z byte : ℕ). 256 * z + byte) 0 front (a ∷ xs) in
      let other = fold-append (λ (z byte : ℕ). 256 * z + byte) 0 front (b ∷ ys) in
      rw (own, other) (below_then (256 * value + a) (256 * value + b) xs ys (omega (arith, h)) long bytes)

split_at : (xs : Bytes) (i : ℕ) → i < length xs → xs ≡ take i xs ++ get_or xs i 0 ∷ drop (suc i) xs
split_at xs i inside = sym (take-append-drop i xs) ∙ ap (λ (z : Bytes). take i xs ++ z) (drop-cons xs i 0 inside)

drop_bytes : (xs : Bytes) (i : ℕ) → IsBytes xs → IsBytes (drop i xs)
drop_bytes xs zero h = h
drop_bytes [] (suc i) h = h
drop_bytes (x ∷ xs) (suc i) h = drop_bytes xs i (λ j. h (suc j))

below_at : (xs ys : Bytes) (i : ℕ) → i < length xs → length xs ≡ length ys → IsBytes xs → take i xs ≡ take i ys → get_or xs i 0 < get_or ys i 0 → number_of xs < number_of ys
below_at xs ys i inside long bytes same h =
    let P : Bytes → Bytes → Type 0 = λ (z w : Bytes). number_of z < number_of w in
    let there : i < length ys = omega (arith, inside, long) in
    let rest : length (drop (suc i) xs) ≡ length (drop (suc i) ys) = omega (arith, length-drop (suc i) xs, length-drop (suc i) ys, long) in
    let other : take i xs ++ get_or ys i 0 ∷ drop (suc i) ys ≡ ys =
    ap (λ (z : Bytes). z ++ get_or ys i 0 ∷ drop (suc i) ys) same ∙ sym (split_at ys i there) in
    subst (P xs) other
    (subst (λ (z : Bytes). P z (take i xs ++ get_or ys i 0 ∷ drop (suc i) ys)) (sym (split_at xs i inside))
    (front_below (take i xs) (drop (suc i) xs) (drop (suc i) ys) (get_or xs i 0) (get_or ys i 0) rest h (drop_bytes xs (suc i) bytes)))

pub differ : (xs ys : Bytes) (i : ℕ) → i < length xs → length xs ≡ length ys → IsBytes xs → IsBytes ys → take i xs ≡ take i ys
    → (get_or xs i 0 ≡ get_or ys i 0 → ⊥) → nat_lt (get_or xs i 0) (get_or ys i 0) ≡ nat_lt (number_of xs) (number_of ys)
differ xs ys i inside long bytes others same apart = go (nat_lt (get_or xs i 0) (get_or ys i 0)) refl
  where
    go : (t : Bool) → nat_lt (get_or xs i 0) (get_or ys i 0) ≡ t → t ≡ nat_lt (number_of xs) (number_of ys)
    go true e = sym (lt-ltb (number_of xs) (number_of ys) (below_at xs ys i inside long bytes same (ltb-true (get_or xs i 0) (get_or ys i 0) e)))
    go false e =
        let over : get_or ys i 0 ≤ get_or xs i 0 = ltb-false (get_or xs i 0) (get_or ys i 0) e in
        let below : get_or ys i 0 < get_or xs i 0 = omega (arith, over, apart) in
        let less = below_at ys xs i (omega (arith, inside, long)) (sym long) others (sym same) below in
        sym (le-ltb (number_of xs) (number_of ys) (omega (arith, less)))

-- ---- a key among keys in order

module _ (key : Key) (keys : List Key) (i : ℕ) (first : Key) (inside : i < length keys) (is : first ≡ get_or keys i first)
    (so_far : with_sorted key keys ≡ take i keys ++ with_sorted key (drop i keys)) where
  abbrev others : List Key
  others = drop (i + 1) keys

  abbrev is_first : Bool
  is_first = nat_lt (number_of first) (number_of key)

  left : with_sorted key keys ≡ take i keys ++ cond is_first (first ∷ with_sorted key others) (key ∷ first ∷ others)
  left = so_far ∙ ap (λ (z : List Key). take i keys ++ with_sorted key z) (left_of keys i first inside is)

  pub among_more : is_first ≡ true → with_sorted key keys ≡ take (i + 1) keys ++ with_sorted key others
  among_more h =
      left
      ∙ (ap (λ (z : List Key). take i keys ++ z) (cond-true is_first (first ∷ with_sorted key others) (key ∷ first ∷ others) h)
      ∙ (sym (append_assoc (take i keys) (first ∷ []) (with_sorted key others))
      ∙ ap (λ (z : List Key). z ++ with_sorted key others)
      (ap (λ (z : Key). take i keys ++ z ∷ []) is ∙ sym (take_more keys i first inside))))

  pub among_here : is_first ≡ false → with_sorted key keys ≡ take i keys ++ key ∷ drop i keys
  among_here h =
      left
      ∙ (ap (λ (z : List Key). take i keys ++ z) (cond-false is_first (first ∷ with_sorted key others) (key ∷ first ∷ others) h)
      ∙ ap (λ (z : List Key). take i keys ++ key ∷ z) (sym (left_of keys i first inside is)))

pub among_end : (key : Key) (keys : List Key) (i : ℕ) → length keys ≡ i → with_sorted key keys ≡ take i keys ++ with_sorted key (drop i keys)
    → with_sorted key keys ≡ take i keys ++ key ∷ drop i keys
among_end key keys i all h =
    let none = drop_all i keys (omega (arith, all)) in
    h ∙ (ap (λ (z : List Key). take i keys ++ with_sorted key z) none ∙ ap (λ (z : List Key). take i keys ++ key ∷ z) (sym none))

-- ---- from the last key on

pub record InOrder (keys left all : List Key) : Type 0 where
  pub behind : List Key
  pub whole : keys ≡ left ++ behind
  pub ordered : all ≡ in_order behind

pub order_first : (keys : List Key) → InOrder keys keys []
order_first keys = record { behind = []; whole = sym (append-nil keys); ordered = refl }

pub order_more : {keys left all : List Key} (so_far : InOrder keys left all) (before : List Key) (key : Key) (now : List Key) → left ≡ before ++ key ∷ []
    → now ≡ with_sorted key all → InOrder keys before now
order_more so_far before key now first is = record {
  behind = key ∷ so_far.behind;
  whole = so_far.whole ∙ (ap (λ (z : List Key). z ++ so_far.behind) first ∙ append_assoc before (key ∷ []) so_far.behind);
  ordered = is ∙ ap (with_sorted key) so_far.ordered;
}

pub order_end : {keys left all : List Key} (so_far : InOrder keys left all) → length left ≡ 0 → all ≡ in_order keys
order_end {keys} {left} {all} so_far none = so_far.ordered ∙ ap in_order (sym (so_far.whole ∙ go left none))
  where
    go : (xs : List Key) → length xs ≡ 0 → xs ++ so_far.behind ≡ so_far.behind
    go [] h = refl
    go (x ∷ xs) h = absurd (omega (arith, h))
