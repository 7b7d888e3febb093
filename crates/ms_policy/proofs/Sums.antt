-- The least sum of k numbers is that of the first k in order.
use Rattle.std.proofs.Common.{◌≡◌, ℕ, zero, suc, ◌+◌, ◌-◌, ◌*◌, ◌<◌, ◌≤◌, ◌⊎◌, min, List, [], ◌∷◌, ◌++◌, Option, Some, None, length, take, drop, refl, ◌∙◌, ap, inl, inr, arith, IsPermutation}
use Rattle.std.specs.List.{AllByRecursion}
use Rattle.std.specs.List.Sorted.{IsNonDecreasing}
use Rattle.std.proofs.lemmas.Bool.Decides.{leb_tells}
use Rattle.std.proofs.lemmas.Option.{none-some}
use Rattle.ms_choice.specs.Sums.{total}
use Rattle.ms_choice.proofs.Totals.{total-permutation}
use Rattle.ms_policy.specs.Scaffolding.Cost.{lesser, plus, least_sum}

-- how far the numbers are below a mark, how many are, and how many are at it or below
abbrev below : ℕ → List ℕ → ℕ
below mark = total (λ x. mark - x)

abbrev some_below : ℕ → List ℕ → ℕ
some_below mark = total (λ x. min 1 (mark - x))

abbrev some_within : ℕ → List ℕ → ℕ
some_within mark = total (λ x. 1 - (x - mark))

some_same : (a b : ℕ) → Some a ≡ Some b → a ≡ b
some_same a b e = cc

pub lesser_is : (a b : Option ℕ) (m : ℕ) → lesser a b ≡ Some m → (a ≡ Some m) ⊎ (b ≡ Some m)
lesser_is None b m e = inr e
lesser_is (Some a) None m e = inl e
lesser_is (Some a) (Some b) m e =
    let h = some_same (min a b) m e in
    elim (leb_tells a b) [ inl f ↦ (let g = f.1 in inl (ap Some (omega arith))) | inr f ↦ (let g = f.1 in inr (ap Some (omega arith))) ]

pub plus_is : (n : ℕ) (o : Option ℕ) (m : ℕ) → plus n o ≡ Some m → (k : ℕ) × (o ≡ Some k) × (n + k ≡ m)
plus_is n None m e = absurd (none-some m e)
plus_is n (Some k) m e = (k, refl, some_same (n + k) m e)

pub lesser_left : (a : ℕ) (o : Option ℕ) → (m : ℕ) × (lesser (Some a) o ≡ Some m) × (m ≤ a)
lesser_left a None = (a, refl, omega arith)
lesser_left a (Some b) = (min a b, refl, omega arith)

pub lesser_right : (o : Option ℕ) (b : ℕ) → (m : ℕ) × (lesser o (Some b) ≡ Some m) × (m ≤ b)
lesser_right None b = (b, refl, omega arith)
lesser_right (Some a) b = (min a b, refl, omega arith)

-- k numbers are no less than k times a mark, but for what lies below it
no_less_with : (mark k n m x b : ℕ) → k * mark ≤ n + b → x + n ≡ m → suc k * mark ≤ m + ((mark - x) + b)
no_less_with mark k n m x b h e = omega arith

no_less : (mark k : ℕ) (xs : List ℕ) (m : ℕ) → least_sum k xs ≡ Some m → k * mark ≤ m + below mark xs
no_less mark zero xs m e = omega arith
no_less mark (suc k) [] m e = absurd (none-some m e)
no_less mark (suc k) (x ∷ xs) m e = elim (lesser_is (plus x (least_sum k xs)) (least_sum (suc k) xs) m e) [
  | inl f ↦ (
      let sum = plus_is x (least_sum k xs) m f in
      no_less_with mark k sum.0 m x (below mark xs) (no_less mark k xs sum.0 sum.1) sum.2)
  | inr f ↦ (let h = no_less mark (suc k) xs m f in omega arith)
]

none_below : (mark : ℕ) (xs : List ℕ) → some_below mark xs ≤ 0 → below mark xs ≡ 0
none_below mark [] h = refl
none_below mark (x ∷ xs) h = let i = none_below mark xs (omega arith) in omega arith

below_within : (mark : ℕ) (xs : List ℕ) → some_below mark xs ≤ some_within mark xs
below_within mark [] = omega arith
below_within mark (x ∷ xs) = let h = below_within mark xs in omega arith

-- some k numbers are no more than that, where at most k lie below the mark and at least k at it or below
pub record NoMore (mark k : ℕ) (xs : List ℕ) : Type 0 where
  pub least : ℕ
  pub is : least_sum k xs ≡ Some least
  pub most : least + below mark xs ≤ k * mark

no_more : (mark k : ℕ) (xs : List ℕ) → some_below mark xs ≤ k → k ≤ some_within mark xs → NoMore mark k xs
no_more mark zero xs few enough = let h = none_below mark xs few in record { least = 0; is = refl; most = omega arith }
no_more mark (suc k) [] few enough = absurd (omega arith)
no_more mark (suc k) (x ∷ xs) few enough = elim (leb_tells mark x) [
  | inr f ↦ (let g = f.1 in with_first (no_more mark k xs (omega arith) (omega arith)) (omega arith))
  | inl f ↦ elim (leb_tells x mark) [
    | inr g ↦ (let h = g.1 in without (no_more mark (suc k) xs (omega arith) (omega arith)) (omega arith))
    | inl g ↦ elim (leb_tells (some_below mark xs) k) [
      | inl i ↦ (let a = f.1 in let b = g.1 in let c = i.1 in with_first (no_more mark k xs (omega arith) (omega arith)) (omega arith))
      | inr i ↦ (
          let a = f.1 in
          let b = g.1 in
          let c = i.1 in
          let d = below_within mark xs in
          without (no_more mark (suc k) xs (omega arith) (omega arith)) (omega arith))
    ]
  ]
]
  where
    with_first : NoMore mark k xs → x ≤ mark → NoMore mark (suc k) (x ∷ xs)
    with_first rest h =
        let one = lesser_left (x + rest.least) (least_sum (suc k) xs) in
        let is : lesser (plus x (least_sum k xs)) (least_sum (suc k) xs) ≡ Some one.0 = ap (λ o. lesser (plus x o) (least_sum (suc k) xs)) rest.is ∙ one.1 in
        let most = rest.most in
        let less = one.2 in
        record { least = one.0; is = is; most = omega arith }

    without : NoMore mark (suc k) xs → mark ≤ x → NoMore mark (suc k) (x ∷ xs)
    without rest h =
        let one = lesser_right (plus x (least_sum k xs)) rest.least in
        let is : lesser (plus x (least_sum k xs)) (least_sum (suc k) xs) ≡ Some one.0 = ap (λ o. lesser (plus x (least_sum k xs)) o) rest.is ∙ one.1 in
        let most = rest.most in
        let less = one.2 in
        record { least = one.0; is = is; most = omega arith }

-- in a list in order the k-th number is a mark
abbrev AtMost : ℕ → List ℕ → Type 0
AtMost mark = AllByRecursion (λ x. x ≤ mark)

abbrev AtLeast : ℕ → List ℕ → Type 0
AtLeast mark = AllByRecursion (λ x. mark ≤ x)

rest_in_order : (x : ℕ) (xs : List ℕ) → IsNonDecreasing (x ∷ xs) → IsNonDecreasing xs
rest_in_order x xs order i j d h k = order (suc i) (suc j) d (omega arith) (let l : suc j < suc (length xs) = omega arith in l)

first_is_least : (x : ℕ) (xs : List ℕ) → IsNonDecreasing (x ∷ xs) → AtLeast x xs
first_is_least x [] order = tt
first_is_least x (y ∷ ys) order = (first, first_is_least x ys others)
  where
    first : x ≤ y
    first = order 0 1 0 (omega arith) (omega arith)

    others : IsNonDecreasing (x ∷ ys)
    others zero zero d h k = omega arith
    others zero (suc j) d h k = order 0 (suc (suc j)) d (omega arith) (omega arith)
    others (suc i) zero d h k = absurd (omega arith)
    others (suc i) (suc j) d h k = order (suc (suc i)) (suc (suc j)) d (omega arith) (omega arith)

pub record Split (k : ℕ) (ys : List ℕ) : Type 0 where
  pub mark : ℕ
  pub front : AtMost mark (take (suc k) ys)
  pub back : AtLeast mark (drop (suc k) ys)

split_at : (k : ℕ) (ys : List ℕ) → IsNonDecreasing ys → k < length ys → Split k ys
split_at k [] order h = absurd (omega arith)
split_at zero (y ∷ ys) order h = record { mark = y; front = (omega arith, tt); back = first_is_least y ys order }
split_at (suc k) (y ∷ ys) order h = further ys (first_is_least y ys order) (split_at k ys (rest_in_order y ys order) (omega arith)) (omega arith)
  where
    further : (ys : List ℕ) → AtLeast y ys → Split k ys → k < length ys → Split (suc k) (y ∷ ys)
    further [] least split h = absurd (omega arith)
    further (z ∷ zs) least split h =
        let a = least.0 in
        let b = split.front.0 in
        record { mark = split.mark; front = (omega arith, split.front); back = split.back }

front_sum : (mark : ℕ) (xs ys : List ℕ) → AtMost mark xs → AtLeast mark ys →
    (total (λ n. n) xs + below mark (xs ++ ys) ≡ length xs * mark) ×
    (some_below mark (xs ++ ys) ≤ length xs) ×
    (length xs ≤ some_within mark (xs ++ ys))
front_sum mark [] [] front back = (omega arith, omega arith, omega arith)
front_sum mark [] (y ∷ ys) front back =
    let h = front_sum mark [] ys tt back.1 in
    let a = h.0 in
    let b = h.1 in
    let c = back.0 in
    (omega arith, omega arith, omega arith)
front_sum mark (x ∷ xs) ys front back =
    let h = front_sum mark xs ys front.1 back in
    let a = h.0 in
    let b = h.1 in
    let c = h.2 in
    let d = front.0 in
    (omega arith, omega arith, omega arith)

take_drop : (k : ℕ) (ys : List ℕ) → take k ys ++ drop k ys ≡ ys
take_drop zero ys = refl
take_drop (suc k) [] = refl
take_drop (suc k) (y ∷ ys) = ap (λ l. y ∷ l) (take_drop k ys)

length_take : (k : ℕ) (ys : List ℕ) → k ≤ length ys → length (take k ys) ≡ k
length_take zero ys h = refl
length_take (suc k) [] h = absurd (omega arith)
length_take (suc k) (y ∷ ys) h = ap suc (length_take k ys (omega arith))

-- too few numbers have none
pub too_few : (k : ℕ) (xs : List ℕ) → length xs < k → least_sum k xs ≡ None
too_few zero xs h = absurd (omega arith)
too_few (suc k) [] h = refl
too_few (suc k) (x ∷ xs) h =
    let a = too_few k xs (omega arith) in
    let b = too_few (suc k) xs (omega arith) in
    rw (a, b) refl

-- the numbers, in order
pub first_ones : (k : ℕ) (xs ys : List ℕ) → IsPermutation xs ys → IsNonDecreasing ys → k ≤ length ys → least_sum k xs ≡ Some (total (λ n. n) (take k ys))
first_ones zero xs ys moved order h = refl
first_ones (suc k) xs ys moved order h =
    let split = split_at k ys order (omega arith) in
    let sums = front_sum split.mark (take (suc k) ys) (drop (suc k) ys) split.front split.back in
    let whole = take_drop (suc k) ys in
    let size = length_take (suc k) ys h in
    let a : below split.mark (take (suc k) ys ++ drop (suc k) ys) ≡ below split.mark xs = ap (below split.mark) whole ∙ total-permutation (λ x. split.mark - x) xs ys moved in
    let b : some_below split.mark (take (suc k) ys ++ drop (suc k) ys) ≡ some_below split.mark xs = ap (some_below split.mark) whole ∙ total-permutation (λ x. min 1 (split.mark - x)) xs ys moved in
    let c : some_within split.mark (take (suc k) ys ++ drop (suc k) ys) ≡ some_within split.mark xs = ap (some_within split.mark) whole ∙ total-permutation (λ x. 1 - (x - split.mark)) xs ys moved in
    let s0 = sums.0 in
    let s1 = sums.1 in
    let s2 = sums.2 in
    let product : length (take (suc k) ys) * split.mark ≡ suc k * split.mark = ap (λ n. n * split.mark) size in
    let more = no_more split.mark (suc k) xs (omega arith) (omega arith) in
    let most = more.most in
    let less = no_less split.mark (suc k) xs more.least more.is in
    let same : more.least ≡ total (λ n. n) (take (suc k) ys) = omega arith in
    more.is ∙ ap Some same
