-- Numbers by their digits: each has one shortest list of digits, and one of each length that is enough.
use Rattle.std.proofs.Common.{◌≡◌, ℕ, zero, suc, ◌+◌, ◌*◌, ◌/◌, ◌%◌, ◌^◌, ◌<◌, ◌≤◌, ◌==◌, List, [], ◌∷◌, ◌++◌, length, replicate, arith, refl, sym, ap, subst, ◌∙◌, ne_eqb, length-append}
use Rattle.std.proofs.Math.Nat.{div-lt_self, div-lt_iff_lt-mul, div-add-mod, mul-le-mul_left, pow-suc, pow-zero}
use Rattle.std.proofs.lemmas.Nat.{div-mul-add, mod-mul-add}
use Rattle.std.proofs.lemmas.Bool.{cond-false}
use Rattle.std.proofs.lemmas.List.{append-nil, append_assoc}
use Rattle.std.proofs.lemmas.List.Sums.{fold-append}
use Rattle.std.specs.Prelude.{fold}
use Rattle.std.specs.List.{prefix_len}
use Rattle.def_address.specs.Digits.{number_in, shortest_digits, digits_of, fixed_digits}
use Rattle.def_address.specs.Base58.{rebased}

-- all digits are below the base
abbrev pub Below : (base : ℕ) → List ℕ → Type 0
Below base [] = Unit {0}
Below base (x ∷ xs) = (x < base) × Below base xs

pub below_joined : (base : ℕ) (xs ys : List ℕ) → Below base xs → Below base ys → Below base (xs ++ ys)
below_joined base [] ys left right = right
below_joined base (x ∷ xs) ys left right = (left.0, below_joined base xs ys left.1 right)

pub below_front : (base : ℕ) (xs ys : List ℕ) → Below base (xs ++ ys) → Below base xs
below_front base [] ys both = tt
below_front base (x ∷ xs) ys both = (both.0, below_front base xs ys both.1)

pub below_back : (base : ℕ) (xs ys : List ℕ) → Below base (xs ++ ys) → Below base ys
below_back base [] ys both = both
below_back base (x ∷ xs) ys both = below_back base xs ys both.1

-- the first digit isn't 0
abbrev pub Leads : List ℕ → Type 0
Leads [] = Unit {0}
Leads (x ∷ xs) = 0 < x

leads_front : (xs ys : List ℕ) → Leads (xs ++ ys) → Leads xs
leads_front [] ys h = tt
leads_front (x ∷ xs) ys h = h

leads_joined : (xs : List ℕ) (y : ℕ) → Leads xs → (xs ≡ [] → 0 < y) → Leads (xs ++ y ∷ [])
leads_joined [] y h some = some refl
leads_joined (x ∷ xs) y h some = h

-- an induction by the last digit
from_front : (P : List ℕ → Type 0) → ((xs : List ℕ) (x : ℕ) → P xs → P (xs ++ x ∷ [])) → (ys xs : List ℕ) → P xs → P (xs ++ ys)
from_front P more [] xs h = subst P (sym (append-nil xs)) h
from_front P more (y ∷ ys) xs h = subst P (append_assoc xs (y ∷ []) ys) (from_front P more ys (xs ++ y ∷ []) (more xs y h))

pub by_last : (P : List ℕ → Type 0) → P [] → ((xs : List ℕ) (x : ℕ) → P xs → P (xs ++ x ∷ [])) → (xs : List ℕ) → P xs
by_last P none more xs = from_front P more xs [] none

-- one digit more behind
pub number_push : (base : ℕ) (xs : List ℕ) (x : ℕ) → number_in base (xs ++ x ∷ []) ≡ base * number_in base xs + x
number_push base xs x = fold-append (λ (number digit : ℕ). base * number + digit) 0 xs (x ∷ [])

quotient : (base n x : ℕ) → x < base → (base * n + x) / base ≡ n
quotient base n x h = let e : base * n + x ≡ n * base + x = omega arith in ap (λ (z : ℕ). z / base) e ∙ div-mul-add n base x h

last : (base n x : ℕ) → x < base → (base * n + x) % base ≡ x
last base n x h = let e : base * n + x ≡ n * base + x = omega arith in ap (λ (z : ℕ). z % base) e ∙ mod-mul-add n base x h

-- ---- so many digits

pub length_fixed : (base count n : ℕ) → length (fixed_digits base count n) ≡ count
unfolding fixed_digits
length_fixed base zero n = refl
length_fixed base (suc count) n =
    let both = length-append (fixed_digits base count (n / base)) (n % base ∷ []) in
    let front = length_fixed base count (n / base) in
    omega (arith, both, front)

pub below_fixed : (base count n : ℕ) → 0 < base → Below base (fixed_digits base count n)
unfolding fixed_digits
below_fixed base zero n positive = tt
below_fixed base (suc count) n positive =
    let low : n % base < base = omega arith in
    below_joined base (fixed_digits base count (n / base)) (n % base ∷ []) (below_fixed base count (n / base) positive) (low, tt)

pub number_fixed : (base count n : ℕ) → 0 < base → n < base ^ count → number_in base (fixed_digits base count n) ≡ n
unfolding fixed_digits
number_fixed base zero n positive h = let one = pow-zero base in omega (arith, one, h)
number_fixed base (suc count) n positive h =
    let power : base ^ suc count ≡ base ^ count * base = pow-suc base count in
    let P : ℕ → Type 0 = λ z. n < z in
    let h' : n < base ^ count * base = subst P power h in
    let lower : n / base < base ^ count = (div-lt_iff_lt-mul positive).1 h' in
    let front = number_fixed base count (n / base) positive lower in
    number_push base (fixed_digits base count (n / base)) (n % base) ∙ (ap (λ (z : ℕ). base * z + n % base) front ∙ div-add-mod n base)

FixedIs : (base : ℕ) → List ℕ → Type 0
FixedIs base xs = Below base xs → fixed_digits base (length xs) (number_in base xs) ≡ xs

fixed_push : (base : ℕ) (xs : List ℕ) (x : ℕ) → FixedIs base xs → FixedIs base (xs ++ x ∷ [])
unfolding FixedIs fixed_digits
fixed_push base xs x h below =
    let low : x < base = (below_back base xs (x ∷ []) below).0 in
    let front = h (below_front base xs (x ∷ []) below) in
    let long : length (xs ++ x ∷ []) ≡ suc (length xs) = omega (arith, length-append xs (x ∷ [])) in
    let n = number_in base xs in
    ap (λ (z : ℕ). fixed_digits base z (number_in base (xs ++ x ∷ []))) long
    ∙ (ap (λ (z : ℕ). fixed_digits base (suc (length xs)) z) (number_push base xs x)
    ∙ (ap (λ (z : ℕ). fixed_digits base (length xs) z ++ (base * n + x) % base ∷ []) (quotient base n x low)
    ∙ (ap (λ (z : ℕ). fixed_digits base (length xs) n ++ z ∷ []) (last base n x low)
    ∙ ap (λ (z : List ℕ). z ++ x ∷ []) front)))

fixed_none : (base : ℕ) → FixedIs base []
unfolding FixedIs fixed_digits
fixed_none base below = refl

pub fixed_number : (base : ℕ) (xs : List ℕ) → Below base xs → fixed_digits base (length xs) (number_in base xs) ≡ xs
unfolding FixedIs
fixed_number base xs = by_last (FixedIs base) (fixed_none base) (fixed_push base) xs

-- ---- the shortest digits

shortest_none : (base most : ℕ) → shortest_digits base most 0 ≡ []
unfolding shortest_digits
shortest_none base zero = refl
shortest_none base (suc most) = refl

shortest_some : (base most n : ℕ) → 0 < n → shortest_digits base (suc most) n ≡ shortest_digits base most (n / base) ++ n % base ∷ []
unfolding shortest_digits
shortest_some base most n h =
    let differs : n ≡ 0 → ⊥ = λ e. omega (arith, e) in
    cond-false (n == 0) [] (shortest_digits base most (n / base) ++ n % base ∷ []) (ne_eqb n 0 differs)

smaller : (base most n : ℕ) → 1 < base → suc n ≤ suc most → suc n / base ≤ most
smaller base most n h le =
    let positive : 0 < suc n = omega arith in
    let less : suc n / base < suc n = div-lt_self positive h in
    omega (arith, less, le)

pub number_shortest : (base most n : ℕ) → 1 < base → n ≤ most → number_in base (shortest_digits base most n) ≡ n
number_shortest base most zero h le = ap (number_in base) (shortest_none base most)
number_shortest base zero (suc n) h le = absurd (omega (arith, le))
number_shortest base (suc most) (suc n) h le =
    let front = number_shortest base most (suc n / base) h (smaller base most n h le) in
    let positive : 0 < suc n = omega arith in
    ap (number_in base) (shortest_some base most (suc n) positive)
    ∙ (number_push base (shortest_digits base most (suc n / base)) (suc n % base)
    ∙ (ap (λ (z : ℕ). base * z + suc n % base) front ∙ div-add-mod (suc n) base))

pub below_shortest : (base most n : ℕ) → 1 < base → n ≤ most → Below base (shortest_digits base most n)
below_shortest base most zero h le = subst (Below base) (sym (shortest_none base most)) tt
below_shortest base zero (suc n) h le = absurd (omega (arith, le))
below_shortest base (suc most) (suc n) h le =
    let positive : 0 < suc n = omega arith in
    let low : suc n % base < base = omega arith in
    subst (Below base) (sym (shortest_some base most (suc n) positive))
    (below_joined base (shortest_digits base most (suc n / base)) (suc n % base ∷ []) (below_shortest base most (suc n / base) h (smaller base most n h le)) (low, tt))

pub leads_shortest : (base most n : ℕ) → 1 < base → n ≤ most → Leads (shortest_digits base most n)
leads_shortest base most zero h le = subst Leads (sym (shortest_none base most)) tt
leads_shortest base zero (suc n) h le = absurd (omega (arith, le))
leads_shortest base (suc most) (suc n) h le =
    let positive : 0 < suc n = omega arith in
    let front = shortest_digits base most (suc n / base) in
    let number : number_in base front ≡ suc n / base = number_shortest base most (suc n / base) h (smaller base most n h le) in
    let whole = div-add-mod (suc n) base in
    let some : front ≡ [] → 0 < suc n % base =
    λ e. (let none : suc n / base ≡ 0 = sym number ∙ ap (number_in base) e in
    let product : base * (suc n / base) ≡ base * 0 = ap (λ (z : ℕ). base * z) none in
    omega (arith, product, whole)) in
    subst Leads (sym (shortest_some base most (suc n) positive))
    (leads_joined front (suc n % base) (leads_shortest base most (suc n / base) h (smaller base most n h le)) some)

grows : (base : ℕ) → 0 < base → (xs : List ℕ) (a : ℕ) → a ≤ fold (λ number digit. base * number + digit) a xs
grows base h [] a = omega arith
grows (suc base) h (x ∷ xs) a =
    let rest = grows (suc base) h xs (suc base * a + x) in
    let product : suc base * a ≡ base * a + a = omega arith in
    omega (arith, rest, product)
grows zero h (x ∷ xs) a = absurd (omega (arith, h))

-- a number that has a first digit isn't 0
leads_positive : (base : ℕ) (xs : List ℕ) → 0 < base → 0 < length xs → Leads xs → 0 < number_in base xs
leads_positive base [] positive long leads = absurd (omega (arith, long))
leads_positive base (x ∷ xs) positive long leads =
    let rest = grows base positive xs (base * 0 + x) in
    omega (arith, rest, leads)

ShortestIs : (base : ℕ) → List ℕ → Type 0
ShortestIs base xs = (most : ℕ) → Below base xs → Leads xs → number_in base xs ≤ most → shortest_digits base most (number_in base xs) ≡ xs

shortest_is_none : (base : ℕ) → ShortestIs base []
unfolding ShortestIs
shortest_is_none base most below leads le = shortest_none base most

shortest_push : (base : ℕ) → 1 < base → (xs : List ℕ) (x : ℕ) → ShortestIs base xs → ShortestIs base (xs ++ x ∷ [])
unfolding ShortestIs
shortest_push base h xs x before zero below leads le =
    let long = length-append xs (x ∷ []) in
    let positive : 0 < base = omega arith in
    let some = leads_positive base (xs ++ x ∷ []) positive (omega (arith, long)) leads in
    absurd (omega (arith, le, some))
shortest_push base h xs x before (suc most) below leads le =
    let long = length-append xs (x ∷ []) in
    let positive : 0 < base = omega arith in
    let n = number_in base xs in
    let push : number_in base (xs ++ x ∷ []) ≡ base * n + x = number_push base xs x in
    let some : 0 < base * n + x = subst (λ (z : ℕ). 0 < z) push (leads_positive base (xs ++ x ∷ []) positive (omega (arith, long)) leads) in
    let low : x < base = (below_back base xs (x ∷ []) below).0 in
    let less : (base * n + x) / base < base * n + x = div-lt_self some h in
    let is : (base * n + x) / base ≡ n = quotient base n x low in
    let fits : n ≤ most = omega (arith, less, is, le, push) in
    let front = before most (below_front base xs (x ∷ []) below) (leads_front xs (x ∷ []) leads) fits in
    ap (λ (z : ℕ). shortest_digits base (suc most) z) push
    ∙ (shortest_some base most (base * n + x) some
    ∙ (ap (λ (z : ℕ). shortest_digits base most z ++ (base * n + x) % base ∷ []) is
    ∙ (ap (λ (z : ℕ). shortest_digits base most n ++ z ∷ []) (last base n x low)
    ∙ ap (λ (z : List ℕ). z ++ x ∷ []) front)))

pub shortest_number : (base : ℕ) → 1 < base → (xs : List ℕ) (most : ℕ) → Below base xs → Leads xs → number_in base xs ≤ most → shortest_digits base most (number_in base xs) ≡ xs
unfolding ShortestIs
shortest_number base h xs = by_last (ShortestIs base) (shortest_is_none base) (shortest_push base h) xs

-- ---- another base

no_zeros : (xs : List ℕ) → Leads xs → prefix_len (λ digit. digit == 0) xs ≡ 0
no_zeros [] h = refl
no_zeros (x ∷ xs) h =
    let differs : x ≡ 0 → ⊥ = λ e. omega (arith, e, h) in
    cond-false (x == 0) (1 + prefix_len (λ digit. digit == 0) xs) 0 (ne_eqb x 0 differs)

rebased_leads : (from to : ℕ) (xs : List ℕ) → Leads xs → rebased from to xs ≡ digits_of to (number_in from xs)
rebased_leads from to xs h = ap (λ (z : ℕ). replicate z 0 ++ digits_of to (number_in from xs)) (no_zeros xs h)

rebased_zero : (from to : ℕ) (xs : List ℕ) → rebased from to (0 ∷ xs) ≡ 0 ∷ rebased from to xs
rebased_zero from to xs =
    let zeros = prefix_len (λ digit. digit == 0) xs in
    let more : 1 + zeros ≡ suc zeros = omega arith in
    let none : from * 0 + 0 ≡ 0 = omega arith in
    ap (λ (z : ℕ). replicate z 0 ++ digits_of to (number_in from (0 ∷ xs))) more
    ∙ ap (λ (z : ℕ). 0 ∷ (replicate zeros 0 ++ digits_of to (fold (λ number digit. from * number + digit) z xs))) none

pub below_rebased : (from to : ℕ) → 1 < to → (xs : List ℕ) → Below to (rebased from to xs)
below_rebased from to h [] = subst (Below to) (sym (shortest_none to 0)) tt
below_rebased from to h (zero ∷ xs) =
    let positive : 0 < to = omega arith in
    subst (Below to) (sym (rebased_zero from to xs)) (positive, below_rebased from to h xs)
below_rebased from to h (suc x ∷ xs) =
    let n = number_in from (suc x ∷ xs) in
    let leads : 0 < suc x = omega arith in
    let fits : n ≤ n = omega arith in
    subst (Below to) (sym (rebased_leads from to (suc x ∷ xs) leads)) (below_shortest to n n h fits)

-- digits come back from the other base
pub rebased_back : (from to : ℕ) → 1 < from → 1 < to → (xs : List ℕ) → Below from xs → rebased to from (rebased from to xs) ≡ xs
rebased_back from to h k [] below = ap (rebased to from) (shortest_none to 0) ∙ shortest_none from 0
rebased_back from to h k (zero ∷ xs) below =
    ap (rebased to from) (rebased_zero from to xs)
    ∙ (rebased_zero to from (rebased from to xs)
    ∙ ap (λ (z : List ℕ). 0 ∷ z) (rebased_back from to h k xs below.1))
rebased_back from to h k (suc x ∷ xs) below =
    let ys = suc x ∷ xs in
    let n = number_in from ys in
    let leads : 0 < suc x = omega arith in
    let fits : n ≤ n = omega arith in
    let digits = digits_of to n in
    let number : number_in to digits ≡ n = number_shortest to n n k fits in
    ap (rebased to from) (rebased_leads from to ys leads)
    ∙ (rebased_leads to from digits (leads_shortest to n n k fits)
    ∙ (ap (λ (z : ℕ). digits_of from z) number
    ∙ shortest_number from h ys n below leads fits))

-- ---- bounds

NumberBelow : (base : ℕ) → List ℕ → Type 0
NumberBelow base xs = Below base xs → number_in base xs < base ^ length xs

number_none : (base : ℕ) → NumberBelow base []
unfolding NumberBelow
number_none base below = let one = pow-zero base in omega (arith, one)

number_more : (base : ℕ) (xs : List ℕ) (x : ℕ) → NumberBelow base xs → NumberBelow base (xs ++ x ∷ [])
unfolding NumberBelow
number_more base xs x h below =
    let low : x < base = (below_back base xs (x ∷ []) below).0 in
    let front = h (below_front base xs (x ∷ []) below) in
    let long : length (xs ++ x ∷ []) ≡ suc (length xs) = omega (arith, length-append xs (x ∷ [])) in
    let n = number_in base xs in
    let size = base ^ length xs in
    let fits : n + 1 ≤ size = omega (arith, front) in
    let product : base * (n + 1) ≤ base * size = mul-le-mul_left base fits in
    let power : base ^ suc (length xs) ≡ size * base = pow-suc base (length xs) in
    let less : base * n + x < base ^ suc (length xs) = omega (arith, low, product, power) in
    let P : ℕ → Type 0 = λ z. number_in base (xs ++ x ∷ []) < base ^ z in
    let Q : ℕ → Type 0 = λ z. z < base ^ suc (length xs) in
    subst P (sym long) (subst Q (sym (number_push base xs x)) less)

pub number_below : (base : ℕ) (xs : List ℕ) → Below base xs → number_in base xs < base ^ length xs
unfolding NumberBelow
number_below base xs = by_last (NumberBelow base) (number_none base) (number_more base) xs

pub length_shortest : (base most k n : ℕ) → 1 < base → n ≤ most → n < base ^ k → length (shortest_digits base most n) ≤ k
length_shortest base most k zero h le less = let none = ap length (shortest_none base most) in omega (arith, none)
length_shortest base zero k (suc n) h le less = absurd (omega (arith, le))
length_shortest base (suc most) zero (suc n) h le less = let one = pow-zero base in absurd (omega (arith, one, less))
length_shortest base (suc most) (suc k) (suc n) h le less =
    let positive : 0 < suc n = omega arith in
    let some : 0 < base = omega arith in
    let power : base ^ suc k ≡ base ^ k * base = pow-suc base k in
    let P : ℕ → Type 0 = λ z. suc n < z in
    let lower : suc n / base < base ^ k = (div-lt_iff_lt-mul some).1 (subst P power less) in
    let front = length_shortest base most k (suc n / base) h (smaller base most n h le) lower in
    let whole = ap length (shortest_some base most (suc n) positive) in
    let both = length-append (shortest_digits base most (suc n / base)) (suc n % base ∷ []) in
    omega (arith, front, whole, both)

-- digits with one in front that isn't 0 have no more in the other base than their power of it allows
pub length_rebased : (from to k : ℕ) (xs : List ℕ) → 1 < to → Leads xs → Below from xs → from ^ length xs ≤ to ^ k → length (rebased from to xs) ≤ k
length_rebased from to k xs h leads below power =
    let n = number_in from xs in
    let low = number_below from xs below in
    let fits : n ≤ n = omega arith in
    let less : n < to ^ k = omega (arith, low, power) in
    let digits = length_shortest to n k n h fits less in
    let same = ap length (rebased_leads from to xs leads) in
    omega (arith, digits, same)
