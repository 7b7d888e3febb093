-- The upper elements of a stack.
use Rattle.std.proofs.Common.{◌≡◌, ℕ, ◌-◌, ◌<◌, ◌≤◌, nat_le, List, ◌++◌, length, take, drop, arith, sym, ◌∙◌, ap, length-drop, inl, inr}
use Rattle.std.specs.Prelude.{reverse}
use Rattle.std.proofs.lemmas.Bool.{cases_Bool, leb-true, leb-false}
use Rattle.std.proofs.lemmas.List.{reverse-append, reverse-reverse, take-append-drop, length-reverse, take_all}
use Rattle.std.proofs.Math.Seq.{take-append_seam}
use Rattle.def_script.specs.Bytes.{Bytes}

-- what a list has at its front
front_of : (all front rest : List Bytes) (count : ℕ) → all ≡ front ++ rest → length front ≡ count → take count all ≡ front
front_of all front rest count is long =
    ap (λ (n : ℕ). take n all) (sym long) ∙ ap (λ (xs : List Bytes). take (length front) xs) is ∙ take-append_seam front rest

-- some of them
some_upper : (xs : List Bytes) (count : ℕ) → count ≤ length xs → drop (length xs - count) xs ≡ reverse (take count (reverse xs))
some_upper xs count fits =
    let n = length xs - count in
    let turned : reverse xs ≡ reverse (drop n xs) ++ reverse (take n xs) =
    ap reverse (sym (take-append-drop n xs)) ∙ reverse-append (take n xs) (drop n xs)
    in
    let dropped = length-drop n xs in
    let long : length (reverse (drop n xs)) ≡ count = length-reverse (drop n xs) ∙ omega (arith, dropped) in
    sym (ap reverse (front_of (reverse xs) (reverse (drop n xs)) (reverse (take n xs)) count turned long) ∙ reverse-reverse (drop n xs))

-- or all
all_upper : (xs : List Bytes) (count : ℕ) → length xs < count → drop (length xs - count) xs ≡ reverse (take count (reverse xs))
all_upper xs count more =
    let none : length xs - count ≡ 0 = omega arith in
    let long = length-reverse xs in
    rw none (sym (ap reverse (take_all count (reverse xs) (omega (arith, long))) ∙ reverse-reverse xs))

upper_elements : (xs : List Bytes) (count : ℕ) → drop (length xs - count) xs ≡ reverse (take count (reverse xs))
upper_elements xs count =
    elim (cases_Bool (nat_le count (length xs))) [
      | inl fits ↦ some_upper xs count (leb-true _ _ fits)
      | inr more ↦ all_upper xs count (leb-false _ _ more)
    ]

-- as the code takes them
pub upper_slice : (elements pile : List Bytes) (len start count : ℕ) → pile ≡ reverse elements → len ≡ length elements → start ≡ len - count
    → take (length elements - start) (drop start elements) ≡ reverse (take count pile)
upper_slice elements pile len start count seen long from =
    let rest = length-drop start elements in
    let same : start ≡ length elements - count = from ∙ ap (λ (n : ℕ). n - count) long in
    take_all (length elements - start) (drop start elements) (omega (arith, rest))
    ∙ ap (λ (n : ℕ). drop n elements) same ∙ upper_elements elements count ∙ ap (λ (xs : List Bytes). reverse (take count xs)) (sym seen)
