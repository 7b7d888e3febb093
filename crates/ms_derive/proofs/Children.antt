-- A child, case by case.
use Rattle.std.proofs.Common.{◌≡◌, ℕ, ◌+◌, ◌^◌, ◌<◌, ◌≤◌, List, length, get_or, take, drop, arith, ltb, lt-ltb, true, false, refl, sym, ap, ◌∙◌, Option, Some, None, option_map, option_and_then}
use Rattle.std.proofs.lemmas.Bool.{cond-true, cond-false, le-ltb}
use Rattle.std.proofs.lemmas.List.{drop_more, drop_all}
use Rattle.def_script.specs.Bytes.{Bytes}
use Rattle.def_curve.specs.Curve.{n as order}
use Rattle.def_curve.specs.Point.{Point, ◌⊕◌, times, generator}
use Rattle.def_curve.specs.Key.{number_of}
use Rattle.def_derive.specs.Child.{Node as TheNode, finite, child_by, halves, child, descendant}
use Rattle.ms_point.specs.declared.point.Affine.{Affine}
use Rattle.ms_point.specs.Standing.{point_at}
use Rattle.ms_curve.specs.Answers.{point_or_infinity}

-- the node of coordinates with a chain code
abbrev pub with_code : Bytes → Affine → TheNode
with_code right a = record { point = point_at a; chain_code = right }

pub none_over : (left : ℕ) (right : Bytes) (parent : Point) → ltb left order ≡ false → child_by left right parent ≡ None
unfolding child_by
none_over left right parent over = cond-false (ltb left order) (finite right (times left generator ⊕ parent)) None over

finite_is : (right : Bytes) (sum : Option Affine) → finite right (point_or_infinity sum) ≡ option_map (with_code right) sum
finite_is right None = refl
finite_is right (Some a) = refl

pub found_by : (left : ℕ) (right : Bytes) (parent : Point) (sum : Option Affine) → ltb left order ≡ true → point_or_infinity sum ≡ times left generator ⊕ parent
    → option_map (with_code right) sum ≡ child_by left right parent
unfolding child_by
found_by left right parent sum below e =
    sym (finite_is right sum)
    ∙ (ap (finite right) e
    ∙ sym (cond-true (ltb left order) (finite right (times left generator ⊕ parent)) None below))

pub none_hardened : (number : ℕ) (parent : TheNode) → 2 ^ 31 ≤ number → child number parent ≡ None
unfolding child
none_hardened number parent over =
    let digest = halves number parent in
    cond-false (ltb number (2 ^ 31)) (child_by (number_of (take 32 digest)) (drop 32 digest) parent.point) None (le-ltb number (2 ^ 31) over)

pub plain_is : (number : ℕ) (parent : TheNode) (digest : Bytes) → number < 2 ^ 31 → digest ≡ halves number parent
    → child_by (number_of (take 32 digest)) (drop 32 digest) parent.point ≡ child number parent
unfolding child
plain_is number parent digest below e =
    let whole = halves number parent in
    ap (λ (z : Bytes). child_by (number_of (take 32 z)) (drop 32 z) parent.point) e
    ∙ sym (cond-true (ltb number (2 ^ 31)) (child_by (number_of (take 32 whole)) (drop 32 whole) parent.point) None (lt-ltb number (2 ^ 31) below))

-- ---- along a path

pub along_more : (numbers : List ℕ) (i : ℕ) (node next : TheNode) → i < length numbers → Some next ≡ child (get_or numbers i 0) node
    → descendant (drop (i + 1) numbers) next ≡ descendant (drop i numbers) node
unfolding descendant
along_more numbers i node next inside step =
    let rest = drop (i + 1) numbers in
    ap (option_and_then (descendant rest)) step ∙ ap (λ (z : List ℕ). descendant z node) (sym (drop_more numbers i 0 inside))

pub along_none : (numbers : List ℕ) (i : ℕ) (node : TheNode) → i < length numbers → None ≡ child (get_or numbers i 0) node → None ≡ descendant (drop i numbers) node
unfolding descendant
along_none numbers i node inside step =
    let rest = drop (i + 1) numbers in
    ap (option_and_then (descendant rest)) step ∙ ap (λ (z : List ℕ). descendant z node) (sym (drop_more numbers i 0 inside))

pub along_end : (numbers : List ℕ) (i : ℕ) (node : TheNode) → length numbers ≡ i → Some node ≡ descendant (drop i numbers) node
unfolding descendant
along_end numbers i node all = ap (λ (z : List ℕ). descendant z node) (sym (drop_all i numbers (omega (arith, all))))
