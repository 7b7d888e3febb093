-- Pieces of bytes consist of bytes.
use Rattle.std.proofs.Common.{ℕ, zero, suc, ◌<◌, List, [], ◌∷◌, ◌++◌, take, drop, filter, Bool, inl, inr, arith, sym, subst}
use Rattle.std.specs.List.{flat_map, AllByRecursion}
use Rattle.std.proofs.lemmas.Bool.{cases_Bool}
use Rattle.std.proofs.lemmas.List.{take-append-drop}
use Rattle.std.proofs.lemmas.List.Concat.{flat_map-cons}
use Rattle.def_script.specs.Bytes.{Bytes, IsBytes}

pub none : IsBytes []
none i = omega arith

pub more : (b : ℕ) (bs : Bytes) → b < 256 → IsBytes bs → IsBytes (b ∷ bs)
more b bs low rest zero = low
more b bs low rest (suc i) = rest i

pub both : (a b : Bytes) → IsBytes a → IsBytes b → IsBytes (a ++ b)
both [] b left right = right
both (x ∷ a) b left right = more x (a ++ b) (left 0) (both a b (λ i. left (suc i)) right)

pub front : (a b : Bytes) → IsBytes (a ++ b) → IsBytes a
front [] b h = none
front (x ∷ a) b h = more x a (h 0) (front a b (λ i. h (suc i)))

pub back : (a b : Bytes) → IsBytes (a ++ b) → IsBytes b
back [] b h = h
back (x ∷ a) b h = back a b (λ i. h (suc i))

pub taken : (n : ℕ) (bytes : Bytes) → IsBytes bytes → IsBytes (take n bytes)
taken n bytes h = front (take n bytes) (drop n bytes) (subst IsBytes (sym (take-append-drop n bytes)) h)

pub dropped : (n : ℕ) (bytes : Bytes) → IsBytes bytes → IsBytes (drop n bytes)
dropped n bytes h = back (take n bytes) (drop n bytes) (subst IsBytes (sym (take-append-drop n bytes)) h)

pub kept : (test : ℕ → Bool) (bytes : Bytes) → IsBytes bytes → IsBytes (filter test bytes)
kept test [] h = none
kept test (x ∷ bytes) h =
    let rest = kept test bytes (λ i. h (suc i)) in
    elim (cases_Bool (test x)) [ inl e ↦ rw e (more x (filter test bytes) (h 0) rest) | inr e ↦ rw e rest ]

-- the pieces that are joined
pub pieces : {A : Type 0} (text : A → Bytes) (xs : List A) → IsBytes (flat_map text xs) → AllByRecursion (λ x. IsBytes (text x)) xs
pieces text [] h = tt
pieces text (x ∷ xs) h =
    let cons = subst IsBytes (flat_map-cons text x xs) h in
    (front (text x) (flat_map text xs) cons, pieces text xs (back (text x) (flat_map text xs) cons))

pub joined : {A : Type 0} (text : A → Bytes) (xs : List A) → AllByRecursion (λ x. IsBytes (text x)) xs → IsBytes (flat_map text xs)
joined text [] h = none
joined text (x ∷ xs) h = subst IsBytes (sym (flat_map-cons text x xs)) (both (text x) (flat_map text xs) h.0 (joined text xs h.1))
