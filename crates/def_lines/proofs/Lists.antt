-- What holds of each element of a list, by recursion on the list.
use Rattle.std.proofs.Common.{ℕ, zero, suc, List, [], ◌∷◌, ◌++◌, map, take, drop, reverse, All, sym, subst, arith}
use Rattle.std.proofs.lemmas.List.{reverse-append}

abbrev pub Every : {A : Type 0} → (A → Type 0) → List A → Type 0
Every P [] = Unit {0}
Every P (x ∷ xs) = P x × Every P xs

pub from_all : {A : Type 0} (P : A → Type 0) (xs : List A) → All P xs → Every P xs
from_all P [] h = tt
from_all P (x ∷ xs) h = (h 0 x (omega arith), from_all P xs (λ k d l. h (suc k) d (omega (arith, l))))

pub to_all : {A : Type 0} (P : A → Type 0) (xs : List A) → Every P xs → All P xs
to_all P [] h k d l = absurd (omega (arith, l))
to_all P (x ∷ xs) h zero d l = h.0
to_all P (x ∷ xs) h (suc k) d l = to_all P xs h.1 k d (omega (arith, l))

pub every_joined : {A : Type 0} (P : A → Type 0) (xs ys : List A) → Every P xs → Every P ys → Every P (xs ++ ys)
every_joined P [] ys p q = q
every_joined P (x ∷ xs) ys p q = (p.0, every_joined P xs ys p.1 q)

pub every_mapped : {A B : Type 0} (P : B → Type 0) (f : A → B) (xs : List A) → Every (λ x. P (f x)) xs → Every P (map f xs)
every_mapped P f [] h = tt
every_mapped P f (x ∷ xs) h = (h.0, every_mapped P f xs h.1)

pub every_taken : {A : Type 0} (P : A → Type 0) (n : ℕ) (xs : List A) → Every P xs → Every P (take n xs)
every_taken P zero xs h = tt
every_taken P (suc n) [] h = tt
every_taken P (suc n) (x ∷ xs) h = (h.0, every_taken P n xs h.1)

pub every_dropped : {A : Type 0} (P : A → Type 0) (n : ℕ) (xs : List A) → Every P xs → Every P (drop n xs)
every_dropped P zero xs h = h
every_dropped P (suc n) [] h = tt
every_dropped P (suc n) (x ∷ xs) h = every_dropped P n xs h.1

pub every_turned : {A : Type 0} (P : A → Type 0) (xs : List A) → Every P xs → Every P (reverse xs)
every_turned P [] h = tt
every_turned P (x ∷ xs) h =
    subst (Every P) (sym (reverse-append (x ∷ []) xs)) (every_joined P (reverse xs) (x ∷ []) (every_turned P xs h.1) (h.0, tt))

pub every_weaker : {A : Type 0} (P Q : A → Type 0) → ((x : A) → P x → Q x) → (xs : List A) → Every P xs → Every Q xs
every_weaker P Q weaker [] h = tt
every_weaker P Q weaker (x ∷ xs) h = (weaker x h.0, every_weaker P Q weaker xs h.1)
