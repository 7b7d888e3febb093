-- What joined and turned stacks weigh, and that a stack has what it has when it is turned round.
use Rattle.std.proofs.Common.{◌≡◌, ◌+◌, List, [], ◌∷◌, ◌++◌, reverse, refl, ap, arith, ◌-◌, length, Contains, sym, ◌∙◌}
use Rattle.std.proofs.lemmas.List.{reverse-append, length-reverse, get_or-reverse}
use Rattle.def_script.specs.Bytes.{Bytes}
use Rattle.def_script.specs.Witness.{weight}

pub weight-append : (xs ys : List Bytes) → weight (xs ++ ys) ≡ weight xs + weight ys
weight-append [] ys = omega arith
weight-append (x ∷ xs) ys = let h = weight-append xs ys in omega (arith, h)

pub reverse-cons : (x : Bytes) (xs : List Bytes) → reverse (x ∷ xs) ≡ reverse xs ++ x ∷ []
reverse-cons x xs = reverse-append (x ∷ []) xs

pub weight-reverse : (xs : List Bytes) → weight (reverse xs) ≡ weight xs
weight-reverse [] = refl
weight-reverse (x ∷ xs) =
    let h = weight-reverse xs in
    let a = weight-append (reverse xs) (x ∷ []) in
    let b : weight (reverse (x ∷ xs)) ≡ weight (reverse xs ++ x ∷ []) = ap weight (reverse-cons x xs) in
    omega (arith, h, a, b)

-- an item of a stack that is turned round is one of the stack
pub contains-reverse : (xs : List Bytes) (x : Bytes) → Contains (reverse xs) x → Contains xs x
contains-reverse xs x (k, below, e) =
    let l = length-reverse xs in
    (length xs - 1 - k, omega (arith, l, below), sym (get_or-reverse xs k x (omega (arith, l, below))) ∙ e)
