-- What is read of tokens, and what is read behind it.
use Rattle.std.proofs.Common.{◌≡◌, ◌≤◌, ℕ, true, false, List, [], ◌∷◌, drop, ap, ◌∙◌, refl, Result, Ok, Err, arith}
use Rattle.std.proofs.lemmas.Bool.{cond-true, cond-false}
use Rattle.std.specs.Result.{IsErrAnd}
use Rattle.std.specs.Str.{bytes_eq}
use Rattle.std.proofs.lemmas.Result.{err_from_is_err_and}
use Rattle.def_script.specs.Bytes.{Bytes}
use Rattle.def_descriptor.specs.declared.DescriptorFault.{DescriptorFault}
use Rattle.def_descriptor.specs.declared.DescriptorFault.TheVariants as fault
use Rattle.def_descriptor.specs.Token.{Token, token, starts, place, Read, and_then, behind}
use Rattle.ms_paths.specs.Places.{Refuses, Reads}

pub then_ok : {A B : Type 0} (r : Read A) (next : A → List Token → Result B DescriptorFault) (x : A) (ts : List Token) → r ≡ Ok (x, ts) → and_then r next ≡ next x ts
then_ok {A} r next x ts e = ap (λ (z : Read A). and_then z next) e

pub then_err : {A B : Type 0} (r : Read A) (next : A → List Token → Result B DescriptorFault) (why : DescriptorFault) → r ≡ Err why → and_then r next ≡ Err why
then_err {A} r next why e = ap (λ (z : Read A). and_then z next) e

pub behind_not : {B : Type 0} (m : Bytes) (ts : List Token) (next : List Token → Result B DescriptorFault) → starts m ts ≡ false → behind m ts next ≡ Err (fault.Syntax (place ts))
behind_not m [] next h = refl
behind_not m (token at own ∷ ts) next h = cond-false (bytes_eq own m) (next ts) (Err (fault.Syntax at)) h

pub behind_is : {B : Type 0} (m : Bytes) (ts : List Token) (next : List Token → Result B DescriptorFault) → starts m ts ≡ true → behind m ts next ≡ next (drop 1 ts)
behind_is m [] next h = absurd (cc)
behind_is m (token at own ∷ ts) next h = cond-true (bytes_eq own m) (next ts) (Err (fault.Syntax at)) h

-- a fault that is handed on
pub handed : {A B : Type 0} (text : Bytes) (at : ℕ) (r : Read A) (f : B → A) (result : Result (B × ℕ) DescriptorFault) (why : DescriptorFault)
    → IsErrAnd result (λ y. y ≡ why) → Refuses r why → Reads text at r f result
handed text at r f result why h is = let p = err_from_is_err_and result h in rw (p.1, p.2) is

-- a fault behind what was read
pub along : {A : Type 0} (r s : Result A DescriptorFault) (why : DescriptorFault) → r ≡ s → Refuses s why → Refuses r why
along r s why e h n = e ∙ h n

pub refused_then : {A B : Type 0} (r : Read A) (next : A → List Token → Result B DescriptorFault) (why : DescriptorFault) → Refuses r why → Refuses (and_then r next) why
refused_then r next why h n = then_err r next why (h n)

-- what is read further on
pub reads_along : {A B : Type 0} (text : Bytes) (at next : ℕ) (r s : Read A) (f : B → A) (result : Result (B × ℕ) DescriptorFault) → at ≤ next → r ≡ s
    → Reads text next s f result → Reads text at r f result
reads_along text at next r s f (Ok x) le e h = (e ∙ h.0, h.1, omega (arith, le, h.2))
reads_along text at next r s f (Err why) le e h = λ n. e ∙ h n
