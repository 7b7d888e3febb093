-- What VERIFY at the end of a Script changes.
use Rattle.std.proofs.Common.{◌≡◌, ℕ, zero, suc, ◌+◌, List, [], ◌∷◌, ◌++◌, length, set, get_or, refl, sym, ap, arith}
use Rattle.def_script.specs.declared.Op.TheVariants as op
use Rattle.def_script.specs.Instruction.{Instruction, code}
use Rattle.def_script.specs.Verify.{verified, verified_last}

-- only the last instructions count
pub verified-append : (xs : List Instruction) (y : Instruction) (ys : List Instruction) → verified (xs ++ y ∷ ys) ≡ xs ++ verified (y ∷ ys)
verified-append [] y ys = refl
verified-append (x ∷ []) y ys = refl
verified-append (x ∷ z ∷ xs) y ys = ap (λ rest. x ∷ rest) (verified-append (z ∷ xs) y ys)

-- the last instruction has a VERIFY form, which is put in its place
pub verified-set : (xs : List Instruction) (n : ℕ) (form d : Instruction) → n + 1 ≡ length xs → verified_last (get_or xs n d) ≡ form ∷ [] → set xs n form ≡ verified xs
verified-set [] n form d last is = absurd (omega (arith, last))
verified-set (x ∷ []) zero form d last is = sym is
verified-set (x ∷ []) (suc n) form d last is = absurd (omega (arith, last))
verified-set (x ∷ y ∷ xs) zero form d last is = absurd (omega (arith, last))
verified-set (x ∷ y ∷ xs) (suc n) form d last is =
    ap (λ rest. x ∷ rest) (verified-set (y ∷ xs) n form d (omega (arith, last)) is)

-- the last instruction has none
pub verified-plain : (xs : List Instruction) (n : ℕ) (d : Instruction) → n + 1 ≡ length xs → verified_last (get_or xs n d) ≡ get_or xs n d ∷ code op.Verify
    ∷ [] → xs ++ code op.Verify ∷ [] ≡ verified xs
verified-plain [] n d last is = absurd (omega (arith, last))
verified-plain (x ∷ []) zero d last is = sym is
verified-plain (x ∷ []) (suc n) d last is = absurd (omega (arith, last))
verified-plain (x ∷ y ∷ xs) zero d last is = absurd (omega (arith, last))
verified-plain (x ∷ y ∷ xs) (suc n) d last is =
    ap (λ rest. x ∷ rest) (verified-plain (y ∷ xs) n d (omega (arith, last)) is)
