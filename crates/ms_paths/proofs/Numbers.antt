-- The numbers of a `<..>`, one more and the last one.
use Rattle.std.proofs.Common.{◌≡◌, ◌≤◌, ℕ, zero, suc, true, false, Bool, List, [], ◌∷◌, ◌++◌, length, drop, ap, ◌∙◌, refl, sym, cond, Ok, Err, arith, ltb, lt-ltb, ne_eqb, ◌==◌, Option, Some}
use Rattle.std.specs.Prelude.{codes, nat_eq, nat_lt, ◌&&◌}
use Rattle.std.specs.List.{list_any}
use Rattle.std.proofs.lemmas.Bool.{cond-true, cond-false, le-ltb}
use Rattle.def_descriptor.specs.declared.DescriptorFault.{DescriptorFault}
use Rattle.def_descriptor.specs.declared.DescriptorFault.TheVariants as fault
use Rattle.def_descriptor.specs.Token.{Token, starts, place, Read}
use Rattle.def_descriptor.specs.Steps.{read_plain, read_numbers, fits}
use Rattle.ms_paths.specs.Paths.{closed_read, branches_read}
use Rattle.ms_paths.proofs.Reading.{then_ok, then_err}

abbrev ok : List ℕ × List Token → Read (List ℕ)
ok x = Ok x

pub numbers_wrong : (most : ℕ) (before : List ℕ) (ts : List Token) (why : DescriptorFault) → read_plain ts ≡ Err why → read_numbers most before ts ≡ Err why
unfolding read_numbers
numbers_wrong zero before ts why e = then_err (read_plain ts) _ why e
numbers_wrong (suc most) before ts why e = then_err (read_plain ts) _ why e

pub numbers_over : (before : List ℕ) (ts rest : List Token) (n : ℕ) → read_plain ts ≡ Ok (n, rest) → read_numbers zero before ts ≡ Err (fault.Multipath (place ts))
unfolding read_numbers
numbers_over before ts rest n e = then_ok (read_plain ts) _ n rest e

module _ (most : ℕ) (before : List ℕ) (ts rest : List Token) (n : ℕ) (e : read_plain ts ≡ Ok (n, rest)) where
  pub numbers_twice : list_any (nat_eq n) before ≡ true → read_numbers (suc most) before ts ≡ Err (fault.Multipath (place ts))
  unfolding read_numbers
  numbers_twice h = then_ok (read_plain ts) _ n rest e ∙ cond-true (list_any (nat_eq n) before) _ _ h

  pub numbers_more : list_any (nat_eq n) before ≡ false → starts (codes ";") rest ≡ true
      → read_numbers (suc most) before ts ≡ read_numbers most (before ++ n ∷ []) (drop 1 rest)
  unfolding read_numbers
  numbers_more h more =
      then_ok (read_plain ts) _ n rest e
      ∙ (cond-false (list_any (nat_eq n) before) _ _ h
      ∙ cond-true (starts (codes ";") rest) _ _ more)

  pub numbers_last : list_any (nat_eq n) before ≡ false → starts (codes ";") rest ≡ false
      → read_numbers (suc most) before ts ≡ closed_read (before ++ n ∷ []) rest
  unfolding read_numbers
  numbers_last h none =
      then_ok (read_plain ts) _ n rest e
      ∙ (cond-false (list_any (nat_eq n) before) _ _ h
      ∙ (cond-false (starts (codes ";") rest) _ _ none
      ∙ same_end before (starts (codes ">") rest)))
    where
      one_more : (xs : List ℕ) → ltb 1 (length (xs ++ n ∷ [])) ≡ ltb 0 (length xs)
      one_more [] = refl
      one_more (x ∷ []) = refl
      one_more (x ∷ y ∷ xs) = lt-ltb 1 (length ((x ∷ y ∷ xs) ++ n ∷ [])) (omega arith) ∙ sym (lt-ltb 0 (length (x ∷ y ∷ xs)) (omega arith))

      same_end : (xs : List ℕ) (t : Bool)
          → cond (t && nat_lt 0 (length xs)) (ok (xs ++ n ∷ [], drop 1 rest)) (Err (fault.Syntax (place rest)))
          ≡ cond (t && nat_lt 1 (length (xs ++ n ∷ []))) (ok (xs ++ n ∷ [], drop 1 rest)) (Err (fault.Syntax (place rest)))
      same_end xs t =
          ap (λ (z : Bool). cond (t && z) (ok (xs ++ n ∷ [], drop 1 rest)) (Err (fault.Syntax (place rest)))) (sym (one_more xs))

-- ---- as many as an earlier key fixed

pub branches_apart : (fixed : Option ℕ) (count at : ℕ) (ts rest : List Token) (ns : List ℕ) → read_numbers 16 [] (drop 1 ts) ≡ Ok (ns, rest)
    → fixed ≡ Some count → (length ns ≡ count → ⊥) → place ts ≡ at → branches_read fixed ts ≡ Err (fault.Multipath at)
branches_apart fixed count at ts rest ns e f apart there =
    then_ok (read_numbers 16 [] (drop 1 ts)) _ ns rest e
    ∙ (ap (λ (z : Option ℕ). cond (fits z (length ns)) (ok (ns, rest)) (Err (fault.Multipath (place ts)))) f
    ∙ (cond-false (length ns == count) (ok (ns, rest)) (Err (fault.Multipath (place ts))) (ne_eqb (length ns) count apart)
    ∙ ap (λ (z : ℕ). Err (fault.Multipath z)) there))

-- ---- the end of the numbers

module _ (numbers : List ℕ) (ts : List Token) (at : ℕ) (there : place ts ≡ at) where
  unclosed : (starts (codes ">") ts && nat_lt 1 (length numbers)) ≡ false → closed_read numbers ts ≡ Err (fault.Syntax at)
  unclosed h =
      cond-false (starts (codes ">") ts && nat_lt 1 (length numbers)) (ok (numbers, drop 1 ts)) (Err (fault.Syntax (place ts))) h
      ∙ ap (λ (z : ℕ). Err (fault.Syntax z)) there

  pub no_end : starts (codes ">") ts ≡ false → closed_read numbers ts ≡ Err (fault.Syntax at)
  no_end h = unclosed (first_false (starts (codes ">") ts) (nat_lt 1 (length numbers)) h)
    where
      first_false : (x y : Bool) → x ≡ false → (x && y) ≡ false
      first_false true y e = absurd (cc)
      first_false false y e = refl

  pub too_few : length numbers ≤ 1 → closed_read numbers ts ≡ Err (fault.Syntax at)
  too_few h = unclosed (second_false (starts (codes ">") ts) (nat_lt 1 (length numbers)) (le-ltb 1 (length numbers) h))
    where
      second_false : (x y : Bool) → y ≡ false → (x && y) ≡ false
      second_false true y e = e
      second_false false y e = refl
