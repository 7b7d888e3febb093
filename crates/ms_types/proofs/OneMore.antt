-- What is known of the children of a threshold, and of one child more.
use Rattle.std.proofs.Common.{◌≡◌, Bool, true, false, ◌&&◌, ◌||◌, nat_eq, List, [], ◌∷◌, ◌++◌, length, refl, ap, ◌∙◌, sym, if◌then◌else◌, arith}
use Rattle.std.proofs.lemmas.List.Folds.{list_all-append}
use Rattle.std.proofs.lemmas.List.{length-append}
use Rattle.std.proofs.Math.Dec.{eqb-suc-zero}
use Rattle.std.proofs.Math.Bool.{and-true, and_assoc}
use Rattle.def_types.specs.declared.CorrectnessType.{CorrectnessType}
use Rattle.def_types.specs.Correctness.{is_b, is_w, first_fits, others_fit, all_z, all_z_but_one}
use Rattle.ms_types.specs.Scaffolding.Children.{seen, and}

-- a child behind the others
all_z_snoc : (xs : List CorrectnessType) (x : CorrectnessType) → all_z (xs ++ x ∷ []) ≡ (all_z xs && x.z)
all_z_snoc [] x = and-true x.z
all_z_snoc (y ∷ xs) x = rw (all_z_snoc xs x) (sym (and_assoc y.z (all_z xs) x.z))

one_more : (a b c d e f : Bool) → ((a && b && f) || (c && ((b && e) || (d && f)))) ≡ (((c && b) && e) || (((a && b) || (c && d)) && f))
one_more true b true d e f = grind arith
one_more true b false d e f = grind arith
one_more false b true d e f = grind arith
one_more false b false d e f = refl

all_z_but_one_snoc : (xs : List CorrectnessType) (x : CorrectnessType) → all_z_but_one (xs ++ x ∷ []) ≡ ((all_z xs && x.o) || (all_z_but_one xs && x.z))
all_z_but_one_snoc [] x = grind arith
all_z_but_one_snoc (y ∷ xs) x =
    rw (all_z_but_one_snoc xs x)
    (rw (all_z_snoc xs x)
    (rw (sym (and_assoc y.o (all_z xs) x.z))
    (one_more y.o (all_z xs) y.z (all_z_but_one xs) x.o x.z)))

first_fits_snoc : (xs : List CorrectnessType) (x : CorrectnessType) → first_fits (xs ++ x ∷ []) ≡ (if nat_eq (length xs) 0 then is_b x.base && x.d && x.u else first_fits xs)
first_fits_snoc [] x = refl
first_fits_snoc (y ∷ xs) x = rw (eqb-suc-zero (length xs)) refl

others_fit_snoc : (xs : List CorrectnessType) (x : CorrectnessType) → others_fit (xs ++ x ∷ []) ≡ (others_fit xs && (nat_eq (length xs) 0 || (is_w x.base && x.d && x.u)))
others_fit_snoc [] x = refl
others_fit_snoc (y ∷ xs) x = rw (eqb-suc-zero (length xs)) (list_all-append (λ z. is_w z.base && z.d && z.u) xs (x ∷ []) ∙ ap (λ b. others_fit (y ∷ xs) && b) (and-true (is_w x.base && x.d && x.u)))

-- so what is known of the children is known of one more
pub seen_snoc : (xs : List CorrectnessType) (x : CorrectnessType) → seen (xs ++ x ∷ []) ≡ and (seen xs) x
seen_snoc xs x =
    rw (length-append xs (x ∷ []))
    (rw (first_fits_snoc xs x)
    (rw (others_fit_snoc xs x)
    (rw (all_z_snoc xs x)
    (rw (all_z_but_one_snoc xs x) refl))))
