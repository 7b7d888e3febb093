-- The lightest and the greatest choice by a recursion over the children.
use Rattle.std.proofs.Common.{◌≡◌, ℕ, zero, suc, ◌+◌, Bool, true, false, List, [], ◌∷◌, ◌++◌, Option, Some, None, refl, sym, ◌∙◌, ap, arith}
use Rattle.std.proofs.lemmas.Bool.Decides.{nat_tests}
use Rattle.ms_choice.specs.declared.children.Costs.{Costs}
use Rattle.ms_choice.specs.Choice.{Pick, put, picks, lighter, least, lightest, heavier, most, greatest}

-- a child put before a choice
abbrev pub extend : (satisfied : Bool) → Option ℕ → Option Pick → Option Pick
extend satisfied None o = None
extend satisfied (Some weight) None = None
extend satisfied (Some weight) (Some pick) = Some (weight + pick.0, satisfied ∷ pick.1)

lighter-assoc : (a b c : Option Pick) → lighter (lighter a b) c ≡ lighter a (lighter b c)
lighter-assoc a b c = grind (arith, nat_tests)

least-append : (xs ys : List Pick) → least (xs ++ ys) ≡ lighter (least xs) (least ys)
least-append [] ys = refl
least-append (x ∷ xs) ys = ap (lighter (Some x)) (least-append xs ys) ∙ sym (lighter-assoc (Some x) (least xs) (least ys))

lighter-extend : (s : Bool) (w : ℕ) (a b : Option Pick) → lighter (extend s (Some w) a) (extend s (Some w) b) ≡ extend s (Some w) (lighter a b)
lighter-extend s w a b = grind (arith, nat_tests)

least-put : (s : Bool) (o : Option ℕ) (ps : List Pick) → least (put s o ps) ≡ extend s o (least ps)
least-put s None ps = refl
least-put s (Some w) [] = refl
least-put s (Some w) (p ∷ ps) = ap (lighter (Some (w + p.0, s ∷ p.1))) (least-put s (Some w) ps) ∙ lighter-extend s w (Some p) (least ps)

-- from the choices among the others
abbrev pub counted : (sat dsat : Option ℕ) → (ℕ → Option Pick) → ℕ → Option Pick
counted sat dsat others zero = extend false dsat (others zero)
counted sat dsat others (suc k) = lighter (extend true sat (others k)) (extend false dsat (others (suc k)))

abbrev pub choose : List Costs → ℕ → Option Pick
choose [] zero = Some (0, [])
choose [] (suc k) = None
choose (c ∷ cs) k = counted c.sat c.dsat (choose cs) k

pub lightest_is : (cs : List Costs) (k : ℕ) → lightest cs k ≡ choose cs k
lightest_is [] zero = refl
lightest_is [] (suc k) = refl
lightest_is (c ∷ cs) zero = rw (least-put false c.dsat (picks cs zero), lightest_is cs zero)
lightest_is (c ∷ cs) (suc k) =
    rw (
      least-append (put true c.sat (picks cs k)) (put false c.dsat (picks cs (suc k))),
      least-put true c.sat (picks cs k),
      least-put false c.dsat (picks cs (suc k)),
      lightest_is cs k,
      lightest_is cs (suc k),
    )

-- ---- the greatest

-- a child's weight with that of the others
abbrev pub added : Option ℕ → Option ℕ → Option ℕ
added None o = None
added (Some weight) None = None
added (Some weight) (Some n) = Some (weight + n)

heavier-assoc : (a b c : Option ℕ) → heavier (heavier a b) c ≡ heavier a (heavier b c)
heavier-assoc a b c = grind arith

most-append : (xs ys : List Pick) → most (xs ++ ys) ≡ heavier (most xs) (most ys)
most-append [] ys = refl
most-append (x ∷ xs) ys = ap (heavier (Some x.0)) (most-append xs ys) ∙ sym (heavier-assoc (Some x.0) (most xs) (most ys))

heavier-added : (w : ℕ) (a b : Option ℕ) → heavier (added (Some w) a) (added (Some w) b) ≡ added (Some w) (heavier a b)
heavier-added w a b = grind arith

most-put : (s : Bool) (o : Option ℕ) (ps : List Pick) → most (put s o ps) ≡ added o (most ps)
most-put s None ps = refl
most-put s (Some w) [] = refl
most-put s (Some w) (p ∷ ps) = ap (heavier (Some (w + p.0))) (most-put s (Some w) ps) ∙ heavier-added w (Some p.0) (most ps)

abbrev pub counted_most : (sat dsat : Option ℕ) → (ℕ → Option ℕ) → ℕ → Option ℕ
counted_most sat dsat others zero = added dsat (others zero)
counted_most sat dsat others (suc k) = heavier (added sat (others k)) (added dsat (others (suc k)))

abbrev pub most_chosen : List Costs → ℕ → Option ℕ
most_chosen [] zero = Some 0
most_chosen [] (suc k) = None
most_chosen (c ∷ cs) k = counted_most c.sat c.dsat (most_chosen cs) k

pub greatest_is : (cs : List Costs) (k : ℕ) → greatest cs k ≡ most_chosen cs k
greatest_is [] zero = refl
greatest_is [] (suc k) = refl
greatest_is (c ∷ cs) zero = rw (most-put false c.dsat (picks cs zero), greatest_is cs zero)
greatest_is (c ∷ cs) (suc k) =
    rw (
      most-append (put true c.sat (picks cs k)) (put false c.dsat (picks cs (suc k))),
      most-put true c.sat (picks cs k),
      most-put false c.dsat (picks cs (suc k)),
      greatest_is cs k,
      greatest_is cs (suc k),
    )

-- where there is no greatest there is no choice
pub none_least : (ps : List Pick) → most ps ≡ None → least ps ≡ None
none_least [] e = refl
none_least (p ∷ ps) e = absurd (grind arith)
