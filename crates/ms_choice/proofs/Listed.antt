-- The listed choices are all; which of them is the lightest, and what the greatest weighs.
use Rattle.std.proofs.Common.{◌≡◌, ℕ, zero, suc, ◌+◌, ◌≤◌, max, nat_lt, Bool, true, false, List, [], ◌∷◌, map, Option, Some, None, refl, sym, ◌∙◌, ap, subst, All, Contains, arith, if◌then◌else◌}
use Rattle.std.proofs.lemmas.Bool.Decides.{nat_tests}
use Rattle.std.proofs.lemmas.List.Elements.{All-nil, All-cons, All-append, All-map, All-weaker, All-contains, Contains-append_left, Contains-append_right}
use Rattle.std.proofs.lemmas.List.{length-map, get_or-map}
use Rattle.ms_choice.specs.declared.children.Costs.{Costs}
use Rattle.ms_choice.specs.Choice.{Pick, put, picks, lighter, least, heavier, most}
use Rattle.ms_choice.specs.Laws.{IsChosen, PicksAreAll, IsLightest, IsGreatest, LightestWeighsLeast, GreatestWeighsMost}

-- each listed choice is one
put_in : (b : Bool) (o : Option ℕ) (P Q : Pick → Type 0) (ps : List Pick) → ((w : ℕ) (p : Pick) → o ≡ Some w → P p → Q (w + p.0, b ∷ p.1)) → All P ps → All Q (put b o ps)
put_in b None P Q ps f h = All-nil Q
put_in b (Some w) P Q ps f h = All-map Q (λ p. (w + p.0, b ∷ p.1)) ps (All-weaker P (λ p. Q (w + p.0, b ∷ p.1)) (λ p g. f w p refl g) ps h)

abbrev Of : List Costs → ℕ → Pick → Type 0
Of cs k p = IsChosen p.1 cs k p.0

chosen : (cs : List Costs) (k : ℕ) → All (λ p. IsChosen p.1 cs k p.0) (picks cs k)
chosen [] zero = All-cons (λ p. IsChosen p.1 [] zero p.0) (0, []) [] (refl, refl) (All-nil (λ p. IsChosen p.1 [] zero p.0))
chosen [] (suc k) = All-nil (λ p. IsChosen p.1 [] (suc k) p.0)
chosen (c ∷ cs) zero = put_in false c.dsat (Of cs zero) (Of (c ∷ cs) zero) (picks cs zero) (λ w p e g. (w, p.0, e, refl, g)) (chosen cs zero)
chosen (c ∷ cs) (suc k) =
    All-append (Of (c ∷ cs) (suc k)) _ _ (put_in true c.sat (Of cs k) (Of (c ∷ cs) (suc k)) (picks cs k) (λ w p e g. (w, k, p.0, e, refl, refl, g)) (chosen cs k))
    (put_in false c.dsat (Of cs (suc k)) (Of (c ∷ cs) (suc k)) (picks cs (suc k)) (λ w p e g. (w, p.0, e, refl, g)) (chosen cs (suc k)))

-- each choice is listed
contains-map : {A B : Type 0} (g : A → B) (xs : List A) (x : A) → Contains xs x → Contains (map g xs) (g x)
contains-map g xs x h = (h.0, rw length-map h.1, get_or-map g xs h.0 x (g x) h.1 ∙ ap g h.2)

in_put : (satisfied : Bool) (o : Option ℕ) (n w v : ℕ) (set : List Bool) (ps : List Pick) → o ≡ Some n → v ≡ n + w → Contains ps (w, set) → Contains (put satisfied o ps) (v, satisfied ∷ set)
in_put satisfied o n w v set ps e f h =
    subst (λ u. Contains (put satisfied o ps) (u, satisfied ∷ set)) (sym f)
    (subst (λ o. Contains (put satisfied o ps) (n + w, satisfied ∷ set)) (sym e) (contains-map (λ p. (n + p.0, satisfied ∷ p.1)) ps (w, set) h))

all_listed : (set : List Bool) (cs : List Costs) (k w : ℕ) → IsChosen set cs k w → Contains (picks cs k) (w, set)
all_listed [] [] k w h =
    subst (λ j. Contains (picks [] j) (w, [])) (sym h.0)
    (subst (λ v. Contains (picks [] 0) (v, [])) (sym h.1) (0, omega arith, refl))
all_listed [] (c ∷ cs) k w h = absurd h
all_listed (b ∷ set) [] k w h = absurd h
all_listed (true ∷ set) (c ∷ cs) k w (s, j, v, sat, count, weighs, others) =
    subst (λ i. Contains (picks (c ∷ cs) i) (w, true ∷ set)) (sym count)
    (Contains-append_left (put true c.sat (picks cs j)) (put false c.dsat (picks cs (suc j))) (w, true ∷ set)
    (in_put true c.sat s v w set (picks cs j) sat weighs (all_listed set cs j v others)))
all_listed (false ∷ set) (c ∷ cs) zero w (d, v, dsat, weighs, others) =
    in_put false c.dsat d v w set (picks cs zero) dsat weighs (all_listed set cs zero v others)
all_listed (false ∷ set) (c ∷ cs) (suc k) w (d, v, dsat, weighs, others) =
    Contains-append_right (put true c.sat (picks cs k)) (put false c.dsat (picks cs (suc k))) (w, false ∷ set)
    (in_put false c.dsat d v w set (picks cs (suc k)) dsat weighs (all_listed set cs (suc k) v others))

pub picks_are_all : PicksAreAll
picks_are_all cs k w set = (λ h. All-contains (λ p. IsChosen p.1 cs k p.0) (picks cs k) (w, set) (chosen cs k) h, all_listed set cs k w)

-- ---- the lightest and the greatest

first_in : (p : Pick) (ps : List Pick) → Contains (p ∷ ps) p
first_in p ps = (0, omega arith, refl)

later_in : (q : Pick) (ps : List Pick) (p : Pick) → Contains ps p → Contains (q ∷ ps) p
later_in q ps p h = Contains-append_right (q ∷ []) ps p h

lightest_step : (p : Pick) (ps : List Pick) (o : Option Pick) → IsLightest ps o → IsLightest (p ∷ ps) (lighter (Some p) o)
lightest_step p ps None h =
    subst (λ qs. IsLightest (p ∷ qs) (Some p)) (sym h) (first_in p [], All-cons (λ q. p.0 ≤ q.0) p [] (omega arith) (All-nil (λ q. p.0 ≤ q.0)))
lightest_step p ps (Some l) h = go (nat_lt l.0 p.0) refl
  where
    go : (test : Bool) → nat_lt l.0 p.0 ≡ test → IsLightest (p ∷ ps) (if test then Some l else Some p)
    go true e =
        let less : l.0 ≤ p.0 = grind (arith, nat_tests) in
        (later_in p ps l h.0, All-cons (λ q. l.0 ≤ q.0) p ps less h.1)
    go false e =
        let less : p.0 ≤ l.0 = grind (arith, nat_tests) in
        (first_in p ps, All-cons (λ q. p.0 ≤ q.0) p ps (omega arith) (All-weaker (λ q. l.0 ≤ q.0) (λ q. p.0 ≤ q.0) (λ q g. omega (arith, g, less)) ps h.1))

is_lightest : (ps : List Pick) → IsLightest ps (least ps)
is_lightest [] = refl
is_lightest (p ∷ ps) = lightest_step p ps (least ps) (is_lightest ps)

pub lightest_weighs_least : LightestWeighsLeast
lightest_weighs_least cs k = is_lightest (picks cs k)

greatest_step : (p : Pick) (ps : List Pick) (o : Option ℕ) → IsGreatest ps o → IsGreatest (p ∷ ps) (heavier (Some p.0) o)
greatest_step p ps None h =
    subst (λ qs. IsGreatest (p ∷ qs) (Some p.0)) (sym h) ((p, first_in p [], refl), All-cons (λ q. q.0 ≤ p.0) p [] (omega arith) (All-nil (λ q. q.0 ≤ p.0)))
greatest_step p ps (Some n) h = go (nat_lt n p.0) refl
  where
    go : (test : Bool) → nat_lt n p.0 ≡ test → IsGreatest (p ∷ ps) (heavier (Some p.0) (Some n))
    go true e =
        let less : n ≤ p.0 = grind (arith, nat_tests) in
        ((p, first_in p ps, omega (arith, less)), All-cons (λ q. q.0 ≤ max p.0 n) p ps (omega arith) (All-weaker (λ q. q.0 ≤ n) (λ q. q.0 ≤ max p.0 n) (λ q g. omega (arith, g)) ps h.1))
    go false e =
        let less : p.0 ≤ n = grind (arith, nat_tests) in (
          (h.0.0, later_in p ps h.0.0 h.0.1, omega (arith, less, h.0.2)),
          All-cons (λ q. q.0 ≤ max p.0 n) p ps (omega arith) (All-weaker (λ q. q.0 ≤ n) (λ q. q.0 ≤ max p.0 n) (λ q g. omega (arith, g)) ps h.1),
        )

is_greatest : (ps : List Pick) → IsGreatest ps (most ps)
is_greatest [] = refl
is_greatest (p ∷ ps) = greatest_step p ps (most ps) (is_greatest ps)

pub greatest_weighs_most : GreatestWeighsMost
greatest_weighs_most cs k = is_greatest (picks cs k)
