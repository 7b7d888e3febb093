-- What is told of a node over other children's types.
use Rattle.std.proofs.Common.{◌≡◌, ℕ, ◌+◌, ◌<◌, ◌≤◌, zero, suc, Bool, true, false, List, [], ◌∷◌, length, get_or, slice_get, Some, None, refl, sym, ap, ◌∙◌, subst, arith, unwrap_or}
use Rattle.std.specs.Prelude.{Option, ◌&&◌, nat_eq, nat_le, is_some, if◌then◌else◌}
use Rattle.std.specs.List.{list_all}
use Rattle.std.proofs.lemmas.Bool.{ne_eqb}
use Rattle.std.proofs.lemmas.Bool.Decides.{nat_tests}
use Rattle.def_types.specs.declared.CorrectnessType.{CorrectnessType}
use Rattle.def_types.specs.Correctness.{is_b, is_w, first_fits, others_fit, and_or_row, two_row, thresh_row, wrap_row}
use Rattle.def_types.proofs.Rows.{correctness_rows}
use Rattle.def_tree.specs.declared.Two.{Two}
use Rattle.def_tree.specs.declared.Wrapper.{Wrapper}
use Rattle.def_tree.specs.Children.{children}
use Rattle.std.proofs.lemmas.Option.{slice_get-get_or, none-some}
use Rattle.def_tree.specs.Tree.{Tree, just_0, and_or, two, thresh, wrap, none}
use Rattle.ms_types.specs.Scaffolding.Told.{then_told, row_told, joined}
use Rattle.ms_types.specs.Replaced.{over_told, all_there, count, replaced, is_right, wrong, wrongs}

pub length-replaced : {A : Type 0} (xs : List A) (i : ℕ) (y : A) → length (replaced xs i y) ≡ length xs
length-replaced [] i y = refl
length-replaced (x ∷ xs) zero y = refl
length-replaced (x ∷ xs) (suc i) y = ap suc (length-replaced xs i y)

-- the element at the place, and those at others
pub replaced_there : {A : Type 0} (xs : List A) (i : ℕ) (y : A) → i < length xs → slice_get (replaced xs i y) i ≡ Some y
replaced_there [] i y below = absurd (omega (arith, below))
replaced_there (x ∷ xs) zero y below = refl
replaced_there (x ∷ xs) (suc i) y below = replaced_there xs i y (omega (arith, below))

pub replaced_elsewhere : {A : Type 0} (xs : List A) (i j : ℕ) (y : A) → (i ≡ j → ⊥) → slice_get (replaced xs i y) j ≡ slice_get xs j
replaced_elsewhere [] i j y other = refl
replaced_elsewhere (x ∷ xs) zero zero y other = absurd (other refl)
replaced_elsewhere (x ∷ xs) zero (suc j) y other = refl
replaced_elsewhere (x ∷ xs) (suc i) zero y other = refl
replaced_elsewhere (x ∷ xs) (suc i) (suc j) y other = replaced_elsewhere xs i j y (λ e. other (ap suc e))

-- ---- nodes with few children

got : {A : Type 0} (x a : A) → Some x ≡ Some a → a ≡ x
got x a e = sym (ap (λ o. unwrap_or o x) e)

pub and_or_is : (ts : List (Option CorrectnessType)) (a b c : Option CorrectnessType) → length ts ≡ 3
    → slice_get ts 0 ≡ Some a → slice_get ts 1 ≡ Some b → slice_get ts 2 ≡ Some c
    → over_told (and_or just_0 just_0 just_0) ts ≡ then_told a (λ u. then_told b (λ v. then_told c (λ w. row_told (and_or_row u v w))))
and_or_is (x ∷ y ∷ z ∷ []) a b c three e0 e1 e2 = rw (got x a e0, got y b e1, got z c e2) refl
and_or_is [] a b c three e0 e1 e2 = absurd (omega (arith, three))
and_or_is (x ∷ []) a b c three e0 e1 e2 = absurd (omega (arith, three))
and_or_is (x ∷ y ∷ []) a b c three e0 e1 e2 = absurd (omega (arith, three))
and_or_is (x ∷ y ∷ z ∷ t ∷ ts) a b c three e0 e1 e2 = absurd (omega (arith, three))

pub two_is : (kind : Two) (ts : List (Option CorrectnessType)) (a b : Option CorrectnessType) → length ts ≡ 2
    → slice_get ts 0 ≡ Some a → slice_get ts 1 ≡ Some b
    → over_told (two kind just_0 just_0) ts ≡ then_told a (λ u. then_told b (λ v. row_told (two_row kind u v)))
two_is kind (x ∷ y ∷ []) a b both e0 e1 = rw (got x a e0, got y b e1) refl
two_is kind [] a b both e0 e1 = absurd (omega (arith, both))
two_is kind (x ∷ []) a b both e0 e1 = absurd (omega (arith, both))
two_is kind (x ∷ y ∷ z ∷ ts) a b both e0 e1 = absurd (omega (arith, both))

pub one_is : {A : Type 0} (ts : List A) (place : ℕ) (y : A) → length ts ≡ 1 → place < 1 → replaced ts place y ≡ y ∷ []
one_is (x ∷ []) zero y one below = refl
one_is (x ∷ []) (suc i) y one below = absurd (omega (arith, below))
one_is [] place y one below = absurd (omega (arith, one))
one_is (x ∷ z ∷ ts) place y one below = absurd (omega (arith, one))

-- ---- thresholds

pub wrongs-replaced : (first : ℕ) (xs : List (Option CorrectnessType)) (i : ℕ) (x y : Option CorrectnessType) → slice_get xs i ≡ Some x
    → wrongs first (replaced xs i y) + wrong (first + i) x ≡ wrongs first xs + wrong (first + i) y
wrongs-replaced first [] i x y at = absurd (none-some x at)
wrongs-replaced first (z ∷ xs) zero x y at = rw (got z x at) (grind arith)
wrongs-replaced first (z ∷ xs) (suc i) x y at = grind (arith, wrongs-replaced (suc first) xs i x y at)

wrong-le : (first : ℕ) (xs : List (Option CorrectnessType)) (i : ℕ) (x : Option CorrectnessType) → slice_get xs i ≡ Some x
    → wrong (first + i) x ≤ wrongs first xs
wrong-le first [] i x at = absurd (none-some x at)
wrong-le first (z ∷ xs) zero x at = rw (got z x at) (grind arith)
wrong-le first (z ∷ xs) (suc i) x at = grind (arith, wrong-le (suc first) xs i x at)

-- where one more is wrong some are
step_is : (b : Bool) (n : ℕ) → nat_eq ((if b then 0 else 1) + n) 0 ≡ (b && nat_eq n 0)
step_is true n = ap (λ m. nat_eq m 0) (omega arith)
step_is false n = ne_eqb (1 + n) 0 (λ e. omega (arith, e))

-- each that follows is W d u
abbrev follow : Option (List CorrectnessType) → Bool
follow None = false
follow (Some types) = list_all (λ y. is_w y.base && y.d && y.u) types

follow_is : (x : CorrectnessType) (o : Option (List CorrectnessType)) → follow (joined (Some (x ∷ [])) o) ≡ ((is_w x.base && x.d && x.u) && follow o)
follow_is x None = go (is_w x.base && x.d && x.u)
  where
    go : (b : Bool) → false ≡ (b && false)
    go true = refl
    go false = refl
follow_is x (Some types) = refl

right_behind : (p : ℕ) (x : CorrectnessType) → is_right (suc p) (Some x) ≡ (is_w x.base && x.d && x.u)
right_behind p x = rw (ne_eqb (suc p) 0 (λ e. omega (arith, e))) refl

others_are : (p : ℕ) (ts : List (Option CorrectnessType)) → nat_eq (wrongs (suc p) ts) 0 ≡ follow (all_there ts)
others_are p [] = refl
others_are p (None ∷ ts) = ne_eqb (1 + wrongs (suc (suc p)) ts) 0 (λ e. omega (arith, e))
others_are p (Some x ∷ ts) =
    step_is (is_right (suc p) (Some x)) (wrongs (suc (suc p)) ts)
    ∙ rw (right_behind p x, others_are (suc p) ts) (sym (follow_is x (all_there ts)))

there_length : (ts : List (Option CorrectnessType)) (each : List CorrectnessType) → all_there ts ≡ Some each → length each ≡ length ts
there_length [] each e = ap length (got [] each e)
there_length (None ∷ ts) each e = absurd (none-some each e)
there_length (Some x ∷ ts) each e = go (all_there ts) (λ others there. there_length ts others there) e
  where
    go : (o : Option (List CorrectnessType)) → ((others : List CorrectnessType) → o ≡ Some others → length others ≡ length ts)
        → joined (Some (x ∷ [])) o ≡ Some each → length each ≡ suc (length ts)
    go None h e = absurd (none-some each e)
    go (Some others) h e = ap length (got (x ∷ others) each e) ∙ ap suc (h others refl)

and_false : (b : Bool) → false ≡ (b && false)
and_false true = refl
and_false false = refl

-- the row of a threshold, by its requirements
row_is : (k : ℕ) (types : List CorrectnessType)
    → is_some (row_told (thresh_row k types)) ≡ ((nat_le 1 k && nat_le k (length types)) && (first_fits types && others_fit types))
unfolding correctness_rows
row_is k types = go (nat_le 1 k && nat_le k (length types)) (first_fits types) (others_fit types) refl refl refl
  where
    go : (a b c : Bool) → (nat_le 1 k && nat_le k (length types)) ≡ a → first_fits types ≡ b → others_fit types ≡ c
        → is_some (row_told (thresh_row k types)) ≡ (a && (b && c))
    go true true true e0 e1 e2 = rw (e0, e1, e2) refl
    go true true false e0 e1 e2 = rw (e0, e1, e2) refl
    go true false c e0 e1 e2 = rw (e0, e1) refl
    go false b c e0 e1 e2 = rw e0 refl

thresh_is : (k : ℕ) (t : Option CorrectnessType) (ts : List (Option CorrectnessType))
    → is_some (over_told (thresh k none) (t ∷ ts)) ≡ ((nat_le 1 k && nat_le k (length (t ∷ ts))) && nat_eq (wrongs 0 (t ∷ ts)) 0)
thresh_is k None ts = and_false (nat_le 1 k && nat_le k (length (None ∷ ts))) ∙ rw (ne_eqb (1 + wrongs 1 ts) 0 (λ e. omega (arith, e))) refl
thresh_is k (Some x) ts = rw (step_is (is_right 0 (Some x)) (wrongs 1 ts), others_are 0 ts) (go (all_there ts) refl)
  where
    go : (o : Option (List CorrectnessType)) → all_there ts ≡ o
        → is_some (then_told (joined (Some (x ∷ [])) o) (λ each. row_told (thresh_row k each)))
        ≡ ((nat_le 1 k && nat_le k (length (Some x ∷ ts))) && ((is_b x.base && x.d && x.u) && follow o))
    go None there = go2 (nat_le 1 k && nat_le k (length (Some x ∷ ts))) (is_b x.base && x.d && x.u)
      where
        go2 : (a b : Bool) → false ≡ (a && (b && false))
        go2 true true = refl
        go2 true false = refl
        go2 false b = refl
    go (Some others) there = row_is k (x ∷ others) ∙ rw (there_length ts others there) refl

pub thresh_done : (k : ℕ) (ts : List (Option CorrectnessType)) (i w : ℕ) (x y : Option CorrectnessType) → slice_get ts i ≡ Some x → i < length ts
    → w ≡ wrongs 0 ts
    → is_some (over_told (thresh k none) (replaced ts i y)) ≡ ((nat_le 1 k && nat_le k (length ts)) && (nat_eq w (wrong i x) && is_right i y))
thresh_done k ts i w x y at below is = go (replaced ts i y) refl
  where
    same : 0 + i ≡ i
    same = omega arith

    changed : wrongs 0 (replaced ts i y) + wrong i x ≡ wrongs 0 ts + wrong i y
    changed = subst (λ n. wrongs 0 (replaced ts i y) + wrong n x ≡ wrongs 0 ts + wrong n y) same (wrongs-replaced 0 ts i x y at)

    few : wrong i x ≤ wrongs 0 ts
    few = subst (λ n. wrong n x ≤ wrongs 0 ts) same (wrong-le 0 ts i x at)

    equal : (a b : Bool) (n : ℕ) → n + (if a then 0 else 1) ≡ w + (if b then 0 else 1) → (if a then 0 else 1) ≤ w
        → nat_eq n 0 ≡ (nat_eq w (if a then 0 else 1) && b)
    equal a true n e small = grind (arith, nat_tests)
    equal a false n e small = ne_eqb n 0 (λ z. omega (arith, z, e, small)) ∙ and_false (nat_eq w (if a then 0 else 1))

    go : (rs : List (Option CorrectnessType)) → replaced ts i y ≡ rs
        → is_some (over_told (thresh k none) rs) ≡ ((nat_le 1 k && nat_le k (length ts)) && (nat_eq w (wrong i x) && is_right i y))
    go [] e = absurd (omega (arith, below, length-replaced ts i y, ap length e))
    go (r ∷ rs) e =
        let many : length (r ∷ rs) ≡ length ts = sym (ap length e) ∙ length-replaced ts i y in
        let others : nat_eq (wrongs 0 (r ∷ rs)) 0 ≡ (nat_eq w (wrong i x) && is_right i y) =
        ap (λ zs. nat_eq (wrongs 0 zs) 0) (sym e)
        ∙ equal (is_right i x) (is_right i y) (wrongs 0 (replaced ts i y)) (omega (arith, changed, is)) (omega (arith, few, is)) in
        thresh_is k r rs ∙ ap (λ n. (nat_le 1 k && nat_le k n) && nat_eq (wrongs 0 (r ∷ rs)) 0) many
        ∙ ap (λ b. (nat_le 1 k && nat_le k (length ts)) && b) others

pub thresh_answer : (k : ℕ) (ts : List (Option CorrectnessType)) (i w : ℕ) (d y : Option CorrectnessType) (within right : Bool) (wx : ℕ) → i < length ts
    → w ≡ wrongs 0 ts → within ≡ (nat_le 1 k && nat_le k (length ts)) → wx ≡ wrong i (get_or ts i d) → right ≡ is_right i y
    → (within && (nat_eq w wx && right)) ≡ is_some (over_told (thresh k none) (replaced ts i y))
thresh_answer k ts i w d y within right wx below is e0 e1 e2 =
    rw (e0, e1, e2) (sym (thresh_done k ts i w (get_or ts i d) y (slice_get-get_or ts i d below) below is))

pub wrap_answer : (t : Tree) (wrapper : Wrapper) (x : Tree) (ts : List (Option CorrectnessType)) (i : ℕ) (y o : Option CorrectnessType) (b : Bool)
    → t ≡ wrap wrapper x → length ts ≡ count (children t) → i < length ts → o ≡ then_told y (λ a. row_told (wrap_row wrapper a)) → b ≡ is_some o
    → b ≡ is_some (over_told t (replaced ts i y))
wrap_answer t wrapper x ts i y o b is many below o-is b-is =
    let one : length ts ≡ 1 = many ∙ ap (λ s. count (children s)) is in
    rw (is, one_is ts i y one (omega (arith, below, one)), b-is, o-is) refl
