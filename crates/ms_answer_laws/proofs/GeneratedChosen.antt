-- The generated trees have satisfactions, and so both choices find one.
use Rattle.std.proofs.Common.{◌≡◌, inl, inr, ℕ, zero, suc, ◌-◌, Bool, true, false, ◌&&◌, ◌||◌, nat_eq, is_some, if◌then◌else◌, List, [], ◌∷◌, Option, map, length, reverse, refl, sym, ap, ◌∙◌, arith}
use Rattle.std.specs.Prelude.{filter, IsSome}
use Rattle.std.specs.List.{list_all, list_any}
use Rattle.std.specs.Option.{option_map}
use Rattle.std.proofs.lemmas.Bool.{cases_Bool}
use Rattle.std.proofs.lemmas.Bool.Decides.{nat_tests}
use Rattle.std.proofs.lemmas.List.Folds.{list_any-from_Any}
use Rattle.def_machine.specs.Stacks.{Stack}
use Rattle.def_tree.specs.Tree.{Trees, thresh}
use Rattle.def_tree.specs.Range.{count}
use Rattle.def_assets.specs.Assets.{Assets}
use Rattle.def_choice.specs.Sets.{sets}
use Rattle.def_choice.specs.Positions.{positions}
use Rattle.def_choice.specs.Least.{both, lighter, least}
use Rattle.def_choice.specs.Cheapest.{Child, stack_of, cheapest_of, cheapest_children}
use Rattle.def_choice.specs.Strict.{free_children, has_all, strict_of, strict_children}
use Rattle.def_choice.proofs.Listed.{sets_are_all}
use Rattle.def_answer.specs.Generated.{threshold_of, generated_children, generated_tree, generated_assets}
use Rattle.ms_answer_laws.specs.Laws.{GeneratedIsSatisfied}
use Rattle.ms_answer_laws.proofs.Computing.{answers_on_literals}
use Rattle.ms_answer_laws.proofs.UpTo.{UpTo, holds_at}

-- ---- stacks that are there

one_more : (chosen rest : Bool) (o sat dsat : Option Stack) → ((is_some sat && is_some dsat) && rest) ≡ true → (rest ≡ true → is_some o ≡ true) →
    is_some (both o (if chosen then sat else dsat)) ≡ true
one_more chosen rest o sat dsat h some = grind arith

-- each child can be satisfied and dissatisfied
abbrev is_open : Child → Bool
is_open c = is_some c.sat && is_some c.dsat

stack_some : (cs : List Child) (set : List Bool) → list_all is_open cs ≡ true → length set ≡ length cs →
    is_some (stack_of cs set) ≡ true
stack_some [] [] h same = refl
stack_some (c ∷ cs) (chosen ∷ set) h same =
    one_more chosen (list_all is_open cs) (stack_of cs set) c.sat c.dsat h (λ rest. stack_some cs set rest (omega arith))
stack_some cs set h same = absurd (omega arith)

-- ---- the first of least weight is there where some one is

lighter_some : (a b : Option Stack) (c : Bool) → (is_some a || c) ≡ true → (c ≡ true → is_some b ≡ true) → is_some (lighter a b) ≡ true
lighter_some a b c h rest = grind arith

least_some : (f : List Bool → Option Stack) (q : List Bool → Bool) (all : List (List Bool)) →
    list_any (λ set. q set && is_some (f set)) all ≡ true
    → is_some (least (map f (filter q all))) ≡ true
least_some f q [] h = cc h
least_some f q (set ∷ all) h = elim (cases_Bool (q set)) [
  | inl e ↦ rw e (lighter_some (f set) (least (map f (filter q all))) _ (rw e at h) (least_some f q all))
  | inr e ↦ rw e (least_some f q all (rw e at h))
]

unfiltered : (all : List (List Bool)) → filter (λ set. true) all ≡ all
unfiltered [] = refl
unfiltered (set ∷ all) = ap (λ rest. set ∷ rest) (unfiltered all)

found : (f : List Bool → Option Stack) (q : List Bool → Bool) (n k : ℕ) (set : List Bool) → length set ≡ n →
    length (positions 0 set) ≡ k
    → q set ≡ true → is_some (f set) ≡ true → is_some (least (map f (filter q (sets n k)))) ≡ true
found f q n k set size chosen passes some =
    let there = (sets_are_all n k set).1 (size, chosen) in
    let both : (q set && is_some (f set)) ≡ true = rw (passes, some) refl in
    least_some f q (sets n k) (list_any-from_Any (λ s. q s && is_some (f s)) (sets n k) (there.0, set, there.1, there.2, both))

-- ---- what is tested of the children

-- a set of k that has all of these
abbrev fill : (wanted : List Bool) → (more : ℕ) → List Bool
fill [] more = []
fill (true ∷ rest) more = true ∷ fill rest more
fill (false ∷ rest) zero = false ∷ fill rest zero
fill (false ∷ rest) (suc more) = true ∷ fill rest more

abbrev filled : (wanted : List Bool) → (k : ℕ) → List Bool
filled wanted k = fill wanted (k - length (positions 0 wanted))

abbrev can_choose : (cheap strict : List Child) → (wanted set : List Bool) → (n k : ℕ) → Bool
can_choose cheap strict wanted set n k =
    list_all is_open cheap && (list_all is_open strict && (has_all wanted set && (nat_eq (length set) n
    && (nat_eq (length (positions 0 set)) k && (nat_eq (length cheap) n && nat_eq (length strict) n)))))

abbrev can_satisfy : Assets → Trees → (k : ℕ) → Bool
can_satisfy assets xs k =
    can_choose (cheapest_children assets xs) (strict_children assets xs) (free_children assets xs) (filled (free_children assets xs) k)
    (count xs) k

abbrev IsSatisfiable : ℕ → Type 0
IsSatisfiable n = can_satisfy (generated_assets n) (generated_children n 0) (threshold_of n) ≡ true

satisfiable_10 : UpTo IsSatisfiable 10
unfolding answers_on_literals
satisfiable_10 = ((((((((((tt, refl), refl), refl), refl), refl), refl), refl), refl), refl), refl)

satisfiable_20 : UpTo IsSatisfiable 20
unfolding answers_on_literals
satisfiable_20 = ((((((((((satisfiable_10, refl), refl), refl), refl), refl), refl), refl), refl), refl), refl)

satisfiable_30 : UpTo IsSatisfiable 30
unfolding answers_on_literals
satisfiable_30 = ((((((((((satisfiable_20, refl), refl), refl), refl), refl), refl), refl), refl), refl), refl)

-- ---- both choices

record HasBoth (assets : Assets) (k : ℕ) (xs : Trees) : Type 0 where
  cheap : is_some (cheapest_of assets (thresh k xs)) ≡ true
  strict : is_some (strict_of assets (thresh k xs)) ≡ true

parts : (cheap strict : List Child) (wanted set : List Bool) (n k : ℕ) → can_choose cheap strict wanted set n k ≡ true →
    (list_all is_open cheap ≡ true) × (list_all is_open strict ≡ true) × (has_all wanted set ≡ true) × (length set ≡ n)
    × (length (positions 0 set) ≡ k) × (length cheap ≡ n) × (length strict ≡ n)
parts cheap strict wanted set n k e = grind (arith, nat_tests)

has_both : (assets : Assets) (k : ℕ) (xs : Trees) → can_satisfy assets xs k ≡ true → HasBoth assets k xs
has_both assets k xs e =
    let cheap = cheapest_children assets xs in
    let strict = strict_children assets xs in
    let wanted = free_children assets xs in
    let set = filled wanted k in
    let p = parts cheap strict wanted set (count xs) k e in
    let cheap_there = found (stack_of cheap) (λ s. true) (count xs) k set p.3 p.4 refl (stack_some cheap set p.0 (p.3 ∙ sym p.5)) in
    record {
      cheap = rw (unfiltered (sets (count xs) k)) at cheap_there;
      strict = found (stack_of strict) (has_all wanted) (count xs) k set p.3 p.4 p.2 (stack_some strict set p.1 (p.3 ∙ sym p.6));
    }

turned_some : (o : Option Stack) → is_some o ≡ true → IsSome (option_map reverse o)
turned_some o h = grind arith

pub generated_is_satisfied : GeneratedIsSatisfied
generated_is_satisfied n some few =
    let has = has_both (generated_assets n) (threshold_of n) (generated_children n 0) (holds_at IsSatisfiable 30 n satisfiable_30 some few) in
    (turned_some (cheapest_of (generated_assets n) (generated_tree n)) has.cheap, turned_some (strict_of (generated_assets n) (generated_tree n)) has.strict)
