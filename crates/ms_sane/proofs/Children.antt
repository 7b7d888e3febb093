-- What the children of a threshold are to a choice.
use Rattle.std.proofs.Common.{◌≡◌, ℕ, zero, suc, ◌+◌, ◌<◌, max, List, [], ◌∷◌, ◌++◌, Option, Some, None, length, take, get_or, refl, sym, ◌∙◌, ap, arith}
use Rattle.std.specs.Option.{option_map}
use Rattle.std.proofs.lemmas.List.{map_more}
use Rattle.def_limits.specs.Formal.{Takes, nothing, plus}
use Rattle.def_limits.specs.Scaffolding.Most.{greater, both, either, counted, most_sat, most_dsat, most_parts}
use Rattle.ms_tree.specs.declared.tree.Tree.{Tree}
use Rattle.ms_tree.specs.Shape.{shape, shapes}
use Rattle.ms_choice.specs.declared.children.Number.{Number}
use Rattle.ms_choice.specs.declared.children.Number.TheVariants.{First, Second, Third}
use Rattle.ms_choice.specs.Choice.{heavier, greatest}
use Rattle.ms_choice.proofs.Totals.{each_number}
use Rattle.ms_choice.proofs.Picks.{added, counted_most, most_chosen, greatest_is}
use Rattle.ms_choice.specs.declared.children.Costs.{Costs}
use Rattle.ms_sane.specs.Scaffolding.Takes.{takes_at, costs_at}
use Rattle.ms_sane.specs.Scaffolding.Most.{children_in}

-- a number of both, and of either
number_of_both : (n : Number) (a c : Option Takes) → option_map (takes_at n) (both a c) ≡ added (option_map (takes_at n) c) (option_map (takes_at n) a)
number_of_both n None None = refl
number_of_both n None (Some c) = refl
number_of_both n (Some a) None = refl
number_of_both n (Some a) (Some c) = ap Some (each_number (λ n. takes_at n (plus a c) ≡ takes_at n c + takes_at n a) (omega arith) (omega arith) (omega arith) n)

number_of_either : (n : Number) (a c : Option Takes) → option_map (takes_at n) (either a c) ≡ heavier (option_map (takes_at n) a) (option_map (takes_at n) c)
number_of_either n None c = refl
number_of_either n (Some a) None = refl
number_of_either n (Some a) (Some c) = ap Some (each_number (λ n. takes_at n (greater a c) ≡ max (takes_at n a) (takes_at n c)) refl refl refl n)

number_of_counted : (n : Number) (s d : Option Takes) (others : ℕ → Option Takes) (numbers : ℕ → Option ℕ) → ((k : ℕ) → option_map (takes_at n) (others k) ≡ numbers k) → (k : ℕ)
    → option_map (takes_at n) (counted s d others k) ≡ counted_most (option_map (takes_at n) s) (option_map (takes_at n) d) numbers k
number_of_counted n s d others numbers are zero =
    number_of_both n (others zero) d ∙ ap (added (option_map (takes_at n) d)) (are zero)
number_of_counted n s d others numbers are (suc k) =
    number_of_either n (both (others k) s) (both (others (suc k)) d) ∙
    ap (λ o. heavier o (option_map (takes_at n) (both (others (suc k)) d))) (number_of_both n (others k) s ∙ ap (added (option_map (takes_at n) s)) (are k)) ∙
    ap (heavier (added (option_map (takes_at n) s) (numbers k))) (number_of_both n (others (suc k)) d ∙ ap (added (option_map (takes_at n) d)) (are (suc k)))

-- in each number the children of a threshold are chosen as its formal satisfactions are counted
parts_are : (n : Number) (xs : List Tree) (k : ℕ) → option_map (takes_at n) (most_parts (shapes xs) k) ≡ most_chosen (children_in n xs) k
parts_are n [] zero = ap Some (each_number (λ n. takes_at n nothing ≡ 0) refl refl refl n)
parts_are n [] (suc k) = refl
parts_are n (x ∷ xs) k =
    number_of_counted n (most_sat (shape x)) (most_dsat (shape x)) (most_parts (shapes xs)) (most_chosen (children_in n xs)) (parts_are n xs) k

pub parts_chosen : (n : Number) (xs : List Tree) (k : ℕ) → option_map (takes_at n) (most_parts (shapes xs) k) ≡ greatest (children_in n xs) k
parts_chosen n xs k = parts_are n xs k ∙ sym (greatest_is (children_in n xs) k)

-- three numbers are what is taken
pub same_takes : (o p : Option Takes) → ((n : Number) → option_map (takes_at n) o ≡ option_map (takes_at n) p) → o ≡ p
same_takes None None is = refl
same_takes None (Some u) is = absurd (let e = is First in let never : ⊥ = cc in never)
same_takes (Some t) None is = absurd (let e = is First in let never : ⊥ = cc in never)
same_takes (Some t) (Some u) is =
    let first = is First in
    let second = is Second in
    let third = is Third in
    let items : t.items ≡ u.items = cc in
    let weight : t.weight ≡ u.weight = cc in
    let keys : t.keys ≡ u.keys = cc in
    λ i. Some (record { items = items i; weight = weight i; keys = keys i })

-- a further child
pub costs_alike : (n : Number) {s d t u : Option Takes} → s ≡ t → d ≡ u → costs_at n s d ≡ costs_at n t u
costs_alike n e f = λ i. costs_at n (e i) (f i)

pub children_more : (n : Number) (xs : List Tree) (i : ℕ) (x : Tree) (c : Costs) → i < length xs → x ≡ get_or xs i x → c ≡ costs_at n (most_sat (shape x)) (most_dsat (shape x))
    → children_in n (take i xs) ++ c ∷ [] ≡ children_in n (take (i + 1) xs)
children_more n xs i x c below at is =
    let child : Tree → Costs = λ y. costs_at n (most_sat (shape y)) (most_dsat (shape y)) in
    ap (λ d. children_in n (take i xs) ++ d ∷ []) (is ∙ ap child at) ∙ sym (map_more child xs i x below)
