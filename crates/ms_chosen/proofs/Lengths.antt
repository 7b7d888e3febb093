-- Of the keys of a `multi` the lengths of their signatures are compared: each choice has as many items, so its weight is the
-- length of its signatures and as many bytes more.
use Rattle.std.proofs.Common.{◌≡◌, ℕ, zero, suc, ◌+◌, nat_lt, Bool, true, false, List, [], ◌∷◌, length, Option, Some, None, refl, sym, ◌∙◌, ap, subst, arith, if◌then◌else◌}
use Rattle.std.specs.Option.{option_map}
use Rattle.std.proofs.lemmas.Bool.Decides.{nat_tests}
use Rattle.def_script.specs.Bytes.{Bytes}
use Rattle.def_tree.specs.Tree.{Key}
use Rattle.def_assets.specs.Assets.{Assets, sig_of}
use Rattle.def_script.specs.Witness.{weight}
use Rattle.def_choice.specs.Least.{item}
use Rattle.ms_choice.specs.declared.choice.Choice.{Choice}
use Rattle.ms_choice.specs.Choice.{Pick, lightest, lighter}
use Rattle.ms_choice.specs.Marks.{picked}
use Rattle.ms_choice.proofs.Picks.{extend, choose, lightest_is}
use Rattle.ms_chosen.specs.Scaffolding.Costs.{weight_of, costs_of}
use Rattle.ms_chosen.specs.Scaffolding.Children.{children_of_keys, lengths_of_keys}
use Rattle.ms_chosen.specs.Scaffolding.Table.{IsFound}
use Rattle.ms_chosen.proofs.Chosen.{choose as choose_stack, chosen_is}
use Rattle.ms_chosen.proofs.Picked.{IsOf, chosen_picked, found_of}

-- with so many bytes more
abbrev pub more : ℕ → Option Pick → Option Pick
more k = option_map (λ (pick : Pick). (pick.0 + k, pick.1))

more-lighter : (k : ℕ) (o p : Option Pick) → lighter (more k o) (more k p) ≡ more k (lighter o p)
more-lighter k None p = refl
more-lighter k (Some u) None = refl
more-lighter k (Some u) (Some v) =
    let e : nat_lt (v.0 + k) (u.0 + k) ≡ nat_lt v.0 u.0 = grind (arith, nat_tests) in
    ap (λ test. if test then Some (v.0 + k, v.1) else Some (u.0 + k, u.1)) e ∙ go (nat_lt v.0 u.0)
  where
    go : (test : Bool) → (if test then Some (v.0 + k, v.1) else Some (u.0 + k, u.1)) ≡ more k (if test then Some v else Some u)
    go true = refl
    go false = refl

passed_over : (k : ℕ) (o : Option Pick) → extend false (Some 0) (more k o) ≡ more k (extend false (Some 0) o)
passed_over k None = refl
passed_over k (Some p) =
    let e : 0 + (p.0 + k) ≡ 0 + p.0 + k = omega arith in
    ap (λ n. Some (n, false ∷ p.1)) e

signs : (sig : Option Bytes) (k : ℕ) (o : Option Pick) → extend true (weight_of (item sig)) (more k o) ≡ more (suc k) (extend true (option_map length sig) o)
signs None k o = refl
signs (Some sig) k None = refl
signs (Some sig) k (Some p) =
    let e : weight (sig ∷ []) + (p.0 + k) ≡ length sig + p.0 + suc k = omega arith in
    ap (λ n. Some (n, true ∷ p.1)) e

weights_more : (assets : Assets) (keys : List Key) (k : ℕ) → choose (costs_of (children_of_keys assets keys)) k ≡ more k (choose (lengths_of_keys assets keys) k)
weights_more assets [] zero = refl
weights_more assets [] (suc k) = refl
weights_more assets (key ∷ keys) zero =
    ap (extend false (Some 0)) (weights_more assets keys zero) ∙ passed_over zero (choose (lengths_of_keys assets keys) zero)
weights_more assets (key ∷ keys) (suc k) =
    let sig : Option Bytes = sig_of assets key in
    let others : ℕ → Option Pick = choose (lengths_of_keys assets keys) in
    let rest : Option Pick = extend false (Some 0) (choose (costs_of (children_of_keys assets keys)) (suc k)) in
    ap (λ o. lighter (extend true (weight_of (item sig)) o) rest) (weights_more assets keys k) ∙
    ap (λ o. lighter o rest) (signs sig k (others k)) ∙
    ap (λ o. lighter (more (suc k) (extend true (option_map length sig) (others k))) (extend false (Some 0) o)) (weights_more assets keys (suc k)) ∙
    ap (lighter (more (suc k) (extend true (option_map length sig) (others k)))) (passed_over (suc k) (others (suc k))) ∙
    more-lighter (suc k) (extend true (option_map length sig) (others k)) (extend false (Some 0) (others (suc k)))

-- with a byte for the size of each signature the choice weighs what the items do
abbrev pub with_sizes : ℕ → Option Choice → Option Choice
with_sizes k = option_map (λ (choice : Choice). record { weight = choice.weight + k; last = choice.last })

picked_more : (assets : Assets) (keys : List Key) (k : ℕ) (o : Option Choice) → picked (lengths_of_keys assets keys) (with_sizes k o) ≡ more k (picked (lengths_of_keys assets keys) o)
picked_more assets keys k None = refl
picked_more assets keys k (Some choice) = refl

pub lengths_found : (assets : Assets) (keys : List Key) (k : ℕ) (o : Option Choice) → picked (lengths_of_keys assets keys) o ≡ lightest (lengths_of_keys assets keys) k
    → IsFound (lengths_of_keys assets keys) (children_of_keys assets keys) k (with_sizes k o)
lengths_found assets keys k o is =
    let cs = children_of_keys assets keys in
    let same : choose (costs_of cs) k ≡ picked (lengths_of_keys assets keys) (with_sizes k o) =
    weights_more assets keys k ∙ ap (more k) (sym (is ∙ lightest_is (lengths_of_keys assets keys) k)) ∙ sym (picked_more assets keys k o)
    in
    found_of (lengths_of_keys assets keys) cs k (with_sizes k o)
    (subst (λ s. IsOf cs s (picked (lengths_of_keys assets keys) (with_sizes k o))) (sym (chosen_is cs k))
    (subst (IsOf cs (choose_stack cs k)) same (chosen_picked cs k)))
