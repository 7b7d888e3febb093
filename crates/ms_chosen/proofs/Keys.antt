-- The signatures of a `multi` as a choice among children: each key is one, whose dissatisfaction is nothing.
use Rattle.std.proofs.Common.{◌≡◌, ℕ, zero, suc, nat_lt, Bool, true, false, List, [], ◌∷◌, length, map, reverse, Option, Some, None, refl, sym, ◌∙◌, ap, if◌then◌else◌}
use Rattle.std.specs.Option.{option_map}
use Rattle.std.proofs.lemmas.List.{map-append}
use Rattle.def_machine.specs.Stacks.{Stack}
use Rattle.def_tree.specs.Tree.{Key}
use Rattle.def_assets.specs.Assets.{Assets, sig_of}
use Rattle.def_script.specs.Witness.{weight}
use Rattle.def_script.specs.Bytes.{Bytes}
use Rattle.def_choice.specs.Sets.{sets}
use Rattle.def_choice.specs.Least.{item, both, lighter, least}
use Rattle.def_choice.specs.Cheapest.{signatures_of, signatures}
use Rattle.def_choice.proofs.Weights.{weight-reverse, reverse-cons}
use Rattle.def_choice.proofs.Counted.{least-append, least-map_map, least-below, both-none}
use Rattle.ms_chosen.specs.Scaffolding.Costs.{weight_of}
use Rattle.ms_chosen.specs.Scaffolding.Choice.{chosen}
use Rattle.ms_chosen.specs.Scaffolding.Children.{children_of_keys}
use Rattle.ms_chosen.proofs.Chosen.{choose, chosen_is}

-- the choice of signatures, from that of the other keys
none_signed : (assets : Assets) (key : Key) (keys : List Key) → signatures assets zero (key ∷ keys) ≡ signatures assets zero keys
none_signed assets key keys = least-map_map (signatures_of assets (key ∷ keys)) (λ set. false ∷ set) (sets (length keys) zero)

more_signed : (assets : Assets) (k : ℕ) (key : Key) (keys : List Key) →
    signatures assets (suc k) (key ∷ keys) ≡ lighter (both (item (sig_of assets key)) (signatures assets k keys)) (signatures assets (suc k) keys)
more_signed assets k key keys =
    let f : List Bool → Option Stack = signatures_of assets (key ∷ keys) in
    let with_it : List (List Bool) = map (λ set. true ∷ set) (sets (length keys) k) in
    let without : List (List Bool) = map (λ set. false ∷ set) (sets (length keys) (suc k)) in
    ap least (map-append f with_it without) ∙
    least-append (map f with_it) (map f without) ∙
    ap (λ o. lighter o (least (map f without)))
    (least-map_map f (λ set. true ∷ set) (sets (length keys) k) ∙ least-below (item (sig_of assets key)) (signatures_of assets keys) (sets (length keys) k)) ∙
    ap (lighter (both (item (sig_of assets key)) (signatures assets k keys))) (least-map_map f (λ set. false ∷ set) (sets (length keys) (suc k)))

abbrev turned : Option Stack → Option Stack
turned = option_map reverse

turned-lighter : (former latter : Option Stack) → turned (lighter former latter) ≡ lighter (turned former) (turned latter)
turned-lighter None latter = refl
turned-lighter (Some former) None = refl
turned-lighter (Some former) (Some latter) =
    let same : nat_lt (weight latter) (weight former) ≡ nat_lt (weight (reverse latter)) (weight (reverse former)) =
    ap (λ n. nat_lt n (weight former)) (sym (weight-reverse latter)) ∙ ap (nat_lt (weight (reverse latter))) (sym (weight-reverse former))
    in
    go (nat_lt (weight latter) (weight former)) ∙ ap (λ test. if test then Some (reverse latter) else Some (reverse former)) same
  where
    go : (test : Bool) → turned (if test then Some latter else Some former) ≡ (if test then Some (reverse latter) else Some (reverse former))
    go true = refl
    go false = refl

-- a signature on top of the others, and below them
turned-item : (sig : Option Bytes) (others : Option Stack) → turned (both others (item sig)) ≡ both (item sig) (turned others)
turned-item None others = ap turned (both-none others)
turned-item (Some sig) None = refl
turned-item (Some sig) (Some others) = ap Some (reverse-cons sig others)

pub both-nothing : (others : Option Stack) → both others (Some []) ≡ others
both-nothing None = refl
both-nothing (Some others) = refl

signatures_choose : (assets : Assets) (k : ℕ) (keys : List Key) → signatures assets k keys ≡ turned (choose (children_of_keys assets keys) k)
signatures_choose assets zero [] = refl
signatures_choose assets (suc k) [] = refl
signatures_choose assets zero (key ∷ keys) =
    none_signed assets key keys ∙ signatures_choose assets zero keys ∙ sym (ap turned (both-nothing (choose (children_of_keys assets keys) zero)))
signatures_choose assets (suc k) (key ∷ keys) =
    let others : ℕ → Option Stack = choose (children_of_keys assets keys) in
    let sig : Option Stack = item (sig_of assets key) in
    more_signed assets k key keys ∙
    ap (λ o. lighter (both sig o) (signatures assets (suc k) keys)) (signatures_choose assets k keys) ∙
    ap (lighter (both sig (turned (others k)))) (signatures_choose assets (suc k) keys) ∙
    ap (λ o. lighter o (turned (others (suc k)))) (sym (turned-item (sig_of assets key) (others k))) ∙
    sym (turned-lighter (both (others k) sig) (others (suc k))) ∙
    ap (λ o. turned (lighter (both (others k) sig) o)) (sym (both-nothing (others (suc k))))

pub signatures_are : (assets : Assets) (k : ℕ) (keys : List Key) → signatures assets k keys ≡ option_map reverse (chosen (children_of_keys assets keys) k)
signatures_are assets k keys = signatures_choose assets k keys ∙ ap turned (sym (chosen_is (children_of_keys assets keys) k))

pub signatures_weigh : (assets : Assets) (k : ℕ) (keys : List Key) → weight_of (signatures assets k keys) ≡ weight_of (chosen (children_of_keys assets keys) k)
signatures_weigh assets k keys = ap weight_of (signatures_are assets k keys) ∙ go (chosen (children_of_keys assets keys) k)
  where
    go : (o : Option Stack) → weight_of (turned o) ≡ weight_of o
    go None = refl
    go (Some v) = ap Some (weight-reverse v)
