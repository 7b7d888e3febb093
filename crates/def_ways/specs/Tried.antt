-- The ways of a tree, found by trying each set of its keys and hash values with each pair of its locks.
use Rattle.std.specs.Prelude.{ℕ, ◌&&◌, not, Bool, List, [], ◌∷◌, ◌++◌, length, map, filter, flat_map, Option, Some, None, if◌then◌else◌}
use Rattle.std.specs.List.{list_any}
use Rattle.def_tree.specs.Tree.{Tree}
use Rattle.def_ways.specs.declared.Delay.{Delay}
use Rattle.def_ways.specs.declared.Moment.{Moment}
use Rattle.def_ways.specs.Secret.{Secret, secrets}
use Rattle.def_ways.specs.Offer.{Offer, no_more}
use Rattle.def_ways.specs.Enough.{policy_of, enough}
use Rattle.def_ways.specs.Order.{is_before}
use Rattle.def_ways.specs.Bound.{delays, moments}

-- every choice of some of a list, in its order
abbrev pub choices : List Secret → List (List Secret)
choices [] = [] ∷ []
choices (secret ∷ rest) = map (λ some. secret ∷ some) (choices rest) ++ choices rest

abbrev pub or_none : {A : Type 0} → List A → List (Option A)
or_none xs = None ∷ map (λ x. Some x) xs

abbrev pub with_locks : Option Delay → Option Moment → List Secret → Offer
with_locks delay moment some = record { delay = delay; moment = moment; secrets = some }

-- each choice with no lock or one of the policy's, of both kinds
abbrev pub tried : Tree → List Offer
tried tree =
    flat_map (λ delay. flat_map (λ moment. map (with_locks delay moment) (choices (secrets tree)))
    (or_none (moments (policy_of tree)))) (or_none (delays (policy_of tree)))

-- less of something, and more of nothing
abbrev pub is_less_than : Offer → Offer → Bool
is_less_than offer other = no_more offer other && not (no_more other offer)

-- those of a list of which none of it is less
abbrev pub least_of : List Offer → List Offer
least_of offers = filter (λ offer. not (list_any (λ other. is_less_than other offer) offers)) offers

abbrev pub insert : Tree → Offer → List Offer → List Offer
insert tree offer [] = offer ∷ []
insert tree offer (other ∷ rest) = if is_before tree offer other then offer ∷ other ∷ rest else other ∷ insert tree offer rest

abbrev pub in_order : Tree → List Offer → List Offer
in_order tree [] = []
in_order tree (offer ∷ rest) = insert tree offer (in_order tree rest)

-- the ways of a tree, in order
unfoldable pub ways : Tree → List Offer
ways tree = in_order tree (least_of (filter (enough tree) (tried tree)))

-- how many there are
abbrev pub count : Tree → ℕ
count tree = length (ways tree)
