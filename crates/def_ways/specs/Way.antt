-- What a way is, and which list is the list of all of them.
use Rattle.std.specs.Prelude.{◌≡◌, ◌↔◌, IsTrue, List, Contains}
use Rattle.std.specs.List.{AllPairs}
use Rattle.def_tree.specs.Tree.{Tree}
use Rattle.def_ways.specs.Offer.{Offer, IsOffer, no_more}
use Rattle.def_ways.specs.Enough.{enough}
use Rattle.def_ways.specs.Order.{is_before}

-- an offer that is enough, and of which no other one that is no more is enough
pub record IsWay (tree : Tree) (offer : Offer) : Type 0 where
  pub fits : IsOffer tree offer
  pub suffices : IsTrue (enough tree offer)
  pub least : (other : Offer) → IsOffer tree other → IsTrue (enough tree other) → IsTrue (no_more other offer) → other ≡ offer

-- these are the ways of a tree, all of them, none twice and in order
pub record AreWays (tree : Tree) (ways : List Offer) : Type 0 where
  pub each : (offer : Offer) → Contains ways offer ↔ IsWay tree offer
  pub ordered : AllPairs (λ former latter. IsTrue (is_before tree former latter)) ways
