-- What the definitions imply.
use Rattle.std.specs.Prelude.{◌≡◌, ◌↔◌, ℕ, IsTrue, List}
use Rattle.def_script.specs.Bytes.{Bytes}
use Rattle.def_tree.specs.Tree.{Tree}
use Rattle.def_tree.specs.Range.{IsWritable}
use Rattle.def_sane.specs.Unfit.{IsSane}
use Rattle.def_satisfaction.specs.Satisfaction.{Sat}
use Rattle.def_ways.specs.Offer.{Offer, IsOffer, no_more}
use Rattle.def_ways.specs.Enough.{enough}
use Rattle.def_ways.specs.Way.{IsWay, AreWays}
use Rattle.def_ways.specs.Tried.{ways}
use Rattle.def_ways.specs.StandIn.{Preimages, AreStandIns, standing, assets_of, Weighs}

-- trying finds all ways of a sane tree, and no other list is the list of its ways
abbrev pub TriedAreWays : Type 0
TriedAreWays = (tree : Tree) → IsWritable tree → IsSane tree → AreWays tree (ways tree)

abbrev pub OneList : Type 0
OneList = (tree : Tree) (former latter : List Offer) → AreWays tree former → AreWays tree latter → former ≡ latter

-- an offer of a sane tree is enough exactly where its assets make a canonical satisfaction of the tree with stand-ins,
-- whichever these are
abbrev pub EnoughIsSatisfied : Type 0
EnoughIsSatisfied =
    (tree : Tree) (p : Preimages) (offer : Offer) →
    IsWritable tree → IsSane tree → AreStandIns tree p → IsOffer tree offer →
    (IsTrue (enough tree offer) ↔ ((stack : List Bytes) × Sat (standing p tree) (assets_of p offer) stack))

-- what is enough for a sane tree stays enough with more
abbrev pub MoreIsEnough : Type 0
MoreIsEnough =
    (tree : Tree) (offer more : Offer) → IsWritable tree → IsSane tree → IsOffer tree offer → IsOffer tree more →
    IsTrue (no_more offer more) → IsTrue (enough tree offer) → IsTrue (enough tree more)

-- each offer that is enough has a way that is no more
abbrev pub EachHasWay : Type 0
EachHasWay =
    (tree : Tree) (offer : Offer) → IsWritable tree → IsSane tree → IsOffer tree offer → IsTrue (enough tree offer) →
    ((way : Offer) × IsWay tree way × IsTrue (no_more way offer))

-- which stand-ins are taken changes no weight
abbrev pub OneWeight : Type 0
OneWeight =
    (tree : Tree) (p q : Preimages) (offer : Offer) (w : ℕ) →
    IsWritable tree → IsSane tree → AreStandIns tree p → AreStandIns tree q → IsWay tree offer →
    Weighs tree p offer w → Weighs tree q offer w
