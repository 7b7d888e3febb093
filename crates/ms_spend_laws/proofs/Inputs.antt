-- What each input of a PSBT has that a source of bytes gives.
use Rattle.std.proofs.Common.{List, [], ◌∷◌, map, sym, subst}
use Rattle.std.specs.List.{AllByRecursion}
use Rattle.std.proofs.lemmas.List.Elements.{All-from_recursion, recursion_from_All}
use Rattle.def_assets.specs.Assets.{AreAssets}
use Rattle.def_spend.specs.Good.{assets_of}
use Rattle.def_spend.specs.Reading.{Input, HasReading}
use Rattle.ms_given_laws.specs.Given.{OfEachInput, EachIsSound}
use Rattle.ms_given_laws.proofs.Held.{assets_are}
use Rattle.ms_given_laws.proofs.Wholes.{HasPlace, places}

-- its place and its map, and that it is read
pub record IsGiven (input : Input) : Type 0 where
  pub place : HasPlace input.spend
  pub read : HasReading input

pub held : (input : Input) → IsGiven input → AreAssets (assets_of input.spend)
held input given =
    let place = given.place in
    assets_are place.version input.spend place.locks place.sound place.fits

each_given : (Holds : Input → Type 0) → ((input : Input) → IsGiven input → Holds input) → (inputs : List Input)
    → AllByRecursion HasPlace (map (λ input. input.spend) inputs) → AllByRecursion HasReading inputs → AllByRecursion Holds inputs
each_given Holds holds [] places reads = tt
each_given Holds holds (input ∷ inputs) places reads =
    (holds input (record { place = places.0; read = reads.0 }), each_given Holds holds inputs places.1 reads.1)

-- what holds of such inputs holds of each
pub of_each : EachIsSound → (Holds : Input → Type 0) → ((input : Input) → IsGiven input → Holds input) → OfEachInput Holds
of_each law Holds holds source psbt fits e verification inputs are =
    let all = places verification psbt (law source psbt fits e) in
    All-from_recursion Holds inputs
    (each_given Holds holds inputs (subst (AllByRecursion HasPlace) (sym are.spends) all) (recursion_from_All HasReading inputs are.read))
