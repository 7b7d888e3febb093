-- What is promised of the plan of an Unsatisfied input: which signatures would make it Ready, or that none would.
use Rattle.std.specs.Prelude.{◌≡◌, ℕ, ◌≤◌, ◌⊎◌, IsTrue, IsSome, false, List, [], ◌∷◌, ◌++◌, All, Contains, Some, None}
use Rattle.def_hash.specs.Hash.{hash160}
use Rattle.def_script.specs.Bytes.{Bytes}
use Rattle.def_script.specs.Witness.{weight}
use Rattle.def_tree.specs.Tree.{Tree, Key}
use Rattle.def_assets.specs.Assets.{Assets, AreAssets, sig_of}
use Rattle.def_satisfaction.specs.Satisfaction.{Sat}
use Rattle.def_plan.specs.Lengths.{IsLike}
use Rattle.def_plan.specs.Plan.{Plan}
use Rattle.def_psbt.specs.Map.{Map, data_of}
use Rattle.def_psbt.specs.declared.PsbtVersion.{PsbtVersion}
use Rattle.def_psbt.specs.Listed.{input_form}
use Rattle.def_psbt.specs.Laws.{IsSoundMap}
use Rattle.def_spend.specs.declared.State.TheVariants as state
use Rattle.def_spend.specs.Fields.{is_signed, keys_in, last_byte, asked_type}
use Rattle.def_spend.specs.HashTypes.{hash_type_of}
use Rattle.def_spend.specs.Good.{counted_signatures, assets_of}
use Rattle.def_spend.specs.Reading.{Input, HasReading}
use Rattle.def_spend.specs.States.{are_too_many, state_of, stack_of}
use Rattle.def_spend.specs.Asking.{plan_with, unsigned_keys}
use Rattle.ms_given_laws.specs.Given.{IsMapOfBytes}
use Rattle.ms_spend_laws.specs.Tried.{OfEachIn}

-- where there is no plan, no signatures would be enough: with the same locks and preimages nothing makes a canonical
-- satisfaction
abbrev pub IsVain : Input → Tree → Type 0
IsVain input tree =
    plan_with tree (assets_of input.spend) ≡ None →
    (other : Assets) (stack : List Bytes) → AreAssets other → IsLike (assets_of input.spend) other → ¬ Sat tree other stack

abbrev pub NoPlanIsVain : Type 0
NoPlanIsVain = OfEachIn state.Unsatisfied IsVain

-- a map consists of some pairs, in their order, and of others, in theirs
abbrev pub ConsistsOf : (map some others : Map) → Type 0
ConsistsOf [] some others = (some ≡ []) × (others ≡ [])
ConsistsOf (pair ∷ map) some others =
    ((rest : Map) × (some ≡ pair ∷ rest) × ConsistsOf map rest others)
    ⊎ ((rest : Map) × (others ≡ pair ∷ rest) × ConsistsOf map some rest)

-- the input with another map, and the same miniscript
abbrev pub with_map : Input → (fields : Map) → Input
with_map input fields = record input { spend = record input.spend { fields = fields } }

-- signatures of which none counts, by the assets that do
abbrev pub ArePassedOver : Assets → Map → Type 0
ArePassedOver assets former = All (λ pair. IsTrue (is_signed pair) × (sig_of assets (data_of pair.key) ≡ None)) former

-- a map has the pairs of an input's and further ones, in the place of some signatures that don't count, has nothing wrong in a version,
-- and leaves what the input is read as. The further pairs are signatures of compressed keys, so of 73 bytes at most, all of the asked
-- type, which is a hash type; with them each of these keys has a signature that counts, and there aren't too many
pub record AreAdded (input : Input) (keys : List Key) (added later : Map) : Type 0 where
  -- the input's pairs that stay, and those whose place is taken
  pub kept : Map
  pub former : Map
  pub own : ConsistsOf input.spend.fields kept former
  pub passed_over : ArePassedOver (assets_of input.spend) former
  pub parts : ConsistsOf later kept added
  pub version : PsbtVersion
  pub sound : IsSoundMap (input_form version) [] later
  pub bytes : IsMapOfBytes later
  pub read : HasReading (with_map input later)
  pub signatures : All (λ pair. IsTrue (is_signed pair)) added
  pub each : (key : Key) → Contains keys key → (sig : Bytes) × Contains (counted_signatures (with_map input later).spend) (key, sig)
  pub type : IsSome (hash_type_of (asked_type input.spend.fields))
  pub types : All (λ pair. last_byte pair.value ≡ asked_type input.spend.fields) added
  pub few : are_too_many later ≡ false

-- an input is Ready, and its satisfaction weighs at most so much
pub record IsReadyWithin (input : Input) (most : ℕ) : Type 0 where
  pub ready : state_of input ≡ state.Ready
  pub weight : weight (stack_of input) ≤ most

-- where there is a plan, and each of its keys of which no signature counts adds one that does, the input is Ready, and weighs at most
-- what the plan does
abbrev pub IsEnough : Input → Tree → Type 0
IsEnough input tree =
    (plan : Plan) → plan_with tree (assets_of input.spend) ≡ Some plan →
    (added later : Map) → AreAdded input (unsigned_keys (assets_of input.spend) plan.keys) added later →
    IsReadyWithin (with_map input later) plan.weight

abbrev pub PlanMakesReady : Type 0
PlanMakesReady = OfEachIn state.Unsatisfied IsEnough

-- no two of these keys have one HASH160
abbrev pub HaveOwnHashes : List Key → Type 0
HaveOwnHashes keys = (one other : Key) → Contains keys one → Contains keys other → hash160 one ≡ hash160 other → one ≡ other

-- the keys of a map are those of another one, in its order; or they are that one's and others, and no two of them have one HASH160
abbrev pub HasKeysOf : (fields later : Map) → Type 0
HasKeysOf fields later =
    (keys_in later ≡ keys_in fields)
    ⊎ (HaveOwnHashes (keys_in later) × ((key : Key) → Contains (keys_in fields) key → Contains (keys_in later) key))

-- signatures, which may stand in the place of others, leave what an input is read as, where they stand behind its pairs; where each
-- stands in the place of one of the same key; and anywhere where no two keys of the map have one HASH160
abbrev pub ReadingStays : Type 0
ReadingStays =
    OfEachIn state.Unsatisfied (λ input tree. (kept former added later : Map) → ConsistsOf input.spend.fields kept former →
    ConsistsOf later kept added → All (λ pair. IsTrue (is_signed pair)) former → All (λ pair. IsTrue (is_signed pair)) added →
    (later ≡ input.spend.fields ++ added) ⊎ HasKeysOf input.spend.fields later → HasReading (with_map input later))
