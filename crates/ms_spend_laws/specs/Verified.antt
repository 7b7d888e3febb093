-- What is promised of an input of which the good signatures count, and beside it where all do.
use Rattle.std.specs.Prelude.{◌≡◌, ◌≢◌, ◌⊎◌, true, List, All}
use Rattle.def_script.specs.Bytes.{Bytes}
use Rattle.def_machine.specs.Stacks.{Pairs, Checker}
use Rattle.def_tree.specs.Tree.{Tree}
use Rattle.def_limits.specs.Limits.{AreLimits}
use Rattle.def_limits.specs.declared.Limits.{Limits}
use Rattle.def_satisfaction.specs.Satisfaction.{Holds}
use Rattle.def_choice.specs.NonMalleable.{IsAccepted, HasNewPair, Fresh, given_with}
use Rattle.def_promises.specs.Accepted.{IsAcceptedWithin, HasUnknownPreimage, HasOtherKey}
use Rattle.def_curve.specs.declared.Judgement.TheVariants.{Good}
use Rattle.def_spend.specs.declared.State.TheVariants as state
use Rattle.def_spend.specs.declared.Verification.{Verification}
use Rattle.def_spend.specs.declared.Verification.TheVariants.{Verified, Unverified}
use Rattle.def_spend.specs.Asking.{plan_with}
use Rattle.def_spend.specs.Fields.{signatures_in}
use Rattle.def_spend.specs.Hashes.{script_in}
use Rattle.def_spend.specs.Input.{Spend}
use Rattle.def_spend.specs.Good.{word_of, assets_of}
use Rattle.def_spend.specs.Kinds.{kind_of, ends_in_script}
use Rattle.def_spend.specs.Reading.{Input}
use Rattle.def_spend.specs.States.{state_of, choice_of, stack_of}
use Rattle.def_spend.specs.Finalized.{written_map}
use Rattle.def_verify.specs.Check.{consensus_check}
use Rattle.ms_given_laws.specs.Given.{OfEachInput}
use Rattle.ms_spend_laws.specs.Tried.{OfEachIn}
use Rattle.ms_spend_laws.specs.Ready.{ReplaysAccepted}

-- ---- consensus

-- its own check takes each signature that counts
abbrev pub GoodIsTaken : Type 0
GoodIsTaken = (spend : Spend) → spend.verification ≡ Verified → Holds (consensus_check spend (script_in spend)) (assets_of spend)

-- every other stack that is accepted beside this one, where these pairs are good, passes a check that this one doesn't, or is fresh and has
-- an unknown preimage or another key with the same hash
abbrev pub IsUnchangeableUnder : Checker → Input → Tree → Type 0
IsUnchangeableUnder checker input tree =
    (checks : Pairs) × IsAccepted tree (given_with (assets_of input.spend) checker) (stack_of input) checks ×
    ((other : List Bytes) (others : Pairs) → IsAccepted tree (given_with (assets_of input.spend) checker) other others → other ≢ stack_of input →
    HasNewPair others checks ⊎ (Fresh tree (assets_of input.spend) checker other × (HasUnknownPreimage tree (assets_of input.spend) other ⊎ HasOtherKey tree other)))

-- so the interpreter accepts where exactly the pairs are good that this check takes, and nobody can change it there: of P2WSH the bytes of the
-- witness replay so, and of each kind the run of the stack on the Script is accepted, within the limits of the miniscript
pub record IsAcceptedByConsensus (input : Input) (tree : Tree) : Type 0 where
  pub replayed : ends_in_script (kind_of input.spend) ≡ true → ReplaysAccepted input tree (given_with (assets_of input.spend) (consensus_check input.spend (script_in input.spend)))
  pub within : (limits : Limits) → AreLimits tree limits →
      IsAcceptedWithin tree limits (given_with (assets_of input.spend) (consensus_check input.spend (script_in input.spend))) (stack_of input)
  pub unchangeable : IsUnchangeableUnder (consensus_check input.spend (script_in input.spend)) input tree

abbrev pub ReadyIsAcceptedByConsensus : Type 0
ReadyIsAcceptedByConsensus = OfEachIn state.Ready (λ input tree. input.spend.verification ≡ Verified → IsAcceptedByConsensus input tree)

-- ---- both ways

-- an input of which these signatures count
abbrev pub counting : Verification → Input → Input
counting verification input = record input { spend = record input.spend { verification = verification } }

-- the same is said of two inputs, and written
pub record AreSame (one other : Input) : Type 0 where
  pub state : state_of one ≡ state_of other
  pub choice : choice_of one ≡ choice_of other
  pub plan : (tree : Tree) → plan_with tree (assets_of one.spend) ≡ plan_with tree (assets_of other.spend)
  pub map : written_map one ≡ written_map other

-- where each signature is good, it is the same whichever count
abbrev pub AllGoodIsSame : Type 0
AllGoodIsSame =
    (input : Input) → All (λ pair. word_of input.spend pair ≡ Good) (signatures_in input.spend.fields) →
    AreSame (counting Verified input) (counting Unverified input)

-- and where the states differ, the input is Ready with all of them, and Unsatisfied with the good ones
abbrev pub StatesDiffer : Type 0
StatesDiffer =
    OfEachInput (λ input. (state_of (counting Verified input) ≡ state_of (counting Unverified input))
    ⊎ ((state_of (counting Unverified input) ≡ state.Ready) × (state_of (counting Verified input) ≡ state.Unsatisfied)))
