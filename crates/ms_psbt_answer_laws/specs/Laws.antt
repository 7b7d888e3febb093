-- What the definitions imply.
use Rattle.std.specs.Prelude.{◌≡◌, false, List, All, filter}
use Rattle.def_script.specs.Bytes.{Bytes}
use Rattle.def_psbt.specs.Map.{Psbt}
use Rattle.def_spend.specs.declared.Verification.{Verification}
use Rattle.def_spend.specs.Reading.{Input, HasReading, AreInputs}
use Rattle.def_spend.specs.States.{state_of, is_ready}
use Rattle.def_spend.specs.Finalized.{is_kept, written_map, finalized}
use Rattle.def_psbt_answer.specs.declared.status.Status.{Status}
use Rattle.def_psbt_answer.specs.Answer.{Answer}

-- words and a source have at most one answer
abbrev pub OneAnswer : Type 0
OneAnswer =
    (words : List Bytes) (source : Bytes) (s t : Status) (p q : Bytes) →
    Answer words source s p → Answer words source t q → (s ≡ t) × (p ≡ q)

-- the transaction, its number, its map and which signatures count alone determine what an input is read as, and so its state, its
-- witness and its hashes
abbrev pub OneReading : Type 0
OneReading = (input other : Input) → HasReading input → HasReading other → input.spend ≡ other.spend → input ≡ other

-- ---- what is written

-- the map of an input that isn't Ready stays as it is
abbrev pub LeavesOthers : Type 0
LeavesOthers = (input : Input) → is_ready (state_of input) ≡ false → written_map input ≡ input.spend.fields

-- no pair that is kept is lost, changed or moved, whatever the state
abbrev pub KeepsPairs : Type 0
KeepsPairs = (input : Input) → filter is_kept (written_map input) ≡ filter is_kept input.spend.fields

-- the inputs of what was written, each read again
abbrev pub OfWritten : (Psbt → List Input → List Input → Type 0) → Type 0
OfWritten Holds =
    (verification : Verification) (psbt : Psbt) (inputs again : List Input) → AreInputs verification psbt inputs →
    AreInputs verification (finalized psbt inputs) again → Holds psbt inputs again

-- none of them is Ready
abbrev pub NoneIsReady : Type 0
NoneIsReady = OfWritten (λ psbt inputs again. All (λ input. is_ready (state_of input) ≡ false) again)

-- and they are written as they are
abbrev pub WrittenAgain : Type 0
WrittenAgain = OfWritten (λ psbt inputs again. (finalized (finalized psbt inputs) again).inputs ≡ (finalized psbt inputs).inputs)
