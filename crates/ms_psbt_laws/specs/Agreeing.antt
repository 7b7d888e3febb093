-- That the versions agree: what is said of a PSBT goes by its transaction and by what the maps of its inputs have beside the fields
-- of version 2.
use Rattle.std.specs.Prelude.{◌≡◌, ◌≢◌, not, Bool, List, map, filter, Some, Ok}
use Rattle.def_script.specs.Bytes.{Bytes}
use Rattle.def_psbt.specs.Types.{IN_PREVIOUS_TXID, IN_REQUIRED_HEIGHT_LOCKTIME}
use Rattle.def_psbt.specs.Map.{Pair, Psbt, type_of}
use Rattle.def_psbt.specs.Source.{psbt_of}
use Rattle.def_spend.specs.declared.Verification.{Verification}
use Rattle.def_spend.specs.Fields.{is_between}
use Rattle.def_psbt_answer.specs.declared.status.Status.{Status}
use Rattle.def_psbt_answer.specs.declared.words.Command.TheVariants as command
use Rattle.def_psbt_answer.specs.declared.words.Request.TheVariants as request
use Rattle.def_psbt_answer.specs.Words.{request_of}
use Rattle.def_psbt_answer.specs.Answer.{Answer}

-- a pair of another type than those that version 2 alone has in the map of an input, 0e to 12 (BIP 370, "Specification")
abbrev pub is_other : Pair → Bool
is_other pair = not (is_between IN_PREVIOUS_TXID IN_REQUIRED_HEIGHT_LOCKTIME (type_of pair.key))

-- two PSBTs have one transaction, and the maps of their inputs the same other pairs in the same order
pub record AreAgreeing (psbt later : Psbt) : Type 0 where
  pub transaction : psbt.transaction ≡ later.transaction
  pub others : map (filter is_other) psbt.inputs ≡ map (filter is_other) later.inputs

-- sources of two such PSBTs, of whichever versions, have the same answer to all words but those of `finalize`, in both forms, and of
-- `combine`, which write a PSBT
abbrev pub VersionsAgree : Type 0
VersionsAgree =
    (words : List Bytes) (source other : Bytes) (psbt later : Psbt) (status : Status) (report : Bytes) →
    psbt_of source ≡ Ok psbt → psbt_of other ≡ Ok later → AreAgreeing psbt later →
    ((verification : Verification) → request_of words ≢ Some (request.One (command.Finalize verification))) →
    request_of words ≢ Some request.Combine →
    Answer words source status report → Answer words other status report
