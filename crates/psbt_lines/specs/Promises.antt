-- What `msat_psbt` promises of a call, clause by clause.
use Rattle.std.specs.Prelude.{◌≡◌, ◌≢◌, None}
use Rattle.def_psbt_answer.specs.declared.status.Status.TheVariants as status
use Rattle.def_psbt_answer.specs.Words.{request_of}
use Rattle.ms_io.specs.Sides.{Rose}
use Rattle.ms_io.specs.Reads.{ReadsFront, IsUnread}
use Rattle.psbt_cli.specs.Ends.{Call, Ends, EndsAsUsage, EndsAsAnswered, IsReadFor}
use Rattle.psbt_cli.specs.Shown.{ShowsFinalized, ShowsInspected, ShowsExtracted, ShowsHashes, ShowsVerified, RefusesSource, ShowsCombined}
use Rattle.psbt_cli.specs.Promises.{LosesNothing, ShowsWitnesses, TellsLacking, AnswersAlike, ComparesForms, ExtractsTransaction, CombinesParts}

pub record IsCallOfPsbt (call : Call) : Type 0 where
  pub end : Ends call
  pub usage : EndsAsUsage call
  pub answered : EndsAsAnswered call
  pub read_fault : call.status ≡ status.ReadFault → Rose call.source.before call.source.now
  pub write_fault : call.status ≡ status.WriteFault → Rose call.sink.before call.sink.now
  pub front : ReadsFront call.source.old call.source.new
  pub read : request_of call.words ≢ None → IsReadFor call.status call.source
  pub unread : request_of call.words ≡ None → IsUnread call.source
  pub finalized : ShowsFinalized call
  pub inspected : ShowsInspected call
  pub extracted : ShowsExtracted call
  pub hashes : ShowsHashes call
  pub verified : ShowsVerified call
  pub refused : RefusesSource call
  pub combined : ShowsCombined call
  pub witnesses : ShowsWitnesses call
  pub lacking : TellsLacking call
  pub nothing_lost : LosesNothing call
  pub alike : AnswersAlike call
  pub compared : ComparesForms call
  pub transaction : ExtractsTransaction call
  pub parts : CombinesParts call
