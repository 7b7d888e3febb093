-- What `msat` promises of a call, each a fact of its own.
use Rattle.std.specs.Prelude.{◌≡◌}
use Rattle.def_answer.specs.declared.status.Status.TheVariants as status
use Rattle.def_answer.specs.Sources.{ReadsSource, IsOfSource}
use Rattle.ms_io.specs.Sides.{Rose}
use Rattle.ms_io.specs.Reads.{ReadsFront, IsUnread}
use Rattle.msat_cli.specs.Calls.{Call}
use Rattle.msat_cli.specs.Ends.{Ends, EndsAsUsage, EndsAsAnswered, IsReadFor}
use Rattle.msat_cli.specs.Audits.{ShowsAudit}
use Rattle.msat_cli.specs.Decodings.{ShowsReading}
use Rattle.msat_cli.specs.Listings.{ShowsListing}
use Rattle.msat_cli.specs.Outlines.{ShowsTree}
use Rattle.msat_cli.specs.Plans.{ShowsPlan}
use Rattle.msat_cli.specs.Policies.{ShowsPolicy}
use Rattle.msat_cli.specs.Satisfactions.{FindsWhereOneExists, ShowsCanonical, ShowsWitness, ShowsAccepted, ShowsNonMalleable}
use Rattle.msat_cli.specs.Satisfactions.{FindsNothingToAccept, RefusesOtherTexts, ShowsTight, TellsUnchanged, ShowsLightestUnchanged}
use Rattle.msat_cli.specs.Satisfactions.{ShowsLightest}
use Rattle.msat_cli.specs.Traces.{ShowsTrace, ShowsRun, ShowsNodes}

pub record IsCallOfMsat (call : Call) : Type 0 where
  -- how the call ends: the answer to the words and to the source, written whole, or a fault, or want of memory
  pub end : Ends call
  pub usage : EndsAsUsage call
  pub answered : EndsAsAnswered call
  -- faults are counted, and come only where the count rose
  pub read_fault : call.status ≡ status.ReadFault → Rose call.source.before call.source.now
  pub write_fault : call.status ≡ status.WriteFault → Rose call.sink.before call.sink.now
  -- the source is read to its end for words that need it, and stays as it is for others
  pub front : ReadsFront call.source.old call.source.new
  pub read : ReadsSource call.words → IsReadFor call.status call.source
  pub unread : ¬ ReadsSource call.words → IsUnread call.source
  pub without_source : ¬ ReadsSource call.words → ¬ IsOfSource call.status
  -- for every sane text and readable asset file, `satisfy TEXT` writes a canonical satisfaction exactly where one
  -- exists, as a witness with its Script; the interpreter accepts it within the printed limits and height, and with the
  -- printed counts whatever further signatures are good; every other stack that it accepts passes a check that this one
  -- doesn't, or holds an unknown preimage or another key; and other texts are refused, by their place or by the first
  -- reason against their tree
  pub exists : FindsWhereOneExists call
  pub canonical : ShowsCanonical call
  pub witness : ShowsWitness call
  pub accepted : ShowsAccepted call
  pub non_malleable : ShowsNonMalleable call
  pub nothing : FindsNothingToAccept call
  pub other_texts : RefusesOtherTexts call
  -- it is tight, as each canonical satisfaction is that nobody can change, and no other; and none of these weighs less
  pub tight : ShowsTight call
  pub unchanged : TellsUnchanged call
  pub lightest_unchanged : ShowsLightestUnchanged call
  -- `satisfy --malleable TEXT` does so for every valid text, but its satisfaction weighs least, and may be changed
  pub lightest : ShowsLightest call
  -- for every valid text `asm TEXT` writes the instructions of its Script, each with its offset and the place of the node
  -- that wrote it
  pub listing : ShowsListing call
  -- for every text that can be read `tree TEXT` writes its nodes, each with the type of what stands below it alone; and, where
  -- it isn't sane, the first reason against it, and which letter lets the node pass that breaks a rule
  pub outline : ShowsTree call
  -- for every sane text `policy TEXT` writes its policy, and the least number of keys that make the policy true
  pub policy : ShowsPolicy call
  -- for every sane text and readable plan file `plan TEXT` writes which keys to ask, exactly where those that are listed are
  -- enough: signatures of these alone are, where none is longer than estimated the strict satisfaction weighs no more than
  -- was written, where none is shorter no satisfaction that nobody can change weighs less, and no key is asked in vain
  pub plan : ShowsPlan call
  -- for every valid text and readable run file `audit TEXT` writes by which rows the file's stack satisfies the text, exactly
  -- where the file has the text's Script and its run is accepted, and otherwise that it isn't accepted, and why
  pub audit : ShowsAudit call
  -- for every readable run file `trace` writes a line for each instruction that its run reaches, in order, each that of the
  -- machine's step from the state before it, and behind them what `run` answers to the same file, with the same status; and
  -- for every valid text whose Script the file has, `trace TEXT` writes the same, each line with the place of the node that
  -- wrote its instruction
  pub traced : ShowsTrace call
  pub last : ShowsRun call
  pub nodes : ShowsNodes call
  -- `decode HEX KEY..` writes the text that the Script is read back as, exactly where there is one, and otherwise that
  -- there is none
  pub reading : ShowsReading call
