use Rattle.ms_io.specs.Sides.{call, side}
use Rattle.psbt_cli.specs.Ends.{Call}
use Rattle.psbt_cli.proofs.Alike.{answers_alike, compares_forms}
use Rattle.psbt_cli.proofs.Ending.{ends, ends_as_usage, ends_as_answered, write_fault_rose, read_fault_rose, was_read}
use Rattle.psbt_cli.proofs.Promising.{ReadyLaws, shows_witnesses, tells_lacking, loses_nothing, extracts_transaction, CombineLaws, combines_parts}
use Rattle.psbt_cli.proofs.Showing.{shows_finalized, shows_inspected, shows_extracted, shows_hashes, shows_verified, refuses_source, shows_combined}
use Rattle.psbt_cli.proofs.program.msat_psbt.Given.{Over}
use Rattle.psbt_cli.proofs.program.msat_psbt.Goals as goal

-- the call, as the clauses see it
abbrev this : (g : Over) → goal.After-write_reply g → Call
this g c =
    call c.args.words.now (side g.S.Source.left g.S.Source.faults c.args.source.now c.answer_words-reply.new.source)
    (side g.K.Sink.written g.K.Sink.faults c.args.sink.now c.write_reply.new.sink) c.write_reply.result

pub returns-clause-end : goal.returns-clause-end
returns-clause-end g c = ends (this g c) c.answer_words-reply.result c.answer_words-reply.ensures.answer c.write_reply.ensures.end

pub returns-clause-usage : goal.returns-clause-usage
returns-clause-usage g c = ends_as_usage (this g c) (returns-clause-end g c)

pub returns-clause-answered : goal.returns-clause-answered
returns-clause-answered g c = ends_as_answered (this g c) (returns-clause-end g c)

pub returns-clause-read_fault : goal.returns-clause-read_fault
returns-clause-read_fault g c = read_fault_rose (this g c) (returns-clause-end g c)

pub returns-clause-write_fault : goal.returns-clause-write_fault
returns-clause-write_fault g c = write_fault_rose (this g c) (returns-clause-end g c)

pub returns-clause-read : goal.returns-clause-read
returns-clause-read g c = was_read (this g c) c.answer_words-reply.result c.answer_words-reply.ensures.answer c.write_reply.ensures.end

pub returns-clause-finalized : goal.returns-clause-finalized
returns-clause-finalized g c = shows_finalized (this g c) (returns-clause-end g c)

pub returns-clause-inspected : goal.returns-clause-inspected
returns-clause-inspected g c = shows_inspected (this g c) (returns-clause-end g c)

pub returns-clause-extracted : goal.returns-clause-extracted
returns-clause-extracted g c = shows_extracted (this g c) (returns-clause-end g c)

pub returns-clause-hashes : goal.returns-clause-hashes
returns-clause-hashes g c = shows_hashes (this g c) (returns-clause-end g c)

pub returns-clause-verified : goal.returns-clause-verified
returns-clause-verified g c = shows_verified (this g c) (returns-clause-end g c)

pub returns-clause-refused : goal.returns-clause-refused
returns-clause-refused g c = refuses_source (this g c) (returns-clause-end g c)

pub returns-clause-combined : goal.returns-clause-combined
returns-clause-combined g c = shows_combined (this g c) (returns-clause-end g c)

pub returns-clause-witnesses : goal.returns-clause-witnesses
returns-clause-witnesses g c =
    let laws : ReadyLaws = record {
      exactly = c.tried.ensures.ready;
      canonical = c.ready.ensures.canonical;
      witness = c.ready.ensures.witness;
      accepted = c.ready.ensures.accepted;
      consensus = c.verified.ensures.accepted;
      unchangeable = c.ready.ensures.unchangeable;
      tight = c.ready.ensures.tight;
      lightest = c.ready.ensures.lightest;
    } in
    shows_witnesses laws (this g c) (returns-clause-end g c)

pub returns-clause-lacking : goal.returns-clause-lacking
returns-clause-lacking g c =
    tells_lacking c.unsatisfied.ensures.nothing c.unsatisfied.ensures.no_plan c.unsatisfied.ensures.plan (this g c) (returns-clause-end g c)

pub returns-clause-nothing_lost : goal.returns-clause-nothing_lost
returns-clause-nothing_lost g c = loses_nothing c.written.ensures.source c.written.ensures.again (this g c) (returns-clause-end g c)

pub returns-clause-alike : goal.returns-clause-alike
returns-clause-alike g c = answers_alike c.verified.ensures.all_good (this g c) (returns-clause-end g c)

pub returns-clause-compared : goal.returns-clause-compared
returns-clause-compared g c = compares_forms c.verified.ensures.all_good c.verified.ensures.differ (this g c) (returns-clause-end g c)

pub returns-clause-transaction : goal.returns-clause-transaction
returns-clause-transaction g c = extracts_transaction c.network.ensures.read c.network.ensures.told (this g c) (returns-clause-end g c)

pub returns-clause-parts : goal.returns-clause-parts
returns-clause-parts g c =
    let laws : CombineLaws = record {
      read = c.combined.ensures.read;
      transaction = c.combined.ensures.transaction;
      keys = c.combined.ensures.keys;
      alone = c.combined.ensures.alone;
      again = c.combined.ensures.again;
      first = c.combined.ensures.first;
    } in
    combines_parts laws (this g c) (returns-clause-end g c)
