use Rattle.ms_io.specs.Sides.{call, side}
use Rattle.msat_cli.specs.Calls.{Call}
use Rattle.msat_cli.specs.Ends.{Ends}
use Rattle.msat_cli.proofs.EndLemmas.{ends, ends_as_usage, ends_as_answered, fault_rose, read_fault_rose, tells_nothing, was_read}
use Rattle.msat_cli.proofs.SatisfactionLemmas.{finds_where_one_exists, shows_canonical, shows_witness, shows_accepted, shows_non_malleable, finds_nothing_to_accept, shows_lightest, shows_tight, tells_unchanged, shows_lightest_unchanged}
use Rattle.msat_cli.proofs.RefusalLemmas.{refuses_other_texts}
use Rattle.msat_cli.proofs.PlanLemmas.{shows_plan}
use Rattle.msat_cli.proofs.AuditLemmas.{shows_audit}
use Rattle.msat_cli.proofs.TraceLemmas.{shows_trace, shows_run, shows_nodes}
use Rattle.msat_cli.proofs.ListingLemmas.{shows_listing}
use Rattle.msat_cli.proofs.OutlineLemmas.{shows_tree}
use Rattle.msat_cli.proofs.PolicyLemmas.{shows_policy}
use Rattle.msat_cli.proofs.DecodingLemmas.{shows_reading}
use Rattle.msat_cli.proofs.program.msat.Given.{Over}
use Rattle.msat_cli.proofs.program.msat.Goals as goal

-- the call, as the clauses see it
abbrev call_of : (g : Over) → goal.After-drop-arena g → Call
call_of g c =
    call c.args.words.now (side g.S.Source.left g.S.Source.faults c.args.source.now c.answer_words-answer.new.source)
    (side g.K.Sink.written g.K.Sink.faults c.args.sink.now c.write_answer.new.sink) c.write_answer.result

pub returns-clause-promises : goal.returns-clause-promises
returns-clause-promises g c =
    let this = call_of g c in
    let made = c.answer_words-answer in
    let utf8 = made.ensures.utf8 in
    let end : Ends this = ends this made.result made.ensures.answer c.write_answer.ensures.end in
    record {
      end = end;
      usage = ends_as_usage this end;
      answered = ends_as_answered this utf8 end;
      read_fault = read_fault_rose this end;
      write_fault = fault_rose this end;
      front = made.ensures.front;
      read = was_read this made.result utf8 made.ensures.answer c.write_answer.ensures.end;
      unread = made.ensures.unread;
      without_source = tells_nothing this end;
      exists = finds_where_one_exists this utf8 end;
      canonical = shows_canonical this utf8 end;
      witness = shows_witness this utf8 end;
      accepted = shows_accepted this utf8 end;
      non_malleable = shows_non_malleable this utf8 end;
      nothing = finds_nothing_to_accept this utf8 end;
      other_texts = refuses_other_texts this utf8 end;
      tight = shows_tight this utf8 end;
      unchanged = tells_unchanged this utf8;
      lightest_unchanged = shows_lightest_unchanged this utf8 end;
      lightest = shows_lightest this utf8 end;
      listing = shows_listing this utf8 end;
      outline = shows_tree this utf8 end;
      policy = shows_policy this utf8 end;
      plan = shows_plan this utf8 end;
      audit = shows_audit this utf8 end;
      traced = shows_trace this utf8 end;
      last = shows_run this utf8 end;
      nodes = shows_nodes this utf8 end;
      reading = shows_reading this utf8 end;
    }
