use Rattle.ms_io.specs.Sides.{call, side}
use Rattle.descriptor_cli.specs.Ends.{Call}
use Rattle.descriptor_cli.proofs.Ending.{ends, ends_as_usage, ends_as_answered, write_fault_rose, read_fault_rose, was_read, not_read_for_refused}
use Rattle.descriptor_cli.proofs.program.msat_descriptor.Given.{Over}
use Rattle.descriptor_cli.proofs.program.msat_descriptor.Goals as goal

-- the call, as the clauses see it
abbrev this : (g : Over) → goal.After-write_reply g → Call
this g c =
    call c.args.words.now (side g.S.Source.left g.S.Source.faults c.args.source.now c.answer_words-reply.new.source)
    (side g.K.Sink.written g.K.Sink.faults c.args.sink.now c.write_reply.new.sink) c.write_reply.result

pub returns-clause-end : goal.returns-clause-end
returns-clause-end g c = ends (this g c) c.answer_words-reply.result c.answer_words-reply.ensures.answer c.write_reply.ensures.end

pub returns-clause-usage : goal.returns-clause-usage
returns-clause-usage g c = ends_as_usage (this g c) (returns-clause-end g c)

pub returns-clause-answered : goal.returns-clause-answered
returns-clause-answered g c =
    ends_as_answered c.one_answer.ensures.one c.one_answer.ensures.alike (this g c) c.answer_words-reply.ensures.utf8 (returns-clause-end g c)

pub returns-clause-read_fault : goal.returns-clause-read_fault
returns-clause-read_fault g c = read_fault_rose c.one_answer.ensures.status (this g c) (returns-clause-end g c)

pub returns-clause-write_fault : goal.returns-clause-write_fault
returns-clause-write_fault g c = write_fault_rose c.one_answer.ensures.status (this g c) (returns-clause-end g c)

pub returns-clause-read : goal.returns-clause-read
returns-clause-read g c = was_read (this g c) c.answer_words-reply.result c.answer_words-reply.ensures.answer c.write_reply.ensures.end

pub returns-clause-refused : goal.returns-clause-refused
returns-clause-refused g c = not_read_for_refused (this g c) c.answer_words-reply.result c.answer_words-reply.ensures.answer c.write_reply.ensures.end
