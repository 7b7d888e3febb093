use Rattle.std.proofs.Common.{◌∙◌, ap}
use Rattle.def_machine.specs.Stacks.{member}
use Rattle.ms_interp.specs.Answering.{given_by}
use Rattle.ms_oracle.specs.Sound.{table_of}
use Rattle.ms_replies.specs.Runs.{file_seen}
use Rattle.ms_replies.proofs.TraceReplies.{traced}
use Rattle.ms_replies.proofs.traces.traced_answer.Goals as goal

pub returns : goal.returns
returns c =
    traced c.args.places.now (file_seen c.args.file.now) (given_by (member (table_of c.new-sigs.result)) c.args.file.now.locks) _ c.trace-outcome.result
    _ _ _ _ (ap (λ table. given_by (member table) c.args.file.now.locks) (c.new-sigs.ensures.table ∙ c.as_slice-pairs.ensures))
    c.as_slice.ensures c.new-report.ensures.bytes c.trace-outcome.ensures.outcome c.trace-outcome.ensures.lines c.in_ok-status.ensures
