use Rattle.std.proofs.lemmas.Result.{on_ok_weaker}
use Rattle.ms_descriptor.specs.Bodies.{descriptor_at}
use Rattle.ms_outputs.specs.Keys.{expressions_of_body}
use Rattle.ms_outputs.proofs.Finding.{expressions_are}
use Rattle.ms_descriptor_replies.proofs.Listed.{given_lines}
use Rattle.ms_descriptor_replies.proofs.listing.push_given.Goals as goal

pub returns : goal.returns
returns c text network program condition keys h =
    let found = c.args.descriptor.now in
    on_ok_weaker c.push_key_lines.result
    (given_lines network c.args.branch (descriptor_at text found) c.args.index program condition keys c.args.given.now (expressions_of_body found.body)
    c.deref.result.now c.deref-2.result.now c.deref-3.result.now c.deref-4.result.now c.args.report.now.items _ _ _ _ h (expressions_are text found.body)
    c.deref.ensures.value c.deref-2.ensures.value c.deref-3.ensures.value c.deref-4.ensures.value
    c.in_ok-push_number_line.ensures c.in_ok-push_output_lines.ensures c.in_ok-push_condition.ensures)
    c.push_key_lines.ensures
