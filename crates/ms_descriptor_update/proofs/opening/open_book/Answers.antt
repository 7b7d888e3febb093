use Rattle.std.proofs.lemmas.Result.{IfOk-weaker}
use Rattle.ms_descriptor.specs.Bodies.{descriptor_at}
use Rattle.ms_descriptor_update.proofs.Whole.{filled, not_read}
use Rattle.ms_descriptor_update.proofs.opening.open_book.Goals as goal

pub returns-in-Ok : goal.returns-in-Ok
returns-in-Ok c =
    let text = c.args.text.now in
    IfOk-weaker c.fill.result _ _
    (filled text (descriptor_at text c.in-Ok.descriptor) c.in-Ok.ensures.read c.args.count c.index_count-count.result (c.index_count-count.ensures.count text)) c.fill.ensures

pub returns-in_ok-refused-in-Err : goal.returns-in_ok-refused-in-Err
returns-in_ok-refused-in-Err c =
    not_read c.args.text.now c.args.count c.in-Err.why c.in_ok-refused-in-Err.field-0 (c.in-Err.ensures.refused c.in_ok-refused-in-Err.ensures.0)
    c.in_ok-refused-in-Err.ensures.1
