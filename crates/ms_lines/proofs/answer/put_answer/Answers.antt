use Rattle.std.proofs.Common.{◌≡◌, ◌∙◌, ◌++◌, List, ℕ, Ok, refl}
use Rattle.std.specs.Prelude.{decimal}
use Rattle.std.proofs.lemmas.Result.{err_from_is_err_and}
use Rattle.ms_io.specs.Sides.{side}
use Rattle.ms_io.specs.declared.sink.SinkFailed.{SinkFailed}
use Rattle.def_lines.specs.Answer.{escaped, answer_line}
use Rattle.ms_lines.specs.Seen.{ids_seen}
use Rattle.ms_lines.proofs.AnswerLemmas.{front_part, status_part, end_part, answer_parts, answer_behind_status, answer_behind_front}
use Rattle.ms_lines.proofs.ThroughLemmas.{joined, through_then, through_short, through_stop}
use Rattle.ms_lines.proofs.answer.put_answer.Goals as goal

pub returns-in_err-put_id : goal.returns-in_err-put_id
returns-in_err-put_id g c =
    let id = ids_seen c.args.id in
    let p = err_from_is_err_and c.from_residual.result c.from_residual.ensures.1 in
    rw p.1
    (through_short {E = SinkFailed} {F = SinkFailed} (side g.K.Sink.written g.K.Sink.faults c.args.sink.now c.put_id.new.sink) c.args.held.now.items
    c.put_id.new.held.items c.put_id.new.held.items (front_part id) (status_part (decimal c.args.status) ++ (escaped c.args.report.now ++ end_part))
    (answer_line id c.args.status c.args.report.now) c.in_err-put_id.field-0.0 p.0 (answer_behind_front id c.args.status c.args.report.now) c.in_err-put_id.ensures)

pub returns-in_err-put_three : goal.returns-in_err-put_three
returns-in_err-put_three g c =
    let id = ids_seen c.args.id in
    let digits : List ℕ = c.as_bytes.result.now in
    let told : digits ≡ decimal c.args.status = c.as_bytes.ensures.value ∙ c.format.ensures.text in
    let p = err_from_is_err_and c.from_residual-in_err-put_three.result c.from_residual-in_err-put_three.ensures.1 in
    rw p.1
    (through_stop {E = SinkFailed} {F = SinkFailed} (side g.K.Sink.written g.K.Sink.faults c.args.sink.now c.put_id.new.sink)
    (side g.K.Sink.written g.K.Sink.faults c.put_id.new.sink c.put_three.new.sink) c.args.held.now.items c.put_id.new.held.items c.put_three.new.held.items
    c.put_three.new.held.items (front_part id) (status_part digits) (escaped c.args.report.now ++ end_part)
    (answer_line id c.args.status c.args.report.now) c.in_err-put_three.field-0.0 p.0 refl refl
    (answer_behind_status id c.args.status c.args.report.now digits told) c.in_ok-put_id.ensures c.in_err-put_three.ensures)

pub returns-in_err-put_escaped : goal.returns-in_err-put_escaped
returns-in_err-put_escaped g c =
    let id = ids_seen c.args.id in
    let digits : List ℕ = c.as_bytes.result.now in
    let told : digits ≡ decimal c.args.status = c.as_bytes.ensures.value ∙ c.format.ensures.text in
    let one = side g.K.Sink.written g.K.Sink.faults c.args.sink.now c.put_id.new.sink in
    let two = side g.K.Sink.written g.K.Sink.faults c.put_id.new.sink c.put_three.new.sink in
    let three = side g.K.Sink.written g.K.Sink.faults c.put_three.new.sink c.put_escaped.new.sink in
    let front : List ℕ = front_part id ++ status_part digits in
    let p = err_from_is_err_and c.from_residual-in_err-put_escaped.result c.from_residual-in_err-put_escaped.ensures.1 in
    rw p.1
    (through_stop {E = SinkFailed} {F = SinkFailed} (joined one two) three c.args.held.now.items c.put_three.new.held.items c.put_escaped.new.held.items
    c.put_escaped.new.held.items front (escaped c.args.report.now) end_part (answer_line id c.args.status c.args.report.now) c.in_err-put_escaped.field-0.0 p.0
    refl refl (answer_parts id c.args.status c.args.report.now digits told)
    (through_then {E = SinkFailed} {F = SinkFailed} one two c.args.held.now.items c.put_id.new.held.items c.put_three.new.held.items
    (front_part id) (status_part digits) front (Ok tt) refl refl refl c.in_ok-put_id.ensures c.in_ok-put_three.ensures)
    c.in_err-put_escaped.ensures)

pub returns : goal.returns
returns g c =
    let id = ids_seen c.args.id in
    let digits : List ℕ = c.as_bytes.result.now in
    let told : digits ≡ decimal c.args.status = c.as_bytes.ensures.value ∙ c.format.ensures.text in
    let one = side g.K.Sink.written g.K.Sink.faults c.args.sink.now c.put_id.new.sink in
    let two = side g.K.Sink.written g.K.Sink.faults c.put_id.new.sink c.put_three.new.sink in
    let three = side g.K.Sink.written g.K.Sink.faults c.put_three.new.sink c.put_escaped.new.sink in
    let four = side g.K.Sink.written g.K.Sink.faults c.put_escaped.new.sink c.put.new.sink in
    let front : List ℕ = front_part id ++ status_part digits in
    through_then {E = SinkFailed} {F = SinkFailed} (joined (joined one two) three) four c.args.held.now.items c.put_escaped.new.held.items c.put.new.held.items
    (front ++ escaped c.args.report.now) end_part (answer_line id c.args.status c.args.report.now) c.put.result refl refl
    (answer_parts id c.args.status c.args.report.now digits told)
    (through_then {E = SinkFailed} {F = SinkFailed} (joined one two) three c.args.held.now.items c.put_three.new.held.items c.put_escaped.new.held.items
    front (escaped c.args.report.now) (front ++ escaped c.args.report.now) (Ok tt) refl refl refl
    (through_then {E = SinkFailed} {F = SinkFailed} one two c.args.held.now.items c.put_id.new.held.items c.put_three.new.held.items
    (front_part id) (status_part digits) front (Ok tt) refl refl refl c.in_ok-put_id.ensures c.in_ok-put_three.ensures)
    c.in_ok-put_escaped.ensures)
    c.put.ensures
