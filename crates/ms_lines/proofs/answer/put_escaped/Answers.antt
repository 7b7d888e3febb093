use Rattle.std.proofs.Common.{◌≡◌, ◌∙◌, ◌++◌, List, ℕ, Ok, sym, ap, refl, append_assoc, append-nil}
use Rattle.std.specs.Prelude.{codes}
use Rattle.std.proofs.lemmas.Result.{err_from_is_err_and}
use Rattle.ms_io.specs.Sides.{side}
use Rattle.ms_io.specs.declared.sink.SinkFailed.{SinkFailed}
use Rattle.def_lines.specs.Answer.{escaped}
use Rattle.ms_lines.proofs.FeedLemmas.{behind_shorter, line_escaped, rest_escaped, none_left}
use Rattle.ms_lines.proofs.ThroughLemmas.{through_then, through_stop}
use Rattle.ms_lines.proofs.answer.put_escaped.Goals as goal

pub returns-in_err-put_two : goal.returns-in_err-put_two
returns-in_err-put_two g c =
    let inv = c.loop-line.invariant in
    let one = side g.K.Sink.written g.K.Sink.faults c.args.sink.now c.loop-line.sink in
    let two = side g.K.Sink.written g.K.Sink.faults c.loop-line.sink c.put_two.new.sink in
    let piece : List ℕ = c.in-Some.line.now ++ codes "\\n" in
    let p = err_from_is_err_and c.from_residual.result c.from_residual.ensures.1 in
    rw p.1
    (through_stop {E = SinkFailed} {F = SinkFailed} one two c.args.held.now.items c.loop-line.held.items c.put_two.new.held.items c.put_two.new.held.items
    inv.front piece (escaped c.in-Some.after.now) (escaped c.args.report.now) c.in_err-put_two.field-0.0 p.0 refl refl
    (inv.whole ∙ ap (λ e. inv.front ++ e) (line_escaped c.loop-line.rest.now c.in-Some.line.now c.in-Some.after.now c.in-Some.ensures)
    ∙ sym (append_assoc inv.front piece (escaped c.in-Some.after.now)))
    (inv.passed, record { later = inv.later; failed = tt }) c.in_err-put_two.ensures)

pub loop-line-smaller : goal.loop-line-smaller
loop-line-smaller g c = behind_shorter c.loop-line.rest.now c.in-Some.line.now c.in-Some.after.now c.in-Some.ensures

pub loop-line-preserved : goal.loop-line-preserved
loop-line-preserved g c =
    let inv = c.loop-line.invariant in
    let one = side g.K.Sink.written g.K.Sink.faults c.args.sink.now c.loop-line.sink in
    let two = side g.K.Sink.written g.K.Sink.faults c.loop-line.sink c.put_two.new.sink in
    let piece : List ℕ = c.in-Some.line.now ++ codes "\\n" in
    let both =
    through_then {E = SinkFailed} {F = SinkFailed} one two c.args.held.now.items c.loop-line.held.items c.put_two.new.held.items
    inv.front piece (inv.front ++ piece) (Ok tt) refl refl refl (inv.passed, record { later = inv.later; failed = tt }) c.in_ok-put_two.ensures in
    record {
      front = inv.front ++ piece;
      whole =
          inv.whole ∙ ap (λ e. inv.front ++ e) (line_escaped c.loop-line.rest.now c.in-Some.line.now c.in-Some.after.now c.in-Some.ensures)
          ∙ sym (append_assoc inv.front piece (escaped c.in-Some.after.now));
      passed = both.0;
      later = both.1.later;
    }

-- nothing stands behind the last line feed
pub returns-then-is_empty : goal.returns-then-is_empty
returns-then-is_empty g c =
    let inv = c.loop-line.invariant in
    let all : escaped c.args.report.now ≡ inv.front =
    inv.whole ∙ ap (λ (r : List ℕ). inv.front ++ r) (none_left c.loop-line.rest.now c.is_empty.result c.is_empty.ensures c.if-is_empty.true)
    ∙ append-nil inv.front in
    rw all (inv.passed, record { later = inv.later; failed = tt })

pub returns : goal.returns
returns g c =
    let inv = c.loop-line.invariant in
    let one = side g.K.Sink.written g.K.Sink.faults c.args.sink.now c.loop-line.sink in
    let two = side g.K.Sink.written g.K.Sink.faults c.loop-line.sink c.put.new.sink in
    through_then {E = SinkFailed} {F = SinkFailed} one two c.args.held.now.items c.loop-line.held.items c.put.new.held.items
    inv.front c.loop-line.rest.now (escaped c.args.report.now) c.put.result refl refl
    (inv.whole ∙ ap (λ e. inv.front ++ e) (rest_escaped c.loop-line.rest.now c.in_default.ensures))
    (inv.passed, record { later = inv.later; failed = tt }) c.put.ensures
