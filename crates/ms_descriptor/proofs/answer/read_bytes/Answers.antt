-- The parts are refused, or the miniscript, or what stands behind them, or nothing.
use Rattle.std.proofs.Common.{[], sym, ◌∙◌, Err}
use Rattle.std.specs.Prelude.{◌≢◌}
use Rattle.def_descriptor.specs.declared.DescriptorFault.TheVariants as fault
use Rattle.def_descriptor.specs.Gives.{pieces_in}
use Rattle.def_descriptor.specs.Answer.{Answers, wrong_parts}
use Rattle.ms_paths.specs.Places.{tokens_at}
use Rattle.ms_descriptor.specs.Bodies.{body_at, found_at}
use Rattle.ms_descriptor.proofs.Answering.{handed_on, body_utf8, unread, no_rest, no_tail, open_rest, right, wrong_behind}
use Rattle.ms_descriptor.proofs.answer.read_bytes.Goals as goal

pub returns-in_err-under-clause-refused : goal.returns-in_err-under-clause-refused
returns-in_err-under-clause-refused c =
    handed_on c.from_residual.result c.in_err-under.field-0.0 (λ why. why ≢ fault.Memory → Answers c.args.text.now (Err why)) c.from_residual.ensures.1
    (λ n. wrong_parts c.requires.short (c.in_err-under.ensures.parts n))

pub test_body-requires-clause-utf8 : goal.test_body-requires-clause-utf8
test_body-requires-clause-utf8 c =
    body_utf8 c.args.text.now c.in_ok-under.under (found_at c.args.text.now c.in_ok-under.found) c.requires.utf8 c.in_ok-under.ensures.parts

pub returns-in_err-test_body-clause-refused : goal.returns-in_err-test_body-clause-refused
returns-in_err-test_body-clause-refused c =
    let text = c.args.text.now in
    let why = c.in_err-test_body.field-0.0 in
    handed_on c.from_residual-in_err-test_body.result why (λ why. why ≢ fault.Memory → Answers text (Err why)) c.from_residual-in_err-test_body.ensures.1
    (λ n.
    unread text c.in_ok-under.under (found_at text c.in_ok-under.found) c.requires.short c.in_ok-under.ensures.parts
    (pieces_in (body_at text c.in_ok-under.found.body)) why (c.in_err-test_body.ensures.pieces n) (c.in_err-test_body.ensures.refused n))

pub returns-then-is_some-clause-refused : goal.returns-then-is_some-clause-refused
returns-then-is_some-clause-refused c = λ n.
    let text = c.args.text.now in
    let found = c.in_ok-under.found in
    wrong_behind text c.in_ok-under.under (found_at text found) c.requires.short c.in_ok-under.ensures.parts c.in_ok-test_body.ensures.read []
    (no_rest text found.refused found.rest (sym c.is_some.ensures ∙ c.if-is_some.true)) (fault.Syntax 0) (no_tail text c.in_ok-under.under)

pub returns-in_err-length-clause-refused : goal.returns-in_err-length-clause-refused
returns-in_err-length-clause-refused c =
    let text = c.args.text.now in
    let found = c.in_ok-under.found in
    let why = c.in_err-length.field-0.0 in
    handed_on c.from_residual-in_err-length.result why (λ why. why ≢ fault.Memory → Answers text (Err why)) c.from_residual-in_err-length.ensures.1
    (λ n.
    wrong_behind text c.in_ok-under.under (found_at text found) c.requires.short c.in_ok-under.ensures.parts c.in_ok-test_body.ensures.read
    (tokens_at text found.rest) (open_rest text found.refused found.rest (sym c.is_some.ensures ∙ c.if-is_some.false)) why (c.in_err-length.ensures n))

pub returns-clause-read : goal.returns-clause-read
returns-clause-read c =
    let text = c.args.text.now in
    let found = c.in_ok-under.found in
    right text c.in_ok-under.under (found_at text found) c.requires.short c.in_ok-under.ensures.parts c.in_ok-test_body.ensures.read (tokens_at text found.rest)
    (open_rest text found.refused found.rest (sym c.is_some.ensures ∙ c.if-is_some.false)) c.in_ok-length.length c.in_ok-length.ensures
