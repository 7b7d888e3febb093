use Rattle.std.specs.String.{string_bytes}
use Rattle.ms_interp.specs.Answering.{given_by}
use Rattle.ms_trace.proofs.Loop.{begun, not_started, begins, breaks, goes_on, finishes, stops, unread_stops, adds}
use Rattle.ms_trace.proofs.tracing.trace.Goals as goal

pub returns-in-Err-clause-outcome : goal.returns-in-Err-clause-outcome
returns-in-Err-clause-outcome g c =
    (not_started (given_by (g.C.SignatureChecker.checker c.args.sigs.now) c.args.locks.now) c.args.script.now c.args.stack.now c.args.places.now
    (string_bytes c.args.report.now) c.in-Err.stop c.in-Err.ensures.value).0

pub returns-in-Err-clause-lines : goal.returns-in-Err-clause-lines
returns-in-Err-clause-lines g c =
    (not_started (given_by (g.C.SignatureChecker.checker c.args.sigs.now) c.args.locks.now) c.args.script.now c.args.stack.now c.args.places.now
    (string_bytes c.args.report.now) c.in-Err.stop c.in-Err.ensures.value).1

pub instructions-init : goal.instructions-init
instructions-init g c =
    begun (given_by (g.C.SignatureChecker.checker c.args.sigs.now) c.args.locks.now) c.args.script.now c.args.stack.now c.args.places.now
    (string_bytes c.args.report.now) _ c.in-Ok.ensures.value c.in-Ok.ensures.closed

pub returns-in-Ok-None-clause-outcome : goal.returns-in-Ok-None-clause-outcome
returns-in-Ok-None-clause-outcome g c =
    let k = c.instructions.invariant in
    let found = rw c.in-Ok-None.field-0-is at c.in-Ok-None.ensures.items in
    (finishes _ _ _ _ _ _ _ _ _ c.end.result k found (c.end.ensures k.state k.at)).0

pub returns-in-Ok-None-clause-lines : goal.returns-in-Ok-None-clause-lines
returns-in-Ok-None-clause-lines g c =
    let k = c.instructions.invariant in
    let found = rw c.in-Ok-None.field-0-is at c.in-Ok-None.ensures.items in
    adds c.end.result _ _ _ (finishes _ _ _ _ _ _ _ _ _ c.end.result k found (c.end.ensures k.state k.at)).1

pub returns-in-Err-take-clause-outcome : goal.returns-in-Err-take-clause-outcome
returns-in-Err-take-clause-outcome g c =
    let k = c.instructions.invariant in
    let next = rw c.in-Ok-Some.field-0-is at c.in-Ok-Some.ensures.next in
    let found = rw c.in-Ok-Some.field-0-is at c.in-Ok-Some.ensures.items in
    let b = begins _ _ _ _ next in
    (stops _ _ _ _ _ _ _ _ _ _ _ _ _ _ k b found.2 (c.in-Err-take.ensures.taken k.state b.first k.at)).0

pub returns-in-Err-take-clause-lines : goal.returns-in-Err-take-clause-lines
returns-in-Err-take-clause-lines g c =
    let k = c.instructions.invariant in
    let next = rw c.in-Ok-Some.field-0-is at c.in-Ok-Some.ensures.next in
    let found = rw c.in-Ok-Some.field-0-is at c.in-Ok-Some.ensures.items in
    let b = begins _ _ _ _ next in
    (stops _ _ _ _ _ _ _ _ _ _ _ _ _ _ k b found.2 (c.in-Err-take.ensures.taken k.state b.first k.at)).1

pub instructions-preserved : goal.instructions-preserved
instructions-preserved g c =
    let k = c.instructions.invariant in
    let next = rw c.in-Ok-Some.field-0-is at c.in-Ok-Some.ensures.next in
    let found = rw c.in-Ok-Some.field-0-is at c.in-Ok-Some.ensures.items in
    let b = begins _ _ _ _ next in
    goes_on _ _ _ _ _ _ _ _ _ _ _ _ _ k b found.0 found.1 found.2 (c.in-Ok-take.ensures.taken k.state b.first k.at) c.in-Ok-take.ensures.open

pub returns-in-Ok-push_unread-clause-outcome : goal.returns-in-Ok-push_unread-clause-outcome
returns-in-Ok-push_unread-clause-outcome g c =
    let k = c.instructions.invariant in
    let b = breaks _ _ _ c.in-Err-next_instr.ensures.next in
    rw c.unread.ensures (unread_stops _ _ _ _ _ _ _ _ _ _ _ k b c.in-Err-next_instr.ensures.items c.in-Ok-push_unread.ensures).0

pub returns-in-Ok-push_unread-clause-lines : goal.returns-in-Ok-push_unread-clause-lines
returns-in-Ok-push_unread-clause-lines g c =
    let k = c.instructions.invariant in
    let b = breaks _ _ _ c.in-Err-next_instr.ensures.next in
    rw c.unread.ensures (unread_stops _ _ _ _ _ _ _ _ _ _ _ k b c.in-Err-next_instr.ensures.items c.in-Ok-push_unread.ensures).1
