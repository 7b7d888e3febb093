use Rattle.ms_trace.proofs.Loop.{begins, breaks}
use Rattle.ms_trace.proofs.Listed.{on_ok, list_begun, list_goes_on, list_ends, list_breaks}
use Rattle.ms_trace.proofs.listing.list_instructions.Goals as goal

pub instructions-init : goal.instructions-init
instructions-init c = list_begun _ _ _

pub returns-in-Ok-None : goal.returns-in-Ok-None
returns-in-Ok-None c =
    let found = rw c.in-Ok-None.field-0-is at c.in-Ok-None.ensures.items in
    list_ends _ _ _ _ _ _ c.instructions.invariant found

pub returns-in-Err : goal.returns-in-Err
returns-in-Err c =
    let b = breaks _ _ _ c.in-Err.ensures.next in
    on_ok c.push_unread.result (list_breaks _ _ _ _ _ _ _ _ c.instructions.invariant b) c.push_unread.ensures

pub instructions-preserved : goal.instructions-preserved
instructions-preserved c =
    let next = rw c.in-Ok-Some.field-0-is at c.in-Ok-Some.ensures.next in
    let found = rw c.in-Ok-Some.field-0-is at c.in-Ok-Some.ensures.items in
    list_goes_on _ _ _ _ _ _ _ _ _ c.instructions.invariant (begins _ _ _ _ next) found.0 found.1 c.in_ok-push_listed-in-Ok-Some.ensures
